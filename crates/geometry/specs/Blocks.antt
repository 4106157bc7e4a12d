-- Words, blocks and banks of a part: document 01, "Words, blocks, banks". Definitions only; the laws are in Laws.
-- Everything is said once over a Geometry. The document's unit u is `unit`; its rules are the case of 4 small blocks that share the first of
-- 256 main-size places, 16 of which make a bank.
-- Assumes nothing.
use Rattle.std.specs.Prelude.{ℕ, ◌+◌, ◌-◌, ◌*◌, ◌/◌, ◌%◌, ◌<◌, ◌≤◌, true, false, cond, ◌≡◌, ltb, leb, eqb, Result, Ok, Err}
use Rattle.geometry.specs.declared.Part.{Part}
use Rattle.geometry.specs.declared.Part.TheVariants.{FullBottom, FullTop, BenchBottom, BenchTop}
use Rattle.geometry.specs.declared.Geometry.{Geometry}
use Rattle.geometry.specs.declared.Located.{Located}
use Rattle.refusal.specs.declared.Refusal.{Refusal}
use Rattle.refusal.specs.declared.Refusal.TheVariants.{Address, NoPart}
use Rattle.refusal.specs.Numbers.{number}

-- "The full parts have u = 65,536. Two bench parts (H), top and bottom, have u = 64, so that a program can hold one."
abbrev pub geometry_of : Part → Geometry
geometry_of FullBottom = record { unit = 65536; smalls = 4; places = 256; group = 16; top = false }
geometry_of FullTop = record { unit = 65536; smalls = 4; places = 256; group = 16; top = true }
geometry_of BenchBottom = record { unit = 64; smalls = 4; places = 256; group = 16; top = false }
geometry_of BenchTop = record { unit = 64; smalls = 4; places = 256; group = 16; top = true }

-- the words of a small block: "0 to 3 of u/4 words"
abbrev pub small : Geometry → ℕ
small g = g.unit / g.smalls

-- the words of a bank: 16u
abbrev pub bank_words : Geometry → ℕ
bank_words g = g.group * g.unit

-- the words of the array: "The lent array has 256 x u words"
abbrev pub words : Geometry → ℕ
words g = g.places * g.unit

-- "There are 259 blocks": the small ones take the first place, each other place is a block
abbrev pub blocks : Geometry → ℕ
blocks g = g.places + (g.smalls - 1)

-- the banks, "0 to 15"
abbrev pub banks : Geometry → ℕ
banks g = g.places / g.group

-- "The location is the address modulo the array length"
abbrev pub location : Geometry → ℕ → ℕ
location g address = address % words g

-- "Top: put 256u - 1 - L for L in both rules": a location counted from the end that has the small blocks
unfoldable pub mirror : Geometry → ℕ → ℕ
mirror g l = cond g.top (words g - 1 - l) l

-- "Bottom: location L below u lies in block L div (u/4), any other in block L div u + 3"
unfoldable pub block_from : Geometry → ℕ → ℕ
block_from g l = cond (ltb l g.unit) (l / small g) (l / g.unit + (g.smalls - 1))

unfoldable pub block_of : Geometry → ℕ → ℕ
block_of g l = block_from g (mirror g l)

-- "The bank is L div (16u), 0 to 15"
unfoldable pub bank_of : Geometry → ℕ → ℕ
bank_of g l = mirror g l / bank_words g

-- the words of block b: "0 to 3 of u/4 words, 4 to 258 of u words"; a number that is no block has none
unfoldable pub size_of : Geometry → ℕ → ℕ
size_of g b = cond (ltb b g.smalls) (small g) (cond (ltb b (blocks g)) g.unit 0)

-- the first location of block b, counted from the end that has the small blocks
unfoldable pub start_from : Geometry → ℕ → ℕ
start_from g b = cond (ltb b g.smalls) (b * small g) ((b - (g.smalls - 1)) * g.unit)

-- the lowest location of block b, and 0 for a number that is no block
unfoldable pub start_of : Geometry → ℕ → ℕ
start_of g b =
    cond (ltb b (blocks g)) (cond g.top (words g - (start_from g b + size_of g b)) (start_from g b)) 0

-- the lowest location of bank k, and 0 for a number that is no bank
unfoldable pub bank_start : Geometry → ℕ → ℕ
bank_start g k =
    cond (ltb k (banks g)) (cond g.top (words g - (k * bank_words g + bank_words g)) (k * bank_words g)) 0

-- "Offsets below count from the lowest location of the bank or block"
unfoldable pub block_offset : Geometry → ℕ → ℕ
block_offset g l = l - start_of g (block_of g l)

unfoldable pub bank_offset : Geometry → ℕ → ℕ
bank_offset g l = l - bank_start g (bank_of g l)

-- the bank that block b lies in
unfoldable pub bank_of_block : Geometry → ℕ → ℕ
bank_of_block g b = bank_of g (start_of g b)

-- what every part's geometry has, and all that the laws ask of one
pub record Sound (g : Geometry) : Type 0 where
  pub unit_pos : 0 < g.unit
  pub unit_limit : g.unit ≤ 16777216
  pub smalls_pos : 0 < g.smalls
  pub places_pos : 0 < g.places
  pub group_pos : 0 < g.group
  pub small_pos : 0 < small g
  pub whole : g.smalls * small g ≡ g.unit
  pub banks_whole : g.places / g.group * g.group ≡ g.places
  pub words_pos : 0 < words g
  pub limit : words g ≤ 16777216
  pub blocks_limit : blocks g ≤ 65535
  pub bank_pos : 0 < bank_words g
  pub bank_limit : bank_words g ≤ words g

-- ---- the lookup of the host bench

-- "the part as 0 to 3 (full bottom, full top, bench bottom, bench top)"
abbrev pub part_numbered : ℕ → Part
part_numbered n = cond (eqb n 0) FullBottom (cond (eqb n 1) FullTop (cond (eqb n 2) BenchBottom BenchTop))

-- the same, where "part number above 3" is refused
abbrev pub part_named : ℕ → Result Part Refusal
part_named n = cond (ltb 3 n) (Err NoPart) (Ok (part_numbered n))

abbrev pub found : Geometry → ℕ → Located
found g l = record { block = block_of g l; bank = bank_of g l }

-- "lookup of an address refuses 3 and 7 only"; "The lowest number is given"
unfoldable pub lookup_of : ℕ → ℕ → Result Located Refusal
lookup_of part address =
    cond (leb 16777216 address) (Err Address)
    (cond (ltb 3 part) (Err NoPart)
    (Ok (found (geometry_of (part_numbered part)) (location (geometry_of (part_numbered part)) address))))

-- "A refusal gives its number beside the answer 0": the three numbers of an answer, for a caller that wants numbers
abbrev pub number_in : Result Located Refusal → ℕ
number_in (Ok f) = 0
number_in (Err e) = number e

abbrev pub block_in : Result Located Refusal → ℕ
block_in (Ok f) = f.block
block_in (Err e) = 0

abbrev pub bank_in : Result Located Refusal → ℕ
bank_in (Ok f) = f.bank
bank_in (Err e) = 0
