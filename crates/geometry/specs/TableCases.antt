-- The lookup and the block starts of the four parts at locations that are written out, and what the test of a table says of right and wrong ones, as one table under
-- one statement that the checker computes. The addresses are on both sides of where blocks meet, from the starts in the sheet's Tables 29 to 34.
-- Assumes nothing.
use Rattle.std.specs.Prelude.{ℕ, Bool, true, false, not, ◌&&◌, List, [], ◌∷◌, T, eqb}
use Rattle.geometry.specs.declared.Geometry.{Geometry}
use Rattle.geometry.specs.Blocks.{geometry_of, mirror, block_from, block_of, bank_of, size_of, start_from, start_of, part_numbered, lookup_of, number_in, block_in, bank_in}
use Rattle.geometry.specs.Table.{begins, tied, not_above, scale}

-- six blocks: four of 4 words, then two of 16
abbrev pub few : Geometry
few = record { unit = 16; smalls = 4; places = 3; group = 1; top = false }

-- the same with a fourth of the words, and the small blocks at the top
abbrev pub tight : Geometry
tight = record { unit = 4; smalls = 4; places = 3; group = 1; top = true }

-- one that is not sound: after block 6, at location 6, its formula goes back to block 4
abbrev pub odd : Geometry
odd = record { unit = 7; smalls = 4; places = 4; group = 1; top = false }

-- an address of a part, by its number, lies in a block and a bank, or is refused; a block of a part begins at a location, and has so many words; a word of a part stands for
-- so many words of the full bottom part; the formula begins a block of `few` at a location, or does not; a table passes the test of a geometry from a block and a least entry
-- on, or does not; so many entries of a table are not above a location
pub data Case : Type 0 where
  lies : ℕ → ℕ → ℕ → ℕ → Case
  refuses : ℕ → ℕ → ℕ → Case
  starts spans : ℕ → ℕ → ℕ → Case
  stands : ℕ → ℕ → Case
  opens shuts : ℕ → ℕ → Case
  passes fails : Geometry → ℕ → ℕ → List ℕ → Case
  reaches : List ℕ → ℕ → ℕ → Case

abbrev pub holds : Case → Bool
holds (lies p a b k) = eqb (number_in (lookup_of p a)) 0 && (eqb (block_in (lookup_of p a)) b && eqb (bank_in (lookup_of p a)) k)
holds (refuses p a n) = eqb (number_in (lookup_of p a)) n && (eqb (block_in (lookup_of p a)) 0 && eqb (bank_in (lookup_of p a)) 0)
holds (spans p b n) = eqb (size_of (geometry_of (part_numbered p)) b) n
holds (starts p b l) = eqb (start_of (geometry_of (part_numbered p)) b) l
holds (stands p k) = eqb (scale (geometry_of (part_numbered p))) k
holds (opens b x) = begins few b x
holds (shuts b x) = not (begins few b x)
holds (passes g b least xs) = tied g b least xs
holds (fails g b least xs) = not (tied g b least xs)
holds (reaches xs l n) = eqb (not_above xs l) n

abbrev pub every : List Case → Bool
every [] = true
every (c ∷ l) = holds c && every l

-- full bottom, full top, bench bottom, bench top, of which the last two ignore the upper address lines; 3 and 7, the lowest first
abbrev pub lookups : List Case
lookups =
    lies 0 0x000000 0 0 ∷ lies 0 0x003FFF 0 0 ∷ lies 0 0x004000 1 0 ∷ lies 0 0x007FFF 1 0 ∷ lies 0 0x008000 2 0 ∷ lies 0 0x00BFFF 2 0 ∷ lies 0 0x00C000 3 0 ∷ lies 0 0x00FFFF 3 0
    ∷ lies 0 0x010000 4 0 ∷ lies 0 0x01FFFF 4 0 ∷ lies 0 0x020000 5 0 ∷ lies 0 0x0FFFFF 18 0 ∷ lies 0 0x100000 19 1 ∷ lies 0 0xFEFFFF 257 15 ∷ lies 0 0xFF0000 258 15 ∷ lies 0 0xFFFFFF 258 15
    ∷ lies 1 0xFFFFFF 0 0 ∷ lies 1 0xFFC000 0 0 ∷ lies 1 0xFFBFFF 1 0 ∷ lies 1 0xFF4000 2 0 ∷ lies 1 0xFF3FFF 3 0 ∷ lies 1 0xFF0000 3 0 ∷ lies 1 0xFEFFFF 4 0 ∷ lies 1 0xFE0000 4 0
    ∷ lies 1 0xFDFFFF 5 0 ∷ lies 1 0x100000 242 14 ∷ lies 1 0x0FFFFF 243 15 ∷ lies 1 0x010000 257 15 ∷ lies 1 0x00FFFF 258 15 ∷ lies 1 0x000000 258 15
    ∷ lies 2 0x00000F 0 0 ∷ lies 2 0x000010 1 0 ∷ lies 2 0x00002F 2 0 ∷ lies 2 0x000030 3 0 ∷ lies 2 0x00003F 3 0 ∷ lies 2 0x000040 4 0 ∷ lies 2 0x00007F 4 0 ∷ lies 2 0x000080 5 0
    ∷ lies 2 0x0003FF 18 0 ∷ lies 2 0x000400 19 1 ∷ lies 2 0x003FBF 257 15 ∷ lies 2 0x003FC0 258 15 ∷ lies 2 0x003FFF 258 15 ∷ lies 2 0x004000 0 0 ∷ lies 2 0x004041 4 0
    ∷ lies 3 0x003FFF 0 0 ∷ lies 3 0x003FF0 0 0 ∷ lies 3 0x003FEF 1 0 ∷ lies 3 0x003FD0 2 0 ∷ lies 3 0x003FCF 3 0 ∷ lies 3 0x003FC0 3 0 ∷ lies 3 0x003FBF 4 0 ∷ lies 3 0x003F80 4 0
    ∷ lies 3 0x003C00 18 0 ∷ lies 3 0x003BFF 19 1 ∷ lies 3 0x000040 257 15 ∷ lies 3 0x00003F 258 15 ∷ lies 3 0x000000 258 15 ∷ lies 3 0x004000 258 15
    ∷ lies 3 0xFFFFFF 0 0 ∷ refuses 0 0x1000000 3 ∷ refuses 3 0x1000000 3 ∷ refuses 3 0xFFFFFFFF 3 ∷ refuses 4 0x1000000 3 ∷ refuses 4 0xFFFFFF 7 ∷ refuses 4 0 7
    ∷ []

-- 259 is no block's number
abbrev pub firsts : List Case
firsts =
    starts 0 0 0x000000 ∷ starts 0 1 0x004000 ∷ starts 0 2 0x008000 ∷ starts 0 3 0x00C000 ∷ starts 0 4 0x010000 ∷ starts 0 5 0x020000 ∷ starts 0 18 0x0F0000 ∷ starts 0 19 0x100000
    ∷ starts 0 258 0xFF0000 ∷ starts 0 259 0
    ∷ starts 1 0 0xFFC000 ∷ starts 1 1 0xFF8000 ∷ starts 1 3 0xFF0000 ∷ starts 1 4 0xFE0000 ∷ starts 1 18 0xF00000 ∷ starts 1 19 0xEF0000 ∷ starts 1 257 0x010000 ∷ starts 1 258 0 ∷ starts 1 259 0
    ∷ starts 2 0 0x0000 ∷ starts 2 1 0x0010 ∷ starts 2 3 0x0030 ∷ starts 2 4 0x0040 ∷ starts 2 5 0x0080 ∷ starts 2 258 0x3FC0 ∷ starts 2 259 0
    ∷ starts 3 0 0x3FF0 ∷ starts 3 1 0x3FE0 ∷ starts 3 3 0x3FC0 ∷ starts 3 4 0x3F80 ∷ starts 3 257 0x0040 ∷ starts 3 258 0 ∷ starts 3 259 0
    ∷ spans 0 0 16384 ∷ spans 1 3 16384 ∷ spans 0 4 65536 ∷ spans 1 258 65536 ∷ spans 2 3 16 ∷ spans 3 4 64 ∷ spans 2 258 64 ∷ spans 0 259 0 ∷ spans 3 259 0
    ∷ stands 0 1 ∷ stands 1 1 ∷ stands 2 1024 ∷ stands 3 1024
    ∷ []

-- a table that is right; with an entry one too high or too low, at each of its places; with two entries exchanged; with small blocks as main ones; with an entry too few or too
-- many, or twice; from another block on; with a first entry below the least; a right table of `tight`, and one of `odd` that goes back
abbrev pub tests : List Case
tests =
    opens 0 0 ∷ opens 1 4 ∷ opens 3 12 ∷ opens 4 16 ∷ opens 5 32 ∷ shuts 0 1 ∷ shuts 1 3 ∷ shuts 1 5 ∷ shuts 1 0 ∷ shuts 4 15 ∷ shuts 4 17 ∷ shuts 5 33 ∷ shuts 2 4 ∷ shuts 0 4
    ∷ passes few 0 0 (0 ∷ 4 ∷ 8 ∷ 12 ∷ 16 ∷ 32 ∷ []) ∷ passes few 4 13 (16 ∷ 32 ∷ []) ∷ passes few 4 16 (16 ∷ 32 ∷ []) ∷ passes few 6 33 []
    ∷ fails few 0 0 (1 ∷ 4 ∷ 8 ∷ 12 ∷ 16 ∷ 32 ∷ []) ∷ fails few 0 0 (0 ∷ 5 ∷ 8 ∷ 12 ∷ 16 ∷ 32 ∷ []) ∷ fails few 0 0 (0 ∷ 3 ∷ 8 ∷ 12 ∷ 16 ∷ 32 ∷ []) ∷ fails few 0 0 (0 ∷ 4 ∷ 9 ∷ 12 ∷ 16 ∷ 32 ∷ [])
    ∷ fails few 0 0 (0 ∷ 4 ∷ 7 ∷ 12 ∷ 16 ∷ 32 ∷ []) ∷ fails few 0 0 (0 ∷ 4 ∷ 8 ∷ 13 ∷ 16 ∷ 32 ∷ []) ∷ fails few 0 0 (0 ∷ 4 ∷ 8 ∷ 11 ∷ 16 ∷ 32 ∷ [])
    ∷ fails few 0 0 (0 ∷ 4 ∷ 8 ∷ 12 ∷ 17 ∷ 32 ∷ []) ∷ fails few 0 0 (0 ∷ 4 ∷ 8 ∷ 12 ∷ 15 ∷ 32 ∷ []) ∷ fails few 0 0 (0 ∷ 4 ∷ 8 ∷ 12 ∷ 16 ∷ 33 ∷ [])
    ∷ fails few 0 0 (0 ∷ 4 ∷ 8 ∷ 12 ∷ 16 ∷ 31 ∷ []) ∷ fails few 0 0 (0 ∷ 8 ∷ 4 ∷ 12 ∷ 16 ∷ 32 ∷ []) ∷ fails few 0 0 (0 ∷ 4 ∷ 8 ∷ 12 ∷ 32 ∷ 16 ∷ []) ∷ fails few 0 0 (0 ∷ 16 ∷ 32 ∷ 48 ∷ 64 ∷ 80 ∷ [])
    ∷ fails few 0 0 (0 ∷ 4 ∷ 8 ∷ 12 ∷ 16 ∷ []) ∷ fails few 0 0 (0 ∷ 4 ∷ 8 ∷ 12 ∷ 16 ∷ 32 ∷ 48 ∷ []) ∷ fails few 0 0 (0 ∷ 4 ∷ 4 ∷ 12 ∷ 16 ∷ 32 ∷ []) ∷ fails few 0 0 []
    ∷ fails few 1 0 (0 ∷ 4 ∷ 8 ∷ 12 ∷ 16 ∷ 32 ∷ []) ∷ fails few 3 13 (16 ∷ 32 ∷ []) ∷ fails few 4 17 (16 ∷ 32 ∷ [])
    ∷ passes tight 0 0 (0 ∷ 1 ∷ 2 ∷ 3 ∷ 4 ∷ 8 ∷ []) ∷ fails odd 0 0 (0 ∷ 1 ∷ 2 ∷ 3 ∷ 7 ∷ 5 ∷ 6 ∷ [])
    ∷ []

-- an entry that is the location is not above it; of a table that does not rise each is counted
abbrev pub counts : List Case
counts =
    reaches [] 5 0 ∷ reaches (4 ∷ []) 3 0 ∷ reaches (4 ∷ []) 4 1 ∷ reaches (0 ∷ 4 ∷ 8 ∷ []) 0 1 ∷ reaches (0 ∷ 4 ∷ 8 ∷ []) 3 1 ∷ reaches (0 ∷ 4 ∷ 8 ∷ []) 4 2 ∷ reaches (0 ∷ 4 ∷ 8 ∷ []) 7 2
    ∷ reaches (0 ∷ 4 ∷ 8 ∷ []) 8 3 ∷ reaches (0 ∷ 4 ∷ 8 ∷ []) 900 3 ∷ reaches (4 ∷ 0 ∷ 8 ∷ []) 0 1 ∷ reaches (4 ∷ 0 ∷ 8 ∷ []) 5 2
    ∷ []

pub cases_hold : T (every lookups) × T (every firsts) × T (every tests) × T (every counts)
unfolding mirror block_from block_of bank_of size_of start_from start_of lookup_of begins tied not_above
cases_hold = (tt, tt, tt, tt)
