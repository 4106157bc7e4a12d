-- What a C program is told, at numbers that are written out, computed: the start of a block of each part, of a number
-- that is no block, and of a number that is no part; the numbers that hold several fields, which differ, so that no
-- two can be exchanged; and when a device powers up.
-- Assumes nothing.
use Rattle.std.specs.Prelude.{ℕ, ◌*◌, Bool, true, not, ◌&&◌, List, [], ◌∷◌, map, ◌≡◌, refl, T, eqb, length, replicate, Ok, Err}
use Rattle.refusal.specs.declared.Refusal.{Refusal}
use Rattle.refusal.specs.declared.Refusal.TheVariants.{ArrayLength, Malformed, NoPart}
use Rattle.geometry.specs.declared.Part.{Part}
use Rattle.geometry.specs.declared.Part.TheVariants.{FullBottom, FullTop, BenchBottom, BenchTop}
use Rattle.geometry.specs.Blocks.{size_of, start_from, start_of, part_named}
use Rattle.semantics.specs.State.{power_up}
use Rattle.wear.specs.Counts.{Counts, no_counts}
use Rattle.intelhex.specs.Records.{verdict, verdict_number, verdict_line, array_read}
use Rattle.intelhex.specs.Text.{written, written_number, written_length, room_after}
use Rattle.saved.specs.Saved.{saved_of}
use Rattle.m58.specs.Calls.{start_code, powers_up, powered_up, unworn, report_code, worn_code, count_code, hex_code}
use Rattle.m58.specs.Calls.{hex_verdict, hex_array, hex_written, hex_room}

-- a part's number, a block's, and the number that is told
pub data Case : Type 0 where
  tells : ℕ → ℕ → ℕ → Case

abbrev pub every : List Case → Bool
every [] = true
every (tells part block n ∷ l) = eqb (start_code part block) n && every l

abbrev pub cases : List Case
cases =
    tells 0 0 0 ∷ tells 0 1 0x004000 ∷ tells 0 4 0x010000 ∷ tells 0 258 0xFF0000 ∷ tells 0 259 16777216 ∷ tells 1 0 0xFFC000 ∷ tells 1 4 0xFE0000 ∷ tells 1 258 0 ∷ tells 1 259 16777216
    ∷ tells 2 0 0 ∷ tells 2 1 0x0010 ∷ tells 2 258 0x3FC0 ∷ tells 2 259 16777216 ∷ tells 3 0 0x3FF0 ∷ tells 3 257 0x0040 ∷ tells 3 258 0 ∷ tells 3 259 16777216 ∷ tells 0 4294967295 16777216
    ∷ tells 4 0 (7 * 4294967296) ∷ tells 4 258 (7 * 4294967296) ∷ tells 4 259 (7 * 4294967296) ∷ tells 4294967295 0 (7 * 4294967296)
    ∷ []

pub cases_hold : T (every cases)
unfolding size_of start_from start_of start_code
cases_hold = tt

-- ---- the numbers that hold several fields

-- how many blocks are unprotected and the lowest; the most worn block and its count, told whole and as the count of
-- one that is asked for; each refused; a refusal of Intel HEX and its line or length: and the number
pub data Code : Type 0 where
  reported : ℕ → ℕ → ℕ → Code
  worn : ℕ → ℕ → ℕ → Code
  counted : ℕ → ℕ → ℕ → Code
  refused : Refusal → ℕ → Code
  hex : ℕ → ℕ → ℕ → Code

abbrev pub told : Code → ℕ → Bool
told (reported n b c) m = eqb (report_code (Ok (record { count = n; lowest = b }))) m
told (worn b n c) m = eqb (worn_code (Ok (record { block = b; count = n }))) m
told (counted b n c) m = eqb (count_code (Ok (record { block = b; count = n }))) m
told (refused e c) m = eqb (report_code (Err e)) m && (eqb (worn_code (Err e)) m && eqb (count_code (Err e)) m)
told (hex r n c) m = eqb (hex_code r n) m

abbrev pub number : Code → ℕ
number (reported n b c) = c
number (worn b n c) = c
number (counted b n c) = c
number (refused e c) = c
number (hex r n c) = c

abbrev pub every_code : List Code → Bool
every_code [] = true
every_code (c ∷ l) = told c (number c) && every_code l

abbrev pub codes : List Code
codes =
    -- the count from bit 16, the lowest block from bit 0
    reported 0 259 0x000000103 ∷ reported 3 4 0x000030004 ∷ reported 259 0 0x001030000
    -- the count from bit 16, the block from bit 0
    ∷ worn 0 0 0 ∷ worn 4 3 0x000030004 ∷ worn 258 65535 0x0FFFF0102
    -- the count from bit 0, and no block
    ∷ counted 4 3 3 ∷ counted 258 65535 0xFFFF
    -- the refusal from bit 32, and nothing beside it
    ∷ refused Malformed 0x200000000 ∷ refused ArrayLength 0x100000000
    -- the refusal from bit 32, and of the number no more than 32 bits
    ∷ hex 0 6 6 ∷ hex 11 3 0xB00000003 ∷ hex 14 0 0xE00000000 ∷ hex 0 90140 90140 ∷ hex 17 4294967295 0x11FFFFFFFF ∷ hex 17 4294967296 0x11FFFFFFFF ∷ hex 0 8589934593 0xFFFFFFFF
    ∷ []

pub codes_hold : T (every_code codes)
codes_hold = tt

-- ---- a part's number, and the room

-- a part's number and a room of so many words: whether a device powers up there
pub data Power : Type 0 where
  powers refuses : ℕ → ℕ → Power

abbrev pub every_power : List Power → Bool
every_power [] = true
every_power (powers p n ∷ l) = powers_up p (replicate n 7) && every_power l
every_power (refuses p n ∷ l) = not (powers_up p (replicate n 7)) && (eqb (length (powered_up p (replicate n 7))) n && every_power l)

abbrev pub power : List Power
power =
    powers 0 25 ∷ powers 1 25 ∷ powers 2 25 ∷ powers 3 25 ∷ refuses 4 25 ∷ refuses 4294967295 25 ∷ refuses 0 0 ∷ refuses 0 24 ∷ refuses 3 26 ∷ refuses 4 0
    ∷ []

-- and a number that is no part is 7 for Intel HEX, whatever the text and the words, and leaves the words and the room
abbrev pub no_part : Bool
no_part =
    eqb (hex_verdict 4 (1 ∷ []) (2 ∷ [])) 0x700000000 && (eqb (hex_written 4 (1 ∷ []) (2 ∷ [])) 0x700000000 && (eqb (length (hex_array 4 (1 ∷ []) (2 ∷ 3 ∷ []))) 2 && eqb (length (hex_room 4 (1 ∷ []) (2 ∷ 3 ∷ 4 ∷ []))) 3))

pub power_hold : T (every_power power) × T no_part
unfolding powers_up powered_up hex_verdict hex_written hex_array hex_room
power_hold = (tt, tt)

-- ---- the part that a number names

-- "the part as 0 to 3 (full bottom, full top, bench bottom, bench top)"; 7 "part number above 3"
pub named_hold : map part_named (0 ∷ 1 ∷ 2 ∷ 3 ∷ 4 ∷ 5 ∷ 4294967295 ∷ [])
    ≡ Ok FullBottom ∷ Ok FullTop ∷ Ok BenchBottom ∷ Ok BenchTop ∷ Err NoPart ∷ Err NoPart ∷ Err NoPart ∷ []
named_hold = refl

-- ---- what is told of each part, by its number

abbrev parts : List Part
parts = FullBottom ∷ FullTop ∷ BenchBottom ∷ BenchTop ∷ []

abbrev numbers : List ℕ
numbers = 0 ∷ 1 ∷ 2 ∷ 3 ∷ []

-- the words of power-up of that part, and else the room as it was; the counts at 0, and else those that stood
pub powered_hold : (k : Counts)
    → (map (λ n. powered_up n (replicate 25 7)) numbers ≡ map (λ p. saved_of (power_up p)) parts)
    × (powered_up 4 (replicate 25 7) ≡ replicate 25 7) × (powered_up 0 (7 ∷ 8 ∷ []) ≡ 7 ∷ 8 ∷ [])
    × (map (λ n. unworn n (replicate 25 7) k) numbers ≡ replicate 4 no_counts) × (unworn 4 (replicate 25 7) k ≡ k)
    × (unworn 0 (replicate 24 7) k ≡ k)
unfolding powers_up powered_up unworn
powered_hold k = (refl, refl, refl, refl, refl, refl)

-- a text read into that part's array: the refusal and beside it the line, and the array; an array written out: the
-- refusal and beside it the length, and the room
pub hex_hold : (text ws room : List ℕ)
    → (map (λ n. hex_verdict n text ws) numbers
    ≡ map (λ p. hex_code (verdict_number (verdict p text ws)) (verdict_line (verdict p text ws))) parts)
    × (map (λ n. hex_array n text ws) numbers ≡ map (λ p. array_read p text ws) parts)
    × (map (λ n. hex_written n ws room) numbers
    ≡ map (λ p. hex_code (written_number (written p ws room)) (written_length (written p ws room))) parts)
    × (map (λ n. hex_room n ws room) numbers ≡ map (λ p. room_after p ws room) parts)
unfolding hex_verdict hex_array hex_written hex_room
hex_hold text ws room = (refl, refl, refl, refl)

-- an array that is no part's: 1, and no line or length beside it
pub short_hold : (map (λ n. hex_verdict n (58 ∷ []) (1 ∷ 2 ∷ [])) numbers ≡ replicate 4 0x100000000)
    × (map (λ n. hex_written n (1 ∷ 2 ∷ []) (7 ∷ [])) numbers ≡ replicate 4 0x100000000)
unfolding hex_verdict hex_written verdict written
short_hold = (refl, refl)
