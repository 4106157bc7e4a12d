-- The refusal card computed: each row at its limits, on parts of both sizes, and the lowest number where several rows
-- apply. An array is told by its length alone, and a state by whether it is well formed; RefusalCases has whole steps.
-- Assumes nothing.
use Rattle.std.specs.Prelude.{ℕ, Bool, true, false, ◌&&◌, List, [], ◌∷◌, ◌++◌, T, eqb, Option, Some, None}
use Rattle.refusal.specs.declared.Refusal.{Refusal}
use Rattle.refusal.specs.declared.Refusal.TheVariants as refusal
use Rattle.geometry.specs.declared.Part.TheVariants.{FullBottom, FullTop, BenchBottom, BenchTop}
use Rattle.geometry.specs.declared.Geometry.{Geometry}
use Rattle.geometry.specs.Blocks.{geometry_of, mirror, block_from, block_of}
use Rattle.semantics.specs.declared.Step.{Step}
use Rattle.semantics.specs.declared.Step.TheVariants.{Read, Write, Work, Supply, Reset}
use Rattle.semantics.specs.Card.{row, given, number_given, card}

-- one is given, or none, as wanted: they are told apart by their numbers
abbrev same : Option Refusal → Option Refusal → Bool
same a b = eqb (number_given a) (number_given b)

-- each of the steps is refused for r, or for nothing
abbrev gives : Geometry → Bool → ℕ → Option Refusal → List Step → Bool
gives g formed n r [] = true
gives g formed n r (x ∷ l) = same (given (card g formed n x)) r && gives g formed n r l

abbrev every : List Bool → Bool
every [] = true
every (b ∷ l) = b && every l

-- ---- steps by what their own numbers are refused for

-- nothing: 65,536 is no count, and is an address
abbrev plain : List Step
plain =
    Read 0 ∷ Read 65536 ∷ Read 16777215 ∷ Write 0 0xFFFF ∷ Write 65536 0 ∷ Write 16777215 0xFFFF
    ∷ Work 0 ∷ Work 1 ∷ Work 65535 ∷ Supply true ∷ Supply false ∷ Reset ∷ []

abbrev far : List Step
far =
    Read 16777216 ∷ Read 16777217 ∷ Read 4294967295
    ∷ Write 16777216 0 ∷ Write 16777217 0xFFFF ∷ Write 4294967295 0 ∷ []

abbrev long : List Step
long = Work 65536 ∷ Work 65537 ∷ Work 16777215 ∷ Work 16777216 ∷ Work 4294967295 ∷ []

abbrev any : List Step
any = plain ++ far ++ long

-- ---- row 5

-- no part has a location that lies in no block (`address_good`), but a geometry has whose unit is no multiple of its
-- small blocks: here four of one word, and the last of the five words, as counted from their end, lies in none
abbrev odd : Bool → Geometry
odd t = record { unit = 5; smalls = 4; places = 1; group = 1; top = t }

abbrev within : List Step
within =
    Read 1 ∷ Read 3 ∷ Read 6 ∷ Write 1 0 ∷ Write 3 4 ∷ Write 8 9
    ∷ Work 0 ∷ Work 4 ∷ Work 9 ∷ Supply true ∷ Supply false ∷ Reset ∷ []

abbrev between : List Step
between = Read 4 ∷ Read 9 ∷ Read 16777214 ∷ Write 4 0 ∷ Write 9 0xFFFF ∷ []

abbrev pub card_cases : List Bool
card_cases =
    -- no row applies, or 3 alone, or 4 alone
    gives (geometry_of FullBottom) true 16777216 None plain
    ∷ gives (geometry_of FullTop) true 16777216 None plain
    ∷ gives (geometry_of BenchBottom) true 16384 None plain
    ∷ gives (geometry_of BenchTop) true 16384 None plain
    ∷ gives (geometry_of FullBottom) true 16777216 (Some refusal.Address) far
    ∷ gives (geometry_of BenchTop) true 16384 (Some refusal.Address) far
    ∷ gives (geometry_of FullTop) true 16777216 (Some refusal.WorkCount) long
    ∷ gives (geometry_of BenchBottom) true 16384 (Some refusal.WorkCount) long
    -- 1, whatever else applies: one word less, one more, none, and the length of the other parts
    ∷ gives (geometry_of FullBottom) true 16777215 (Some refusal.ArrayLength) any
    ∷ gives (geometry_of FullTop) false 16777217 (Some refusal.ArrayLength) any
    ∷ gives (geometry_of FullTop) true 16384 (Some refusal.ArrayLength) any
    ∷ gives (geometry_of BenchBottom) false 16383 (Some refusal.ArrayLength) any
    ∷ gives (geometry_of BenchTop) true 16385 (Some refusal.ArrayLength) any
    ∷ gives (geometry_of BenchTop) true 16777216 (Some refusal.ArrayLength) any
    ∷ gives (geometry_of BenchBottom) true 0 (Some refusal.ArrayLength) any
    -- 2, whatever else applies but 1
    ∷ gives (geometry_of FullBottom) false 16777216 (Some refusal.Malformed) any
    ∷ gives (geometry_of BenchTop) false 16384 (Some refusal.Malformed) any
    -- 5, and what comes before it
    ∷ gives (odd false) true 5 None (Read 0 ∷ Read 5 ∷ within)
    ∷ gives (odd true) true 5 None (Read 2 ∷ Write 9 0 ∷ within)
    ∷ gives (odd false) true 5 (Some refusal.NoBlock) between
    ∷ gives (odd true) true 5 (Some refusal.NoBlock) (Read 0 ∷ Write 5 0 ∷ [])
    ∷ gives (odd false) true 5 (Some refusal.Address) (Read 16777219 ∷ Write 16777219 0 ∷ [])
    ∷ gives (odd false) false 5 (Some refusal.Malformed) (between ++ any)
    ∷ gives (odd false) true 4 (Some refusal.ArrayLength) (between ++ any)
    -- of rows: none, none that applies, in order, out of order, those left out that do not apply
    ∷ same (given []) None
    ∷ same (given (row refusal.Address false ∷ row refusal.ArrayLength false ∷ [])) None
    ∷ same (given (row refusal.NoPart true ∷ [])) (Some refusal.NoPart)
    ∷ same (given (row refusal.Malformed true ∷ row refusal.WorkCount true ∷ row refusal.NoBlock true ∷ [])) (Some refusal.Malformed)
    ∷ same (given (row refusal.NoBlock true ∷ row refusal.Malformed true ∷ row refusal.WorkCount true ∷ [])) (Some refusal.Malformed)
    ∷ same (given (row refusal.NoBlock true ∷ row refusal.WorkCount true ∷ row refusal.Malformed true ∷ [])) (Some refusal.Malformed)
    ∷ same (given (row refusal.ArrayLength false ∷ row refusal.NoStep true ∷ row refusal.Malformed false ∷ row refusal.WorkCount true ∷ row refusal.Address false ∷ [])) (Some refusal.WorkCount)
    ∷ []

pub card_holds : T (every card_cases)
unfolding mirror block_from block_of given card
card_holds = tt
