-- Which lists of numbers are short lists of reads, computed: up to eight, each below 2 ^ 32, and no step of another kind
-- at any place.
-- Assumes nothing.
use Rattle.std.specs.Prelude.{ℕ, Bool, true, false, not, ◌&&◌, List, [], ◌∷◌, ◌++◌, T, replicate}
use Rattle.semantics.specs.declared.Step.TheVariants.{Read, Write, Work, Supply, Reset}
use Rattle.semantics.specs.Encoding.{encode}
use Rattle.playback.specs.Reads.{all_reads, few_reads}

abbrev yes : List (List ℕ) → Bool
yes [] = true
yes (l ∷ m) = few_reads l && yes m

abbrev no : List (List ℕ) → Bool
no [] = true
no (l ∷ m) = not (few_reads l) && no m

-- so many reads of address a
abbrev reads : ℕ → ℕ → List ℕ
reads n a = replicate n (encode (Read a))

-- the number alone, first, between reads, and as the last of eight
abbrev among : ℕ → List (List ℕ)
among c = (c ∷ []) ∷ (c ∷ reads 7 0) ∷ (reads 3 1 ++ c ∷ reads 2 0x1000000) ∷ (reads 7 0xFFFFFF ++ c ∷ []) ∷ []

pub few_reads_hold : T (yes ([] ∷ reads 1 0 ∷ reads 2 0x40 ∷ reads 7 0 ∷ reads 8 0xFFFFFF ∷ reads 8 0x1000000 ∷ among (encode (Read 5)) ++ among 4294967295))
    × T (no (reads 9 0 ∷ reads 9 0xFFFFFF ∷ reads 16 0 ∷ []))
    × T (no (among (encode (Write 0 0)) ++ among (encode (Write 0xFFFFFF 0xFFFF)) ++ among (encode (Work 0)) ++ among (encode (Work 65535))))
    × T (no (among (encode (Supply false)) ++ among (encode (Supply true)) ++ among (encode Reset)))
    -- and numbers that encode no step: a word beside a read, and the largest
    × T (no (among 4294967296 ++ among 4294967297 ++ among 18446744073709551615))
unfolding all_reads few_reads
few_reads_hold = (tt, tt, tt, tt, tt)
