-- The refusal number and the value of each of the four answers, computed. Document 01, "Refusal card": "A refusal
-- gives its number beside the answer 0"; and beside an answer that is no refusal the number is 0.
-- Assumes nothing.
use Rattle.std.specs.Prelude.{ℕ, Bool, true, ◌&&◌, List, [], ◌∷◌, T, eqb}
use Rattle.refusal.specs.declared.Refusal.TheVariants as refusal
use Rattle.semantics.specs.declared.Answer.{Answer}
use Rattle.semantics.specs.declared.Answer.TheVariants.{Word, Units, Done, Refused}
use Rattle.semantics.specs.Steps.{number_of, value_of}

-- an answer, its refusal number, and its value
pub data Case : Type 0 where
  tells : Answer → ℕ → ℕ → Case

abbrev pub every : List Case → Bool
every [] = true
every (tells a n v ∷ l) = eqb (number_of a) n && (eqb (value_of a) v && every l)

abbrev pub answers : List Case
answers =
    tells (Word 0) 0 0 ∷ tells (Word 0x1234) 0 0x1234 ∷ tells (Word 0xFFFF) 0 0xFFFF
    ∷ tells (Units 0) 0 0 ∷ tells (Units 1) 0 1 ∷ tells (Units 64) 0 64 ∷ tells (Units 65535) 0 65535
    ∷ tells Done 0 0
    ∷ tells (Refused refusal.ArrayLength) 1 0 ∷ tells (Refused refusal.Malformed) 2 0 ∷ tells (Refused refusal.Address) 3 0 ∷ tells (Refused refusal.WorkCount) 4 0 ∷ tells (Refused refusal.NoBlock) 5 0 ∷ tells (Refused refusal.NoStep) 6 0
    ∷ []

pub answers_hold : T (every answers)
answers_hold = tt
