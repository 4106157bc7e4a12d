-- What the state with its counts and the array are refused for, 1, 2 or nothing, and what a step makes of them. That no step changes the first is `held_next` (proofs/Held), and so a list
-- needs one test of it.
-- Assumes nothing.
use Rattle.std.specs.Prelude.{ℕ, List, ◌≡◌, Option}
use Rattle.std.proofs.Math.ListN.{length}
use Rattle.refusal.specs.declared.Refusal.{Refusal}
use Rattle.semantics.specs.declared.State.{State}
use Rattle.semantics.specs.declared.Step.{Step}
use Rattle.semantics.specs.declared.Step.TheVariants.{Reset}
use Rattle.semantics.specs.declared.Answer.{Answer}
use Rattle.semantics.specs.Steps.{next}
use Rattle.wear.specs.Counts.{Counts}
use Rattle.wear.specs.Steps.{refusal_with, step_with, array_with, counts_with}

-- a is what every step on the state, its counts and the array is refused for, if anything, and a reset for nothing else
pub record Held (a : Option Refusal) (s : State) (k : Counts) (xs : List ℕ) : Type 0 where
  pub same : a ≡ refusal_with s k (length xs) Reset
  pub sixteen : length s.banks ≡ 16
  pub five : length s.unprotected ≡ 5
  pub thirty_two : length s.buffer ≡ 32

-- the state t, the answer a, the array ys and the counts l are what the step x makes of the state with its counts and the array
abbrev pub Does : State → Counts → List ℕ → Step → State → Answer → List ℕ → Counts → Type 0
Does s k xs x t a ys l = (next t a ≡ step_with s k xs x) × (ys ≡ array_with s k xs x) × (l ≡ counts_with s k xs x)
