-- Demand 1's "exactly when" of a step with its counts: what it answers and leaves, by the row that document 01's
-- refusal card gives, with row 2 as document 02, item 6, has it.
-- Assumes nothing.
use Rattle.std.specs.Prelude.{ℕ, List, ◌≡◌, length, Some, None}
use Rattle.std.specs.Option.{option_map_or}
use Rattle.refusal.specs.declared.Refusal.{Refusal}
use Rattle.semantics.specs.declared.State.{State}
use Rattle.semantics.specs.declared.Step.{Step}
use Rattle.semantics.specs.declared.Answer.TheVariants.{Refused}
use Rattle.semantics.specs.State.{geometry}
use Rattle.semantics.specs.Card.{given, number_given, card}
use Rattle.semantics.specs.Steps.{next, accepted, accepted_array, number_of, value_of}
use Rattle.semantics.specs.Refusals.{value_given}
use Rattle.semantics.proofs.Refusals.{number_by, value_by}
use Rattle.wear.specs.Counts.{Counts}
use Rattle.wear.specs.Steps.{formed_with, refusal_with, accepted_counts, step_with, array_with, counts_with}

module _ (s : State) (k : Counts) (xs : List ℕ) (x : Step) where
  -- the answer's number is that of the card's row, 0 where no row applies, and a refusal's value is 0
  pub number_is_given : number_of (step_with s k xs x).answer ≡ number_given (given (card (geometry s) (formed_with s k) (length xs) x))
  unfolding step_with refusal_with
  number_is_given = number_by s xs x (refusal_with s k (length xs) x)

  pub value_is_given : value_of (step_with s k xs x).answer
      ≡ option_map_or (λ e. 0) (given (card (geometry s) (formed_with s k) (length xs) x)) (value_given s xs x)
  unfolding step_with refusal_with
  value_is_given = value_by s xs x (refusal_with s k (length xs) x)

  -- where no row applies the step is accepted; where one does, the state, the array and the counts stay
  pub accepted_exactly : given (card (geometry s) (formed_with s k) (length xs) x) ≡ None
      → (step_with s k xs x ≡ accepted s xs x) × (array_with s k xs x ≡ accepted_array s xs x)
      × (counts_with s k xs x ≡ accepted_counts s k x)
  unfolding step_with array_with counts_with refusal_with
  accepted_exactly h = (rw h, rw h, rw h)

  pub refused_exactly : (e : Refusal) → given (card (geometry s) (formed_with s k) (length xs) x) ≡ Some e
      → (step_with s k xs x ≡ next s (Refused e)) × (array_with s k xs x ≡ xs) × (counts_with s k xs x ≡ k)
  unfolding step_with array_with counts_with refusal_with
  refused_exactly e h = (rw h, rw h, rw h)
