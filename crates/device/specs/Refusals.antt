-- A step by the refusal that the code found for it: none, and it is accepted; or one, and nothing changes. Laws for the proofs of the methods.
-- Assumes nothing.
use Rattle.std.specs.Prelude.{ℕ, List, ◌≡◌, length, Option, Some, None}
use Rattle.std.proofs.Common.{◌∙◌, refl}
use Rattle.refusal.specs.declared.Refusal.{Refusal}
use Rattle.semantics.specs.declared.Step.{Step}
use Rattle.semantics.specs.declared.Step.TheVariants.{Reset}
use Rattle.semantics.specs.State.{geometry}
use Rattle.semantics.specs.Split.{step_refusal, first_refusal}
use Rattle.semantics.specs.Steps.{accepted, accepted_array}
use Rattle.wear.specs.Counts.{Counts}
use Rattle.wear.specs.Steps.{refusal_with, step_with, array_with, counts_with, accepted_counts}
use Rattle.wear.proofs.Refused.{refusal_first}
use Rattle.device.specs.declared.Device.{Device}
use Rattle.device.specs.Outcomes.{refused, outcome_of, outcome, array_out, counts_out}

-- where no refusal was found there is none
pub none_left : (o : Option Refusal) → ((e : Refusal) → o ≡ Some e → ⊥) → o ≡ None
none_left None h = refl
none_left (Some e) h = absurd (h e refl)

-- a step without numbers of its own is refused for what every step is
pub none_own : (o : Option Refusal) → o ≡ first_refusal o None
none_own None = refl
none_own (Some e) = refl

module _ (d : Device) (k : Counts) (xs : List ℕ) (x : Step) (e a b : Option Refusal) (device : a ≡ refusal_with d.state k (length xs) Reset) (own : b ≡ step_refusal (geometry d.state) x) (found : e ≡ first_refusal a b) where
  refusal_is : refusal_with d.state k (length xs) x ≡ e
  refusal_is = refusal_first d.state k (length xs) x ∙ rw (← device, ← own, ← found)

  pub outcome_accepted : e ≡ None → outcome_of (accepted d.state xs x) ≡ outcome d k xs x
  unfolding step_with
  outcome_accepted h = rw (refusal_is, h)

  pub outcome_refused : (r : Refusal) → e ≡ Some r → refused d r ≡ outcome d k xs x
  unfolding step_with
  outcome_refused r h = rw (refusal_is, h)

  pub array_accepted : e ≡ None → accepted_array d.state xs x ≡ array_out d k xs x
  unfolding array_with
  array_accepted h = rw (refusal_is, h)

  pub array_refused : (r : Refusal) → e ≡ Some r → xs ≡ array_out d k xs x
  unfolding array_with
  array_refused r h = rw (refusal_is, h)

  pub counts_accepted : e ≡ None → accepted_counts d.state k x ≡ counts_out d k xs x
  unfolding counts_with
  counts_accepted h = rw (refusal_is, h)

  pub counts_refused : (r : Refusal) → e ≡ Some r → k ≡ counts_out d k xs x
  unfolding counts_with
  counts_refused r h = rw (refusal_is, h)
