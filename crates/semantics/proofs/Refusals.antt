-- Which refusal comes, and that it changes nothing: document 01, "Refusal card"; and of a reserved bit that is set, document 02, item 4, and of what runs without supply, item 5.
-- Assumes nothing.
use Rattle.std.specs.Prelude.{◌≡◌, refl, List, true, false, ℕ, length, Option, Some, None, Err}
use Rattle.std.specs.Option.{option_map_or}
use Rattle.std.proofs.Common.{◌∙◌, arith, eq-eqb, ne_eqb}
use Rattle.std.proofs.Math.Bool.{and-false}
use Rattle.refusal.specs.declared.Refusal.{Refusal}
use Rattle.refusal.specs.declared.Refusal.TheVariants as refusal
use Rattle.geometry.specs.Blocks.{words}
use Rattle.protection.specs.Words.{bit, spare_zero}
use Rattle.semantics.specs.declared.State.{State}
use Rattle.semantics.specs.declared.Step.{Step}
use Rattle.semantics.specs.declared.Step.TheVariants.{Read, Write, Work, Supply, Reset}
use Rattle.semantics.specs.declared.Answer.TheVariants.{Refused}
use Rattle.semantics.specs.declared.Next.{Next}
use Rattle.semantics.specs.Branches.{of_option, by_test}
use Rattle.semantics.specs.State.{geometry, runs}
use Rattle.semantics.specs.Register.{is_reserved, reserved_zero}
use Rattle.semantics.proofs.RegisterBits.{zero_each}
use Rattle.semantics.specs.WellFormed.{activity_formed, places_used, zero_from, runs_supplied, well_formed}
use Rattle.semantics.proofs.Split.{reset_refused, refused_first}
use Rattle.semantics.specs.Card.{number_given}
use Rattle.semantics.specs.Steps.{refusal_of, next, accepted, accepted_array, step_of, array_of, number_of, value_of, reported_of}
use Rattle.semantics.specs.Refusals.{value_given}

-- what holds of a step that is accepted, and of one that is refused, holds of every step; and so of the array
pub of_step : (P : Next → Type 0) (s : State) (xs : List ℕ) (x : Step) → P (accepted s xs x)
    → ((e : Refusal) → refusal_of s (length xs) x ≡ Some e → P (next s (Refused e))) → P (step_of s xs x)
unfolding step_of
of_step P s xs x h k = go (refusal_of s (length xs) x) refl
  where
    go : (r : Option Refusal) → refusal_of s (length xs) x ≡ r → P (option_map_or (λ e. next s (Refused e)) r (accepted s xs x))
    go None e = h
    go (Some n) e = k n e

pub of_array : (P : List ℕ → Type 0) (s : State) (xs : List ℕ) (x : Step) → P (accepted_array s xs x) → P xs
    → P (array_of s xs x)
unfolding array_of
of_array P s xs x h k = of_option P (refusal_of s (length xs) x) (λ e. xs) (accepted_array s xs x) h (λ e. k)

-- "A refusal gives its number beside the answer 0, gives back the state it got and leaves all lent memory."
pub refusal_changes_nothing : (s : State) (xs : List ℕ) (x : Step) (e : Refusal) → refusal_of s (length xs) x ≡ Some e → (step_of s xs x ≡ next s (Refused e)) × (array_of s xs x ≡ xs)
unfolding step_of array_of
refusal_changes_nothing s xs x e h = (rw h, rw h)

module _ (s : State) (xs : List ℕ) (x : Step) where
  told : (x : Step) → (number_of (accepted s xs x).answer ≡ 0) × (value_of (accepted s xs x).answer ≡ value_given s xs x)
  unfolding accepted
  told (Read a) = (refl, refl)
  told (Write a w) = (refl, refl)
  told (Work n) = (refl, refl)
  told (Supply on) = (refl, refl)
  told Reset = (refl, refl)

  pub number_by : (r : Option Refusal) → number_of (option_map_or (λ e. next s (Refused e)) r (accepted s xs x)).answer ≡ number_given r
  number_by None = (told x).0
  number_by (Some e) = refl

  pub value_by : (r : Option Refusal) → value_of (option_map_or (λ e. next s (Refused e)) r (accepted s xs x)).answer ≡ option_map_or (λ e. 0) r (value_given s xs x)
  value_by None = (told x).1
  value_by (Some e) = refl

-- the number of the answer is the refusal's, 0 where there is none; and "A refusal gives its number beside the answer 0"
pub answer_number : (s : State) (xs : List ℕ) (x : Step) → number_of (step_of s xs x).answer ≡ number_given (refusal_of s (length xs) x)
unfolding step_of
answer_number s xs x = number_by s xs x (refusal_of s (length xs) x)

pub answer_value : (s : State) (xs : List ℕ) (x : Step) → value_of (step_of s xs x).answer
    ≡ option_map_or (λ e. 0) (refusal_of s (length xs) x) (value_given s xs x)
unfolding step_of
answer_value s xs x = value_by s xs x (refusal_of s (length xs) x)

-- "array length is not 256u": every step is refused 1, whatever the state
pub refusal_1 : (s : State) (n : ℕ) (x : Step) → (n ≡ words (geometry s) → ⊥) → refusal_of s n x ≡ Some refusal.ArrayLength
unfolding refusal_of
refusal_1 s n x h =
    refused_first (geometry s) (well_formed s) n x
    ∙ rw (reset_refused (geometry s) (well_formed s) n, ne_eqb n (words (geometry s)) h)

-- "state not well made", on an array of the part's length: every step is refused 2, and so is the report of unprotected blocks
pub refusal_2 : (s : State) (n : ℕ) (x : Step) → n ≡ words (geometry s) → well_formed s ≡ false → refusal_of s n x ≡ Some refusal.Malformed
unfolding refusal_of
refusal_2 s n x h f =
    refused_first (geometry s) (well_formed s) n x
    ∙ rw (reset_refused (geometry s) (well_formed s) n, eq-eqb n (words (geometry s)) h, f)

pub report_refused : (s : State) → well_formed s ≡ false → reported_of s ≡ Err refusal.Malformed
unfolding reported_of
report_refused s f = rw f

-- ---- the reserved bits of the configuration register

-- "a well made state has them 0": a state with one of them set is not well formed
pub reserved_unformed : (s : State) (i : ℕ) → is_reserved i ≡ true → bit s.control.configuration i ≡ 1 → well_formed s ≡ false
unfolding well_formed
reserved_unformed s i e h =
    by_test (reserved_zero s.control.configuration)
    (λ z. absurd (omega (arith, h, zero_each s.control.configuration z i e)))
    (λ z. rw (z, and-false (zero_from (places_used s.control.activity) s.buffer), and-false (spare_zero s.unprotected), and-false (activity_formed (geometry s) s.control.activity)))

-- so every step is refused 2 on it, and gives state and array back as they were, and the report is refused 2
pub reserved_refused : (s : State) (xs : List ℕ) (x : Step) (i : ℕ) → length xs ≡ words (geometry s) → is_reserved i ≡ true → bit s.control.configuration i ≡ 1
    → (step_of s xs x ≡ next s (Refused refusal.Malformed)) × (array_of s xs x ≡ xs) × (reported_of s ≡ Err refusal.Malformed)
reserved_refused s xs x i n e h =
    let f : well_formed s ≡ false = reserved_unformed s i e h in
    let k = refusal_changes_nothing s xs x refusal.Malformed (refusal_2 s (length xs) x n f) in
    (k.0, k.1, report_refused s f)

-- ---- the supply

-- "In a well made state something runs only with supply on": one in which something runs without it is not well formed
pub unsupplied_unformed : (s : State) → runs s.control.activity.running ≡ true → s.control.supply ≡ false → well_formed s ≡ false
unfolding well_formed runs_supplied
unsupplied_unformed s r h =
    rw (r, h, and-false (reserved_zero s.control.configuration), and-false (zero_from (places_used s.control.activity) s.buffer), and-false (spare_zero s.unprotected), and-false (activity_formed (geometry s) s.control.activity))

-- so every step is refused 2 on it, a supply step too, and gives state and array back as they were, and the report is refused 2
pub unsupplied_refused : (s : State) (xs : List ℕ) (x : Step) → length xs ≡ words (geometry s) → runs s.control.activity.running ≡ true → s.control.supply ≡ false
    → (step_of s xs x ≡ next s (Refused refusal.Malformed)) × (array_of s xs x ≡ xs) × (reported_of s ≡ Err refusal.Malformed)
unsupplied_refused s xs x n r h =
    let f : well_formed s ≡ false = unsupplied_unformed s r h in
    let k = refusal_changes_nothing s xs x refusal.Malformed (refusal_2 s (length xs) x n f) in
    (k.0, k.1, report_refused s f)
