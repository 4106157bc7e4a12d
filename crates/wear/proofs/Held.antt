-- What the state with its counts and the array are refused for, 1, 2 or nothing, no step changes: so a list needs one test of them. And a step by its kind, as the code plays it.
-- Assumes nothing.
use Rattle.std.specs.Prelude.{ℕ, Bool, cond, ◌&&◌, List, ◌≡◌, eqb, Option, Some, None}
use Rattle.std.proofs.lemmas.Option.{none-some}
use Rattle.std.proofs.Math.Bool.{true, false}
use Rattle.std.proofs.Math.Path.{refl}
use Rattle.std.proofs.Common.{sym, ap, ◌∙◌}
use Rattle.std.proofs.Math.ListN.{length}
use borrow.Author.Tests.{eqb-true}
use Rattle.refusal.specs.declared.Refusal.{Refusal}
use Rattle.refusal.specs.declared.Refusal.TheVariants as refusal
use Rattle.geometry.specs.declared.Part.{Part}
use Rattle.geometry.specs.Blocks.{geometry_of, words}
use Rattle.semantics.specs.declared.State.{State}
use Rattle.semantics.specs.declared.Step.{Step}
use Rattle.semantics.specs.declared.Step.TheVariants.{Read, Write, Work, Supply, Reset}
use Rattle.semantics.specs.declared.Answer.{Answer}
use Rattle.semantics.specs.declared.Answer.TheVariants.{Word, Units, Done, Refused}
use Rattle.semantics.specs.declared.Place.{Place}
use Rattle.semantics.specs.declared.Worked.{Worked}
use Rattle.semantics.specs.State.{geometry, with_control, with_buffer, with_supply, power_up}
use Rattle.semantics.specs.View.{place_of}
use Rattle.semantics.specs.Reading.{read_word}
use Rattle.semantics.specs.Writing.{written_at, written}
use Rattle.semantics.specs.Working.{units_done, array_after, buffer_after, worked_on, worked, worked_array}
use Rattle.semantics.specs.WellFormed.{well_formed}
use Rattle.semantics.specs.Branches.{of_option}
use Rattle.semantics.specs.Split.{step_refusal, first_refusal}
use Rattle.semantics.specs.Steps.{next, switched_to, accepted, accepted_array, step_of, array_of}
use Rattle.semantics.proofs.Invariant.{Kept, kept_step, length_accepted, length_kept, state_good}
use Rattle.semantics.proofs.Kept.{keeps}
use Rattle.wear.specs.Counts.{Counts, shared_zero, counts_after}
use Rattle.wear.specs.Steps.{formed_with, refusal_with, accepted_counts, step_with, array_with, counts_with}
use Rattle.wear.proofs.Refused.{shared_kept, reset_with, refusal_first, refusal_alone, step_alone, array_alone, bad_refused}
use Rattle.wear.specs.Held.{Held, Does}

both : (a b c : Bool) → cond a (cond (b && c) None (Some refusal.Malformed)) (Some refusal.ArrayLength) ≡ None → (a ≡ true) × (b ≡ true) × (c ≡ true)
both true true true h = (refl, refl, refl)
both true true false h = absurd (none-some _ (sym h))
both true false c h = absurd (none-some _ (sym h))
both false b c h = absurd (none-some _ (sym h))

good_both : (s : State) (k : Counts) (n : ℕ) → refusal_with s k n Reset ≡ None → (eqb n (words (geometry s)) ≡ true) × (well_formed s ≡ true) × (shared_zero k.main ≡ true)
unfolding formed_with
good_both s k n h = both (eqb n (words (geometry s))) (well_formed s) (shared_zero k.main) (sym (reset_with s k n) ∙ h)

module _ (s : State) (k : Counts) (xs : List ℕ) (x : Step) where
  -- a state that is not refused is not refused after a step, and keeps its shape
  good_next : length s.unprotected ≡ 5 → length s.buffer ≡ 32 → refusal_with s k (length xs) Reset ≡ None → refusal_with (step_with s k xs x).state (counts_with s k xs x) (length (array_with s k xs x)) Reset ≡ None
  good_next f i h =
      let b = good_both s k (length xs) h in
      let q : Kept s (step_of s xs x).state = kept_step s xs x f in
      rw (step_alone s k b.2 xs x, array_alone s k b.2 xs x, refusal_alone (step_of s xs x).state (counts_with s k xs x) (shared_kept s k xs x ∙ b.2) _ Reset)
      (state_good (step_of s xs x).state (length (array_of s xs x))
      (length_kept s xs x ∙ eqb-true (length xs) (words (geometry s)) b.0 ∙ ap (λ (p : Part). words (geometry_of p)) (sym q.part)) (keeps s xs x f i b.1))

  -- where it is refused, every step is, alike
  bad_next : (e : Refusal) → refusal_with s k (length xs) Reset ≡ Some e → ((step_with s k xs x).state ≡ s) × (array_with s k xs x ≡ xs) × (counts_with s k xs x ≡ k)
  unfolding step_with array_with counts_with
  bad_next e h = let f = refusal_first s k (length xs) x in (rw (f, h), rw (f, h), rw (f, h))

  kept_with : length s.unprotected ≡ 5 → Kept s (step_with s k xs x).state
  kept_with f = go (shared_zero k.main) refl
    where
      go : (b : Bool) → shared_zero k.main ≡ b → Kept s (step_with s k xs x).state
      go true z = rw (step_alone s k z xs x) (kept_step s xs x f)
      go false z = rw (bad_refused s k z xs x) (record { part = refl; sixteen = λ h. h; five = refl; spare = λ h. h; thirty_two = λ h. h; reserved = λ h. h; powered = λ h. h })

  pub length_with : length (array_with s k xs x) ≡ length xs
  unfolding array_with
  length_with =
      of_option (λ (l : List ℕ). length l ≡ length xs) (refusal_with s k (length xs) x) (λ e. xs) (accepted_array s xs x) (length_accepted s xs x) (λ e. refl)

  -- no step changes that
  pub held_next : (a : Option Refusal) → Held a s k xs → Held a (step_with s k xs x).state (counts_with s k xs x) (array_with s k xs x)
  held_next a r =
      let q : Kept s (step_with s k xs x).state = kept_with r.five in
      record { same = r.same ∙ sym (go (refusal_with s k (length xs) Reset) refl); sixteen = q.sixteen r.sixteen; five = q.five ∙ r.five; thirty_two = q.thirty_two r.thirty_two }
    where
      go : (o : Option Refusal) → refusal_with s k (length xs) Reset ≡ o → refusal_with (step_with s k xs x).state (counts_with s k xs x) (length (array_with s k xs x)) Reset ≡ refusal_with s k (length xs) Reset
      go None e = good_next r.five r.thirty_two e ∙ sym e
      go (Some d) e = let q = bad_next d e in rw (q.0, q.1, q.2)

-- a step, by the refusal e that was found for it, and by its kind
module _ (c : Option Refusal) (s : State) (k : Counts) (xs : List ℕ) (r : Held c s k xs) (x : Step) (d e : Option Refusal) (own : d ≡ step_refusal (geometry s) x) (found : e ≡ first_refusal c d) (t : State) (a : Answer) (ys : List ℕ) (l : Counts) where
  refusal_is : refusal_with s k (length xs) x ≡ e
  refusal_is = refusal_first s k (length xs) x ∙ rw (← r.same, ← own, ← found)

  pub does_refused : (n : Refusal) → e ≡ Some n → t ≡ s → a ≡ Refused n → ys ≡ xs → l ≡ k → Does s k xs x t a ys l
  unfolding step_with array_with counts_with
  does_refused n h i j y z = (rw (i, j, refusal_is, h), rw (y, refusal_is, h), rw (z, refusal_is, h))

  done : (y : Step) → e ≡ None → x ≡ y → next t a ≡ accepted s xs y → ys ≡ accepted_array s xs y → l ≡ accepted_counts s k y → Does s k xs x t a ys l
  unfolding step_with array_with counts_with
  done y h q i j z = (i ∙ rw (← q, refusal_is, h), j ∙ rw (← q, refusal_is, h), z ∙ rw (← q, refusal_is, h))

  pub does_read : (b w : ℕ) → e ≡ None → x ≡ Read b → w ≡ read_word s xs b → t ≡ s → a ≡ Word w → ys ≡ xs → l ≡ k → Does s k xs x t a ys l
  unfolding accepted accepted_array accepted_counts
  does_read b w h q i j m n z = done (Read b) h q (rw (j, m, i)) n z

  pub does_write : (b w : ℕ) (p : Place) → e ≡ None → x ≡ Write b w → p ≡ place_of (geometry s) b → t ≡ written_at s p w → a ≡ Done → ys ≡ xs → l ≡ k → Does s k xs x t a ys l
  unfolding accepted accepted_array accepted_counts written
  does_write b w p h q i j m n z = done (Write b w) h q (rw (j, m, i)) n z

  pub does_work : (n : ℕ) (o : Worked) (bs : List ℕ) → e ≡ None → x ≡ Work n → o ≡ worked_on (geometry s) s.control n → bs ≡ buffer_after s.control.activity.running o.control.activity.running s.buffer
      → t ≡ with_buffer (with_control s o.control) bs → a ≡ Units o.units
      → ys ≡ array_after (geometry s) s.buffer s.control.activity.running (units_done (geometry s) s.control.activity.running n) xs
      → l ≡ counts_after s.control.activity.running o.control.activity.running k → Does s k xs x t a ys l
  unfolding accepted accepted_array accepted_counts worked_on worked worked_array
  does_work n o bs h q i y j m v z = done (Work n) h q (rw (j, y, m, i)) v (z ∙ rw i)

  pub does_supply : (on : Bool) → e ≡ None → x ≡ Supply on → t ≡ switched_to s on → a ≡ Done → ys ≡ xs → l ≡ k → Does s k xs x t a ys l
  unfolding accepted accepted_array accepted_counts
  does_supply on h q j m n z = done (Supply on) h q (rw (j, m)) n z

  pub does_reset : e ≡ None → x ≡ Reset → t ≡ with_supply (power_up s.part) s.control.supply → a ≡ Done → ys ≡ xs → l ≡ k → Does s k xs x t a ys l
  unfolding accepted accepted_array accepted_counts
  does_reset h q j m n z = done Reset h q (rw (j, m)) n z
