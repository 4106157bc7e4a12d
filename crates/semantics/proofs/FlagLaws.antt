-- "Flags once set stay until 50h or reset, and never block a later command."
-- Assumes nothing.
use Rattle.std.specs.Prelude.{◌≡◌, refl, List, Bool, true, false, ℕ, length, Option}
use Rattle.std.proofs.Common.{sym, ap, ◌∙◌, subst}
use Rattle.refusal.specs.declared.Refusal.{Refusal}
use Rattle.geometry.specs.declared.Geometry.{Geometry}
use Rattle.semantics.specs.declared.Setup.{Setup}
use Rattle.semantics.specs.declared.Running.{Running}
use Rattle.semantics.specs.declared.Flags.{Flags}
use Rattle.semantics.specs.declared.Control.{Control}
use Rattle.semantics.specs.declared.State.{State}
use Rattle.semantics.specs.declared.Step.{Step}
use Rattle.semantics.specs.declared.Step.TheVariants.{Read, Write, Work, Supply, Reset}
use Rattle.semantics.specs.declared.Next.{Next}
use Rattle.semantics.specs.declared.Place.{Place}
use Rattle.semantics.specs.declared.View.{View}
use Rattle.semantics.specs.Branches.{of_option₂}
use Rattle.semantics.specs.State.{geometry, set_flags, set_supply, with_control, with_flags, with_buffer, no_flags, joined}
use Rattle.semantics.specs.View as view
use Rattle.semantics.specs.View.{place_of, view_at, with_view}
use Rattle.semantics.specs.Supply.{ended, switched}
use Rattle.semantics.proofs.Cycles.{of_cycle, both_cycle}
use Rattle.semantics.proofs.Supplied.{of_switched, switched_on, switched_off}
use Rattle.semantics.specs.WellFormed.{runs_supplied, well_formed}
use Rattle.semantics.specs.Writing.{settle, cycle, loaded_at, written_at, written}
use Rattle.semantics.specs.Working.{buffer_after, worked_on, worked, worked_array}
use Rattle.semantics.specs.declared.Answer.TheVariants.{Refused}
use Rattle.semantics.specs.Card.{number_given}
use Rattle.semantics.specs.Steps.{refusal_of, next, switched_to, accepted, accepted_array, step_of, array_of, number_of}
use Rattle.semantics.proofs.Refusals.{of_step, answer_number}
use Rattle.semantics.specs.Flags.{Stay, ClearCommand, MayClear, unflagged, told_by}

stay_same : (f : Flags) → Stay f f
stay_same f = record { sr5 = λ h. h; sr4 = λ h. h; sr3 = λ h. h; sr1 = λ h. h }

stay_joined : (f g : Flags) → Stay f (joined f g)
stay_joined f g = record { sr5 = λ h. rw h; sr4 = λ h. rw h; sr3 = λ h. rw h; sr1 = λ h. rw h }

stay_switched : (c : Control) (on : Bool) → Stay c.flags (switched c on).flags
unfolding ended
stay_switched c on = of_switched (λ (x : Control). Stay c.flags x.flags) c on (stay_same _) (stay_joined _ _)

-- flags are only set, but by 50h
stay_cycle : (g : Geometry) (v : View) (c : Setup) (p : Place) (w : ℕ) → (ClearCommand c w → ⊥) → Stay v.control.flags (cycle g v c p w).control.flags
unfolding ended settle
stay_cycle g v c p w n =
    of_cycle (λ (x : View). Stay v.control.flags x.control.flags) v p g c w
    (λ e. record {
      modes = λ i m. same;
      suspends = λ i. same;
      resumes = λ i r t. same;
      ends = λ i r t. stay_joined _ _;
      clears = λ i r. absurd (n (subst (λ (x : Setup). ClearCommand x w) (sym e) i));
      sets_up = λ i x z. same;
      stays = same;
    })
    (record { raises = λ f. stay_joined _ _; starts = λ r t. same; protects = λ b. same; stores = λ i l n. same; loads = λ x. same })
  where
    same : Stay v.control.flags v.control.flags
    same = stay_same _

stay_accepted : (s : State) (xs : List ℕ) (x : Step) → (MayClear s x → ⊥) → Stay s.control.flags (accepted s xs x).state.control.flags
unfolding accepted switched_to written written_at worked_on worked
stay_accepted s xs (Read a) n = stay_same _
stay_accepted s xs (Write a w) n = stay_cycle (geometry s) (view_at s (place_of (geometry s) a)) s.control.activity.setup (place_of (geometry s) a) w n
stay_accepted s xs (Work k) n = stay_same _
stay_accepted s xs (Supply on) n = stay_switched s.control on
stay_accepted s xs Reset n = absurd (n tt)

-- "Flags once set stay until 50h or reset"
pub flags_stay : (s : State) (xs : List ℕ) (x : Step) → (MayClear s x → ⊥) → Stay s.control.flags (step_of s xs x).state.control.flags
flags_stay s xs x n =
    of_step (λ (y : Next). Stay s.control.flags y.state.control.flags) s xs x (stay_accepted s xs x n)
    (λ e r. stay_same _)

-- ---- ".. and never block a later command."

abbrev unflagged_view : View → View
unflagged_view v = view.with_flags v no_flags

-- a control but for its flags
abbrev unflagged_control : Control → Control
unflagged_control c = set_flags c no_flags

alike_ended : (c : Control) (f : Flags) → unflagged_control (ended (set_flags c f)) ≡ unflagged_control (ended c)
unfolding ended
alike_ended c f = refl

alike_switched : (c : Control) (f : Flags) (on : Bool) → unflagged_control (switched (set_flags c f) on) ≡ unflagged_control (switched c on)
alike_switched c f true = rw (switched_on c, switched_on (set_flags c f))
alike_switched c f false = rw (switched_off c, switched_off (set_flags c f)) (alike_ended (set_supply c false) f)

alike_cycle : (g : Geometry) (v : View) (f : Flags) (c : Setup) (p : Place) (w : ℕ) → unflagged_view (cycle g (view.with_flags v f) c p w) ≡ unflagged_view (cycle g v c p w)
unfolding ended settle
alike_cycle g v f c p w =
    both_cycle (λ x y. unflagged_view y ≡ unflagged_view x) g v f p w c
    (λ e. record { modes = λ i m. refl; suspends = λ i. refl; resumes = λ i r t. refl; ends = λ i r t. refl; clears = λ i r. refl; sets_up = λ i x z. refl; stays = refl })
    (record { raises = λ x. refl; starts = λ r t. refl; protects = λ b. refl; stores = λ i l n. refl; loads = λ x. refl })

alike_refusal : (s : State) (f : Flags) (n : ℕ) (x : Step) → refusal_of (with_flags s f) n x ≡ refusal_of s n x
unfolding refusal_of well_formed runs_supplied
alike_refusal s f n x = refl

-- the state but for its flags, the array, and the units told
alike_accepted : (s : State) (f : Flags) (xs : List ℕ) (x : Step)
    → (unflagged (accepted (with_flags s f) xs x).state ≡ unflagged (accepted s xs x).state)
    × (accepted_array (with_flags s f) xs x ≡ accepted_array s xs x)
    × (told_by (accepted (with_flags s f) xs x).answer ≡ told_by (accepted s xs x).answer)
unfolding accepted accepted_array switched_to written written_at worked_on worked worked_array
alike_accepted s f xs (Read a) = (refl, refl, refl)
alike_accepted s f xs (Write a w) = let p : Place = place_of (geometry s) a in
    (ap (λ (v : View). with_buffer (with_view s p v) (loaded_at s p w v.control.activity)) (alike_cycle (geometry s) (view_at s p) f s.control.activity.setup p w), refl, refl)
alike_accepted s f xs (Work n) = (refl, refl, refl)
alike_accepted s f xs (Supply on) = let r : Running = s.control.activity.running in
    (ap (λ (c : Control). with_buffer (with_control s c) (buffer_after r c.activity.running s.buffer)) (alike_switched s.control f on), refl, refl)
alike_accepted s f xs Reset = (refl, refl, refl)

-- whatever the flags are, a step does the same, but for the flags themselves: the same state, the same array, the same refusal and as many units told
pub flags_never_block : (s : State) (f : Flags) (xs : List ℕ) (x : Step)
    → (unflagged (step_of (with_flags s f) xs x).state ≡ unflagged (step_of s xs x).state) × (array_of (with_flags s f) xs x ≡ array_of s xs x)
    × (number_of (step_of (with_flags s f) xs x).answer ≡ number_of (step_of s xs x).answer) × (told_by (step_of (with_flags s f) xs x).answer ≡ told_by (step_of s xs x).answer)
unfolding step_of array_of
flags_never_block s f xs x = let a = alike_accepted s f xs x in (
  rw e (of_option₂ (λ (y z : Next). unflagged y.state ≡ unflagged z.state) n (λ d. next (with_flags s f) (Refused d)) _ (λ d. next s (Refused d)) _ a.0 (λ d. refl)),
  rw e (of_option₂ (λ (y z : List ℕ). y ≡ z) n (λ d. xs) _ (λ d. xs) _ a.1 (λ d. refl)),
  answer_number (with_flags s f) xs x ∙ ap number_given e ∙ sym (answer_number s xs x),
  rw e (of_option₂ (λ (y z : Next). told_by y.answer ≡ told_by z.answer) n (λ d. next (with_flags s f) (Refused d)) _ (λ d. next s (Refused d)) _ a.2 (λ d. refl)),
)
  where
    n : Option Refusal
    n = refusal_of s (length xs) x

    e : refusal_of (with_flags s f) (length xs) x ≡ n
    e = alike_refusal s f (length xs) x
