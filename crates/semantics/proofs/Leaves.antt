-- What a step leaves as it was: read changes nothing, only work changes a word; protection is looked at when an operation is accepted, and not by work or a resume; what a supply step leaves, and what
-- is left of work without supply.
-- Assumes nothing.
use Rattle.std.specs.Prelude.{◌≡◌, refl, List, Bool, true, false, ℕ, min}
use Rattle.std.proofs.Math.Bool.{or-false}
use Rattle.std.proofs.Common.{arith}
use Rattle.semantics.specs.declared.Command.TheVariants as command
use Rattle.semantics.specs.declared.Running.TheVariants as running
use Rattle.semantics.specs.declared.State.{State}
use Rattle.semantics.specs.declared.Step.{Step}
use Rattle.semantics.specs.declared.Step.TheVariants.{Read, Write, Work, Supply, Reset}
use Rattle.semantics.specs.declared.Answer.TheVariants.{Units}
use Rattle.semantics.specs.declared.Next.{Next}
use Rattle.semantics.specs.declared.Place.{Place}
use Rattle.semantics.specs.declared.View.{View}
use Rattle.protection.specs.Words.{spare_zero}
use Rattle.semantics.specs.State.{geometry, with_protection, with_supply}
use Rattle.semantics.specs.View as view
use Rattle.semantics.specs.Supply.{end_flags, ended, ended_if_unsupplied, switched}
use Rattle.semantics.proofs.Cycles.{nothing_running}
use Rattle.semantics.proofs.Supplied.{unsupplied_idle}
use Rattle.semantics.specs.Register.{reserved_zero}
use Rattle.semantics.specs.WellFormed.{activity_formed, places_used, zero_from, well_formed}
use Rattle.semantics.specs.Writing.{first_cycle}
use Rattle.semantics.specs.Working.{units_left, units_done, running_after, buffer_after, worked_on, worked, worked_array}
use Rattle.semantics.specs.Steps.{next, switched_to, accepted, accepted_array, step_of, array_of}
use Rattle.semantics.proofs.Refusals.{of_step, of_array}
use Rattle.semantics.proofs.Engine.{and_true_r}
use Rattle.semantics.proofs.Spare.{buffer_on}

same_array : (s : State) (xs : List ℕ) (x : Step) → accepted_array s xs x ≡ xs → array_of s xs x ≡ xs
same_array s xs x e = of_array (λ (l : List ℕ). l ≡ xs) s xs x e refl

-- read changes nothing
pub read_changes_nothing : (s : State) (xs : List ℕ) (a : ℕ) → ((step_of s xs (Read a)).state ≡ s) × (array_of s xs (Read a) ≡ xs)
unfolding accepted accepted_array
read_changes_nothing s xs a =
    (of_step (λ (y : Next). y.state ≡ s) s xs (Read a) refl (λ e r. refl), same_array s xs (Read a) refl)

-- write, supply and reset change no word
pub write_changes_no_word : (s : State) (xs : List ℕ) (a w : ℕ) → array_of s xs (Write a w) ≡ xs
unfolding accepted_array
write_changes_no_word s xs a w = same_array s xs (Write a w) refl

pub supply_changes_no_word : (s : State) (xs : List ℕ) (on : Bool) → array_of s xs (Supply on) ≡ xs
unfolding accepted_array
supply_changes_no_word s xs on = same_array s xs (Supply on) refl

pub reset_changes_no_word : (s : State) (xs : List ℕ) → array_of s xs Reset ≡ xs
unfolding accepted_array
reset_changes_no_word s xs = same_array s xs Reset refl

-- ---- work

-- protection is looked at only when an operation is accepted: whatever it is, work does the same and answers the same
pub work_ignores_protection : (s : State) (ws : List ℕ) (n : ℕ) (xs : List ℕ)
    → (worked_array (with_protection s ws) n xs ≡ worked_array s n xs) × (accepted (with_protection s ws) xs (Work n) ≡ next (with_protection (worked s n) ws) (accepted s xs (Work n)).answer)
unfolding worked_array worked_on worked accepted
work_ignores_protection s ws n xs = (refl, refl)

-- "Protecting a block whose erase is suspended does not stop that erase when resumed."
pub resume_ignores_protection : (v : View) (p : Place) (u : Bool) → first_cycle (view.with_protection v u) p command.Resume ≡ view.with_protection (first_cycle v p command.Resume) u
unfolding first_cycle
resume_ignores_protection v p u = refl

-- ---- supply

-- supply on ends and resumes nothing: it is noted
pub supply_on_noted : (s : State) → switched_to s true ≡ with_supply s true
unfolding switched_to switched ended_if_unsupplied
supply_on_noted s = rw (buffer_on s.control.activity.running s.buffer)

-- "Suspended ones stay", and so do a set-up that is pending, the modes, protection and the configuration register
pub supply_leaves : (s : State) (on : Bool)
    → ((switched_to s on).control.activity.setup ≡ s.control.activity.setup) × ((switched_to s on).control.activity.program ≡ s.control.activity.program)
    × ((switched_to s on).control.activity.erase ≡ s.control.activity.erase) × ((switched_to s on).banks ≡ s.banks) × ((switched_to s on).unprotected ≡ s.unprotected)
    × ((switched_to s on).control.configuration ≡ s.control.configuration)
unfolding switched_to switched ended_if_unsupplied ended
supply_leaves s true = (refl, refl, refl, refl, refl, refl)
supply_leaves s false = (refl, refl, refl, refl, refl, refl)

-- nothing runs where the supply is off
unsupplied : (s : State) → well_formed s ≡ true → s.control.supply ≡ false → s.control.activity.running ≡ running.Idle
unfolding well_formed
unsupplied s w h =
    let rest = and_true_r (spare_zero s.unprotected) _ (and_true_r (activity_formed (geometry s) s.control.activity) _ w) in
    let last = and_true_r (reserved_zero s.control.configuration) _ (and_true_r (zero_from (places_used s.control.activity) s.buffer) _ rest) in
    nothing_running s.control.activity.running (unsupplied_idle s.control last h)

-- so supply off when it is off already ends nothing
pub supply_off_again : (s : State) → well_formed s ≡ true → s.control.supply ≡ false → switched_to s false ≡ s
unfolding switched_to switched ended_if_unsupplied ended end_flags buffer_after
supply_off_again s w h = let e = unsupplied s w h in
    rw (e, h, or-false s.control.flags.sr5, or-false s.control.flags.sr4, or-false s.control.flags.sr3, or-false s.control.flags.sr1)

-- and no unit is done without it
pub work_needs_supply : (s : State) (xs : List ℕ) (n : ℕ) → well_formed s ≡ true → s.control.supply ≡ false → accepted s xs (Work n) ≡ next s (Units 0)
unfolding accepted worked worked_on units_done units_left running_after buffer_after
work_needs_supply s xs n w h =
    let e = unsupplied s w h in
    let z : min n 0 ≡ 0 = omega arith in
    rw (e, z)
