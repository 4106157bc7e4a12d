-- The cycles of a write as a few changes of what they see. A law of all cycles is shown of each change (`First`,
-- `Second`) and cites `of_first`, `of_second` or `of_cycle`: the commands and the set-ups are gone through here alone.
-- `both_first` and `both_cycle` are of two views that differ in their flags, which no test of a cycle looks at: there a
-- law may compare what comes of the two.
-- Assumes nothing.
use Rattle.std.specs.Prelude.{◌≡◌, Bool, not, ℕ, ◌+◌, ◌-◌, ◌%◌, eqb}
use Rattle.std.proofs.Math.Path.{refl}
use Rattle.std.proofs.Common.{ap, sym, ◌∙◌, true≢false}
use Rattle.std.proofs.Math.Bool.{true, false}
use Rattle.geometry.specs.declared.Geometry.{Geometry}
use Rattle.semantics.specs.declared.Mode.TheVariants.{Array, Status, Signature, Query}
use Rattle.semantics.specs.declared.Setup.{Setup}
use Rattle.semantics.specs.declared.Setup.TheVariants as setup
use Rattle.semantics.specs.declared.Running.{Running}
use Rattle.semantics.specs.declared.Running.TheVariants as running
use Rattle.semantics.specs.declared.SuspendedProgram.{SuspendedProgram}
use Rattle.semantics.specs.declared.SuspendedProgram.TheVariants as program
use Rattle.semantics.specs.declared.Flags.{Flags}
use Rattle.semantics.specs.declared.Control.{Control}
use Rattle.semantics.specs.declared.Command.{Command}
use Rattle.semantics.specs.declared.Command.TheVariants as command
use Rattle.semantics.specs.declared.LockCommand.{LockCommand}
use Rattle.semantics.specs.declared.LockCommand.TheVariants as lock
use Rattle.semantics.specs.declared.Place.{Place}
use Rattle.semantics.specs.declared.View.{View}
use Rattle.semantics.specs.Branches.{by_cond₂}
use Rattle.semantics.specs.State.{runs, program_suspended}
use Rattle.semantics.specs.View.{with_control, with_protection, with_flags, with_configuration, raise}
use Rattle.semantics.specs.Supply.{ended_if_unsupplied}
use Rattle.semantics.specs.WellFormed.{pending, erasing, setup_places}
use Rattle.semantics.specs.Writing.{command_of, resume, accepts, pend, set_up, clear_status, first_cycle, program_runs, erase_cycle, lock_command_of, lock_cycle, settle, loads, count_right, first_right, later_right, confirm_right, confirm_cycle, words_cycle, cycle}
use Rattle.semantics.specs.Cycles.{started, First, Second, Of}

-- ---- what a test says of a set-up, of what runs, and of what is suspended

pub nothing_pending : (c : Setup) → pending c ≡ false → c ≡ setup.Nothing
nothing_pending setup.Nothing h = refl
nothing_pending setup.Program h = absurd (true≢false h)
nothing_pending setup.Erase h = absurd (true≢false h)
nothing_pending setup.Lock h = absurd (true≢false h)
nothing_pending (setup.BufferCount b) h = absurd (true≢false h)
nothing_pending (setup.BufferFirst b n) h = absurd (true≢false h)
nothing_pending (setup.BufferWords l n d) h = absurd (true≢false h)

pub nothing_running : (r : Running) → runs r ≡ false → r ≡ running.Idle
nothing_running running.Idle h = refl
nothing_running (running.Program l w) h = absurd (true≢false h)
nothing_running (running.Erase b n) h = absurd (true≢false h)
nothing_running (running.Buffer l n d) h = absurd (true≢false h)

pub nothing_suspended : (q : SuspendedProgram) → program_suspended q ≡ false → q ≡ program.Nothing
nothing_suspended program.Nothing h = refl
nothing_suspended (program.Program l w) h = absurd (true≢false h)
nothing_suspended (program.Buffer l n d) h = absurd (true≢false h)

not_off : (b : Bool) → not b ≡ false → b ≡ true
not_off true h = refl
not_off false h = absurd (true≢false h)

-- ---- two views that differ in their flags

module _ (R : View → View → Type 0) (v : View) (f : Flags) (p : Place) where
  abbrev u : View
  u = with_flags v f

  both_set_up : (x : Setup) → (accepts v.control.activity x ≡ true → R (pend v x) (pend u x)) → R v u
      → R (set_up v x) (set_up u x)
  unfolding set_up
  both_set_up x h k = by_cond₂ R (accepts v.control.activity x) _ _ _ _ h (λ e. k)

  pub both_first : (c : Command) → First R v u c → R (first_cycle v p c) (first_cycle u p c)
  unfolding first_cycle clear_status resume ended_if_unsupplied accepts setup_places
  both_first command.ReadArray h = h.modes tt Array
  both_first command.ReadStatus h = h.modes tt Status
  both_first command.ReadSignature h = h.modes tt Signature
  both_first command.ReadQuery h = h.modes tt Query
  both_first command.Suspend h = h.suspends refl
  both_first command.Resume h =
      by_cond₂ (λ (x y : Control). R (with_control v x) (with_control u y))
      (runs v.control.activity.running) _ _ _ _ (λ e. h.stays)
      (λ e. by_cond₂ (λ (x y : Control). R (with_control v x) (with_control u y)) v.control.supply _ _ _ _
      (h.resumes refl e) (h.ends refl e))
  both_first command.ClearStatus h =
      by_cond₂ R (runs v.control.activity.running) _ _ _ _ (λ e. h.stays) (h.clears refl)
  both_first command.SetUpProgram h = both_set_up setup.Program (λ e. h.sets_up e setup.Program refl) h.stays
  both_first command.SetUpErase h = both_set_up setup.Erase (λ e. h.sets_up e setup.Erase refl) h.stays
  both_first command.SetUpLock h = both_set_up setup.Lock (λ e. h.sets_up e setup.Lock refl) h.stays
  both_first command.SetUpBuffer h =
      both_set_up (setup.BufferCount p.block) (λ e. h.sets_up e (setup.BufferCount p.block) refl) h.stays
  both_first command.Unknown h = h.stays

  both_program : (r : Running) → ((x : Flags) → R (raise v x) (raise u x))
      → (v.control.supply ≡ true → R (started v r) (started u r)) → R (program_runs v p r) (program_runs u p r)
  unfolding program_runs
  both_program r h k =
      by_cond₂ R (not v.control.supply) _ _ _ _ (λ e. h _)
      (λ e. by_cond₂ R (not v.unprotected) _ _ _ _ (λ i. h _)
      (λ i. by_cond₂ R (erasing v.control.activity.erase p.block) _ _ _ _ (λ j. h _) (λ j. k (not_off _ e))))

  both_erase : (c : ℕ) → ((x : Flags) → R (raise v x) (raise u x))
      → (v.control.supply ≡ true → R (started v (running.Erase p.block 0))
      (started u (running.Erase p.block 0)))
      → R (erase_cycle v p c) (erase_cycle u p c)
  unfolding erase_cycle
  both_erase c h k =
      by_cond₂ R (not (eqb c 0xD0)) _ _ _ _ (λ e. h _) (λ e. by_cond₂ R (not v.control.supply) _ _ _ _ (λ i. h _)
      (λ i. by_cond₂ R (not v.unprotected) _ _ _ _ (λ j. h _) (λ j. k (not_off _ i))))

  both_lock : (k : LockCommand) → ((x : Flags) → R (raise v x) (raise u x))
      → ((b : Bool) → R (with_protection v b) (with_protection u b))
      → (k ≡ lock.Configure → (n : ℕ) → R (with_configuration v n) (with_configuration u n)) → R (lock_cycle v p k)
      (lock_cycle u p k)
  unfolding lock_cycle
  both_lock lock.Protect h i j = i false
  both_lock lock.Unprotect h i j = i true
  both_lock lock.Configure h i j = j refl _
  both_lock lock.Unknown h i j = h _

  both_loads : (right : Bool) (x : Setup) → R (pend v x) (pend u x)
      → ((x : Flags) → R (raise (settle v) x) (raise (settle u) x)) → R (loads right v x) (loads right u x)
  unfolding loads
  both_loads right x h k = by_cond₂ R right _ _ _ _ (λ e. h) (λ e. k _)

module _ (R : View → View → Type 0) (g : Geometry) (v : View) (f : Flags) (p : Place) (w : ℕ) where
  both_confirm : (c : Setup) (l n : ℕ) → Second R v (with_flags v f) c w
      → R (confirm_cycle g v l n p w) (confirm_cycle g (with_flags v f) l n p w)
  unfolding confirm_cycle settle
  both_confirm c l n h =
      by_cond₂ R (confirm_right g l p w) _ _ _ _
      (λ e. both_program R (settle v) f p (running.Buffer l n 0) h.raises (h.starts (running.Buffer l n 0)))
      (λ e. h.raises _)

  pub both_cycle : (c : Setup) → (c ≡ setup.Nothing → First R v (with_flags v f) (command_of (w % 256)))
      → Second R v (with_flags v f) c w → R (cycle g v c p w) (cycle g (with_flags v f) c p w)
  unfolding cycle words_cycle settle
  both_cycle setup.Nothing h k = both_first R v f p (command_of (w % 256)) (h refl)
  both_cycle setup.Program h k =
      both_program R (settle v) f p (running.Program p.location w) k.raises
      (k.starts (running.Program p.location w))
  both_cycle setup.Erase h k =
      both_erase R (settle v) f p (w % 256) k.raises (k.starts (running.Erase p.block 0))
  both_cycle setup.Lock h k =
      both_lock R (settle v) f p (lock_command_of (w % 256)) k.raises k.protects (k.stores refl)
  both_cycle (setup.BufferCount b) h k =
      both_loads R v f p (count_right b p w) (setup.BufferFirst b (w + 1)) (k.loads _) k.raises
  both_cycle (setup.BufferFirst b n) h k =
      both_loads R v f p (first_right g b n p) (setup.BufferWords p.location n (n - 1)) (k.loads _) k.raises
  both_cycle (setup.BufferWords l n due) h k =
      by_cond₂ R (eqb due 0) _ _ _ _ (λ e. both_confirm (setup.BufferWords l n due) l n k)
      (λ e. both_loads R v f p (later_right l n p) (setup.BufferWords l n (due - 1)) (k.loads _) k.raises)

-- ---- one view

module _ (P : View → Type 0) (v : View) (p : Place) where
  pub of_first : (c : Command) → First (Of P) v v c → P (first_cycle v p c)
  of_first = both_first (Of P) v v.control.flags p

  pub of_program : (r : Running) → ((x : Flags) → P (raise v x)) → P (started v r) → P (program_runs v p r)
  of_program r h k = both_program (Of P) v v.control.flags p r h (λ e. k)

  pub of_erase : (c : ℕ) → ((x : Flags) → P (raise v x)) → P (started v (running.Erase p.block 0))
      → P (erase_cycle v p c)
  of_erase c h k = both_erase (Of P) v v.control.flags p c h (λ e. k)

  pub of_lock : (k : LockCommand) → ((x : Flags) → P (raise v x)) → ((b : Bool) → P (with_protection v b))
      → ((n : ℕ) → P (with_configuration v n)) → P (lock_cycle v p k)
  of_lock k h i j = both_lock (Of P) v v.control.flags p k h i (λ e. j)

  pub of_cycle : (g : Geometry) (c : Setup) (w : ℕ) → (c ≡ setup.Nothing → First (Of P) v v (command_of (w % 256)))
      → Second (Of P) v v c w → P (cycle g v c p w)
  of_cycle g c w = both_cycle (Of P) g v v.control.flags p w c

  -- a cycle after a set-up
  pub of_second : (g : Geometry) (c : Setup) (w : ℕ) → pending c ≡ true → Second (Of P) v v c w → P (cycle g v c p w)
  of_second g c w h = of_cycle g c w (λ e. absurd (true≢false (sym h ∙ ap pending e)))
