-- What a cycle of a write may change, as a few changes of what it sees: `First` and `Second` say that something holds of two views after each of them. That it then holds after every
-- cycle is in proofs/Cycles.
-- Assumes nothing.
use Rattle.std.specs.Prelude.{◌≡◌, Bool, true, false, ℕ, ◌%◌}
use Rattle.semantics.specs.declared.Mode.{Mode}
use Rattle.semantics.specs.declared.Setup.{Setup}
use Rattle.semantics.specs.declared.Setup.TheVariants as setup
use Rattle.semantics.specs.declared.Running.{Running}
use Rattle.semantics.specs.declared.Activity.{Activity}
use Rattle.semantics.specs.declared.Flags.{Flags}
use Rattle.semantics.specs.declared.Control.{Control}
use Rattle.semantics.specs.declared.Command.{Command}
use Rattle.semantics.specs.declared.Command.TheVariants as command
use Rattle.semantics.specs.declared.LockCommand.TheVariants as lock
use Rattle.semantics.specs.declared.View.{View}
use Rattle.semantics.specs.State.{set_activity, with_running, runs, no_flags}
use Rattle.semantics.specs.View.{with_control, with_mode, with_protection, with_activity, with_flags, with_configuration, raise}
use Rattle.semantics.specs.Supply.{ended}
use Rattle.semantics.specs.WellFormed.{setup_places}
use Rattle.semantics.specs.Writing.{suspended, resumed, accepts, pend, lock_command_of, settle}

-- the control with what D0h would have resumed running
abbrev pub awake : Control → Control
awake c = set_activity c (resumed c.activity c.activity.program)

-- the view with what runs suspended, and with an operation running
abbrev pub suspended_in : View → View
suspended_in v = with_activity v (suspended v.control.activity v.control.activity.running)

abbrev pub started : View → Running → View
started v r = with_activity v (with_running v.control.activity r)

-- the first cycles that change a mode: FFh, 70h, 90h, 98h, and a set-up that is accepted; "E8h is taken when 40h is"
abbrev pub ChangesMode : Activity → Command → Type 0
ChangesMode x command.ReadArray = Unit {0}
ChangesMode x command.ReadStatus = Unit {0}
ChangesMode x command.ReadSignature = Unit {0}
ChangesMode x command.ReadQuery = Unit {0}
ChangesMode x command.Suspend = ⊥
ChangesMode x command.Resume = ⊥
ChangesMode x command.ClearStatus = ⊥
ChangesMode x command.SetUpProgram = accepts x setup.Program ≡ true
ChangesMode x command.SetUpErase = accepts x setup.Erase ≡ true
ChangesMode x command.SetUpLock = accepts x setup.Lock ≡ true
ChangesMode x command.SetUpBuffer = accepts x setup.Program ≡ true
ChangesMode x command.Unknown = ⊥

-- R holds of two views after each change that a first cycle may make of them, given what is known where it makes it: a
-- mode; B0h; D0h that resumes, and that ends what it would have resumed; 50h; a set-up, of which none uses a place of
-- the buffer; nothing
pub record First (R : View → View → Type 0) (v u : View) (c : Command) : Type 0 where
  pub modes : ChangesMode v.control.activity c → (m : Mode) → R (with_mode v m) (with_mode u m)
  pub suspends : c ≡ command.Suspend → R (suspended_in v) (suspended_in u)
  pub resumes : c ≡ command.Resume → runs v.control.activity.running ≡ false → v.control.supply ≡ true
      → R (with_control v (awake v.control)) (with_control u (awake u.control))
  pub ends : c ≡ command.Resume → runs v.control.activity.running ≡ false → v.control.supply ≡ false
      → R (with_control v (ended (awake v.control))) (with_control u (ended (awake u.control)))
  pub clears : c ≡ command.ClearStatus → runs v.control.activity.running ≡ false
      → R (with_flags v no_flags) (with_flags u no_flags)
  pub sets_up : ChangesMode v.control.activity c → (x : Setup) → setup_places x ≡ 0 → R (pend v x) (pend u x)
  pub stays : R v u

-- and after each that a cycle of the word w may make after the set-up c: flags set beside those that were; an operation
-- that starts, with supply on; the block's protection; 03h; the next cycle of a load
pub record Second (R : View → View → Type 0) (v u : View) (c : Setup) (w : ℕ) : Type 0 where
  pub raises : (f : Flags) → R (raise (settle v) f) (raise (settle u) f)
  pub starts : (r : Running) → v.control.supply ≡ true → R (started (settle v) r) (started (settle u) r)
  pub protects : (b : Bool) → R (with_protection (settle v) b) (with_protection (settle u) b)
  pub stores : c ≡ setup.Lock → lock_command_of (w % 256) ≡ lock.Configure → (n : ℕ)
      → R (with_configuration (settle v) n) (with_configuration (settle u) n)
  pub loads : (x : Setup) → R (pend v x) (pend u x)

-- P of what comes of it
abbrev pub Of : (View → Type 0) → View → View → Type 0
Of P x y = P x
