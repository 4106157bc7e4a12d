-- Laws of the supply: what D0h and a supply step come to, that something runs only with supply on, and which writes leave the words of a suspended buffer program.
-- Assumes nothing.
use Rattle.std.specs.Prelude.{◌≡◌, refl, List, Bool, true, false, not, ◌||◌, ℕ}
use Rattle.std.proofs.Common.{sym, ap, true≢false}
use Rattle.std.proofs.Math.Bool.{or-true}
use Rattle.std.proofs.lemmas.Bool.{false≢true}
use Rattle.geometry.specs.declared.Geometry.{Geometry}
use Rattle.semantics.specs.declared.Setup.{Setup}
use Rattle.semantics.specs.declared.Running.{Running}
use Rattle.semantics.specs.declared.Running.TheVariants as running
use Rattle.semantics.specs.declared.SuspendedProgram.{SuspendedProgram}
use Rattle.semantics.specs.declared.SuspendedProgram.TheVariants as program
use Rattle.semantics.specs.declared.Activity.{Activity}
use Rattle.semantics.specs.declared.Control.{Control}
use Rattle.semantics.specs.declared.Command.{Command}
use Rattle.semantics.specs.declared.Command.TheVariants as command
use Rattle.semantics.specs.declared.Place.{Place}
use Rattle.semantics.specs.declared.View.{View}
pub use Rattle.semantics.specs.Branches.{of_cond}
use Rattle.semantics.specs.State.{set_activity, set_supply, runs, program_suspended}
use Rattle.semantics.specs.Supply.{ended, ended_if_unsupplied, switched}
use Rattle.semantics.specs.WellFormed.{runs_supplied}
use Rattle.semantics.specs.Cycles.{awake, started}
use Rattle.semantics.proofs.Cycles.{of_first, of_cycle}
use Rattle.semantics.specs.Writing.{suspended, resumed, resume, first_cycle, settle, cycle, kept_if, held_after}
use Rattle.semantics.specs.Supplied.{is_resume}

-- ---- D0h, and a supply step

-- while something runs it does nothing; else it resumes with supply on, and ends with supply off
pub resume_running : (c : Control) → runs c.activity.running ≡ true → resume c ≡ c
unfolding resume
resume_running c h = rw h

pub resume_supplied : (c : Control) → runs c.activity.running ≡ false → c.supply ≡ true → resume c ≡ awake c
unfolding resume ended_if_unsupplied
resume_supplied c h i = rw (h, i)

pub resume_unsupplied : (c : Control) → runs c.activity.running ≡ false → c.supply ≡ false → resume c ≡ ended (awake c)
unfolding resume ended_if_unsupplied
resume_unsupplied c h i = rw (h, i)

-- a supply step only notes the supply, or ends what runs
pub switched_on : (c : Control) → switched c true ≡ set_supply c true
unfolding switched ended_if_unsupplied
switched_on c = refl

pub switched_off : (c : Control) → switched c false ≡ ended (set_supply c false)
unfolding switched ended_if_unsupplied
switched_off c = refl

pub of_switched : (P : Control → Type 0) (c : Control) (on : Bool) → P (set_supply c on) → P (ended (set_supply c on)) → P (switched c on)
unfolding switched ended_if_unsupplied
of_switched P c on h i = of_cond P on _ _ h i

-- ---- something runs only with supply on

-- nothing runs
pub idle_supplied : (c : Control) → runs c.activity.running ≡ false → runs_supplied c ≡ true
unfolding runs_supplied
idle_supplied c h = rw h

-- supply is on
pub on_supplied : (c : Control) → c.supply ≡ true → runs_supplied c ≡ true
unfolding runs_supplied
on_supplied c h = rw h (or-true (not (runs c.activity.running)))

pub ended_supplied : (c : Control) → runs_supplied (ended c) ≡ true
unfolding ended
ended_supplied c = idle_supplied (ended c) refl

pub switched_supplied : (c : Control) (on : Bool) → runs_supplied (switched c on) ≡ true
switched_supplied c true = rw (switched_on c) (on_supplied (set_supply c true) refl)
switched_supplied c false = rw (switched_off c) (ended_supplied (set_supply c false))

-- where something runs, the supply is on
pub runs_supply : (c : Control) → runs_supplied c ≡ true → runs c.activity.running ≡ true → c.supply ≡ true
unfolding runs_supplied
runs_supply c h e = rw e at h

-- where the supply is off, nothing runs
pub unsupplied_idle : (c : Control) → runs_supplied c ≡ true → c.supply ≡ false → runs c.activity.running ≡ false
unfolding runs_supplied
unsupplied_idle c h e = go (runs c.activity.running) (rw e at h)
  where
    go : (b : Bool) → (not b || false) ≡ true → b ≡ false
    go true k = sym k
    go false k = refl

-- and every cycle keeps that: an operation is accepted only with supply on
pub cycle_supplied : (g : Geometry) (v : View) (c : Setup) (p : Place) (w : ℕ) → runs_supplied v.control ≡ true → runs_supplied (cycle g v c p w).control ≡ true
unfolding settle runs_supplied
cycle_supplied g v c p w h =
    of_cycle (λ (x : View). runs_supplied x.control ≡ true) v p g c w
    (λ e. record {
      modes = λ i m. h;
      suspends = λ i. suspended_supplied v.control.activity.running refl;
      resumes = λ i r t. on_supplied (awake v.control) t;
      ends = λ i r t. ended_supplied (awake v.control);
      clears = λ i r. h;
      sets_up = λ i x z. h;
      stays = h;
    })
    (record { raises = λ f. h; starts = λ r t. on_supplied (started v r).control t; protects = λ b. h; stores = λ i l n. h; loads = λ x. h })
  where
    suspended_supplied : (r : Running) → v.control.activity.running ≡ r
        → runs_supplied (set_activity v.control (suspended v.control.activity r)) ≡ true
    suspended_supplied running.Idle e = h
    suspended_supplied (running.Program l w) e = refl
    suspended_supplied (running.Erase b n) e = refl
    suspended_supplied (running.Buffer l n d) e = refl

-- ---- the words of a suspended buffer program

-- they are in use where it is still suspended, or runs
held_stays : (q : SuspendedProgram) (a : Activity) (bs : List ℕ) → (program_suspended q ≡ true → (program_suspended a.program || runs a.running) ≡ true) → held_after q a bs ≡ bs
unfolding held_after kept_if
held_stays program.Nothing a bs h = refl
held_stays (program.Program l w) a bs h = refl
held_stays (program.Buffer l n d) a bs h = rw (h refl)

-- a cycle that leaves what is suspended leaves them
pub held_left : (q : SuspendedProgram) (a : Activity) (bs : List ℕ) → a.program ≡ q → held_after q a bs ≡ bs
held_left q a bs e = held_stays q a bs (λ k. rw (e, k))

pub only_resume : (c : Command) → is_resume c ≡ true → c ≡ command.Resume
only_resume command.ReadArray h = absurd (false≢true h)
only_resume command.ReadStatus h = absurd (false≢true h)
only_resume command.ReadSignature h = absurd (false≢true h)
only_resume command.ReadQuery h = absurd (false≢true h)
only_resume command.Suspend h = absurd (false≢true h)
only_resume command.Resume h = refl
only_resume command.ClearStatus h = absurd (false≢true h)
only_resume command.SetUpProgram h = absurd (false≢true h)
only_resume command.SetUpErase h = absurd (false≢true h)
only_resume command.SetUpLock h = absurd (false≢true h)
only_resume command.SetUpBuffer h = absurd (false≢true h)
only_resume command.Unknown h = absurd (false≢true h)

-- a program is suspended or something runs
abbrev Holds : Activity → Type 0
Holds a = (program_suspended a.program || runs a.running) ≡ true

module _ (v : View) (p : Place) (k : program_suspended v.control.activity.program ≡ true) where
  still : Holds v.control.activity
  still = rw k

  suspend_holds : (r : Running) → Holds (suspended v.control.activity r)
  suspend_holds running.Idle = still
  suspend_holds (running.Program l w) = refl
  suspend_holds (running.Erase b n) = rw k
  suspend_holds (running.Buffer l n d) = refl

  awake_holds : (q : SuspendedProgram) → program_suspended q ≡ true → Holds (resumed v.control.activity q)
  awake_holds program.Nothing e = absurd (true≢false (sym e))
  awake_holds (program.Program l w) e = refl
  awake_holds (program.Buffer l n d) e = refl

  command_holds : (c : Command) → (is_resume c ≡ true → (v.control.supply || runs v.control.activity.running) ≡ true) → Holds (first_cycle v p c).control.activity
  unfolding ended
  command_holds c h = of_first (λ (x : View). Holds x.control.activity) v p c (record {
    modes = λ i m. still;
    suspends = λ i. suspend_holds v.control.activity.running;
    resumes = λ i r t. awake_holds v.control.activity.program k;
    ends = λ i r t. absurd (false≢true (rw (r, t) at (h (ap is_resume i))));
    clears = λ i r. still;
    sets_up = λ i x z. still;
    stays = still;
  })

-- every first cycle but D0h leaves them, and D0h does with supply on, or while something runs
pub first_holds : (v : View) (p : Place) (c : Command) (bs : List ℕ) → (is_resume c ≡ true → (v.control.supply || runs v.control.activity.running) ≡ true)
    → held_after v.control.activity.program (first_cycle v p c).control.activity bs ≡ bs
first_holds v p c bs h = held_stays v.control.activity.program (first_cycle v p c).control.activity bs (λ k. command_holds v p k c h)
