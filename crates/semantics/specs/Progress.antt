-- "Left running, a program ends at 1 unit and an erase at the size of its block, counted over all work steps.", and document 02, item 5: "the progress sentence in 01 needs it on throughout", the
-- supply. One operation is followed, through the stretches in which it is suspended too. A list may hold any step but two: a reset, and the supply going off. Definitions only; that it
-- is so is `progress` (proofs/Progress).
-- Assumes nothing.
use Rattle.std.specs.Prelude.{[], ◌≡◌, List, ◌∷◌, Bool, true, false, cond, ◌&&◌, ◌||◌, ℕ, ◌+◌, ◌-◌, leb, length, Option, Some, None}
use Rattle.geometry.specs.declared.Geometry.{Geometry}
use Rattle.geometry.specs.Blocks.{words, size_of}
use Rattle.semantics.specs.declared.Running.{Running}
use Rattle.semantics.specs.declared.Running.TheVariants as running
use Rattle.semantics.specs.declared.SuspendedProgram.{SuspendedProgram}
use Rattle.semantics.specs.declared.SuspendedProgram.TheVariants as program
use Rattle.semantics.specs.declared.SuspendedErase.{SuspendedErase}
use Rattle.semantics.specs.declared.State.{State}
use Rattle.semantics.specs.declared.Step.{Step}
use Rattle.semantics.specs.declared.Step.TheVariants.{Read, Write, Work, Supply, Reset}
use Rattle.semantics.specs.State.{geometry, program_suspended, erase_suspended}
use Rattle.semantics.specs.WellFormed.{well_formed}
use Rattle.semantics.specs.Working.{units_left}
use Rattle.semantics.specs.Steps.{step_of, Machine, after}
use Rattle.semantics.specs.Flags.{told_by}

-- at most one program, of a word or of a buffer, and at most one erase is under way at a time: one of the two is followed
pub data Followed : Type 0 where
  the_program the_erase : Followed

-- it runs
abbrev pub runs_now : Followed → Running → Bool
runs_now k running.Idle = false
runs_now the_program (running.Program l w) = true
runs_now the_erase (running.Program l w) = false
runs_now the_program (running.Erase b n) = false
runs_now the_erase (running.Erase b n) = true
runs_now the_program (running.Buffer l n d) = true
runs_now the_erase (running.Buffer l n d) = false

-- it runs or is suspended
abbrev pub lives : Followed → Running → SuspendedProgram → Option SuspendedErase → Bool
lives the_program r p e = runs_now the_program r || program_suspended p
lives the_erase r p e = runs_now the_erase r || erase_suspended e

module _ (g : Geometry) where
  -- the units that it lacks: of a suspended program, of a suspended erase, and of whichever runs
  abbrev pub program_left : SuspendedProgram → ℕ
  program_left program.Nothing = 0
  program_left (program.Program l w) = 1
  program_left (program.Buffer l n d) = n - d

  abbrev pub erase_left : Option SuspendedErase → ℕ
  erase_left None = 0
  erase_left (Some e) = size_of g e.block - e.done

  abbrev pub suspended_left : Followed → SuspendedProgram → Option SuspendedErase → ℕ
  suspended_left the_program p e = program_left p
  suspended_left the_erase p e = erase_left e

  abbrev pub left_of : Followed → Running → SuspendedProgram → Option SuspendedErase → ℕ
  left_of k r p e = cond (runs_now k r) (units_left g r) (suspended_left k p e)

-- the same of a device's state
abbrev pub lives_in : Followed → State → Bool
lives_in k s = lives k s.control.activity.running s.control.activity.program s.control.activity.erase

abbrev pub left_in : Followed → State → ℕ
left_in k s = left_of (geometry s) k s.control.activity.running s.control.activity.program s.control.activity.erase

-- the units that a step offers it: those of a work step that is not refused, while it runs
abbrev pub offered : Followed → State → Step → ℕ
offered k s (Read a) = 0
offered k s (Write a w) = 0
offered k s (Work n) = cond (runs_now k s.control.activity.running) (cond (leb n 65535) n 0) 0
offered k s (Supply on) = 0
offered k s Reset = 0

-- the units that a step's answer tells of, while it runs
abbrev pub told : Followed → Machine → Step → ℕ
told k m x = cond (runs_now k m.state.control.activity.running) (told_by (step_of m.state m.array x).answer) 0

-- both over a list, until it ends; and whether it lives on through the list
abbrev pub offered_all : Followed → Machine → List Step → ℕ
offered_all k m [] = 0
offered_all k m (x ∷ l) = offered k m.state x + cond (lives_in k (after m x).state) (offered_all k (after m x) l) 0

abbrev pub told_all : Followed → Machine → List Step → ℕ
told_all k m [] = 0
told_all k m (x ∷ l) = told k m x + cond (lives_in k (after m x).state) (told_all k (after m x) l) 0

abbrev pub lives_all : Followed → Machine → List Step → Bool
lives_all k m [] = true
lives_all k m (x ∷ l) = lives_in k (after m x).state && lives_all k (after m x) l

-- no step resets, and none switches the supply off: every other step a list may hold, refused ones too
abbrev pub Lasting : List Step → Type 0
Lasting [] = Unit {0}
Lasting (x ∷ l) = (x ≡ Reset → ⊥) × (x ≡ Supply false → ⊥) × Lasting l

-- a device's state, on an array, with nothing wrong
pub record Good (m : Machine) : Type 0 where
  pub size : length m.array ≡ words (geometry m.state)
  pub five : length m.state.unprotected ≡ 5
  pub thirty_two : length m.state.buffer ≡ 32
  pub formed : well_formed m.state ≡ true
