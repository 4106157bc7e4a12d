-- What a number asks of a list, and what that comes to: the step that the number encodes, and whether it is refused. Assumes nothing.
use Rattle.std.specs.Prelude.{ℕ, ◌≡◌, Option, Some, None}
use Rattle.std.specs.Option.{option_map_or}
use Rattle.std.proofs.Math.Path.{refl}
use Rattle.std.proofs.Common.{sym, subst}
use Rattle.refusal.specs.declared.Refusal.{Refusal}
use Rattle.geometry.specs.declared.Geometry.{Geometry}
use Rattle.semantics.specs.declared.Step.{Step}
use Rattle.semantics.specs.declared.Step.TheVariants.{Read, Write, Work, Supply, Reset}
use Rattle.semantics.specs.View.{place_of}
use Rattle.semantics.specs.Split.{step_refusal, first_refusal}
use Rattle.semantics.specs.Encoding.{decode}
use Rattle.playback.specs.declared.Task.{Task}
use Rattle.playback.specs.declared.Task.TheVariants as task

-- a step that is not refused
abbrev pub allowed : Geometry → Step → Task
allowed g (Read a) = task.Read a
allowed g (Write a w) = task.Write (place_of g a) w
allowed g (Work n) = task.Work n
allowed g (Supply on) = task.Supply on
allowed g Reset = task.Reset

-- by what the number encodes, where c is what the state, its counts and the array are refused for
abbrev pub task_by : Option Refusal → Geometry → Option Step → Task
task_by c g (Some x) = option_map_or task.Refused (first_refusal c (step_refusal g x)) (allowed g x)
task_by c g None = task.End

abbrev pub task_of : Option Refusal → Geometry → ℕ → Task
task_of c g code = task_by c g (decode code)

-- ---- what a task comes to

module _ (c : Option Refusal) (g : Geometry) (code : ℕ) where
  -- the number encodes the step x, and it is not refused
  abbrev pub Asks : Step → Type 0
  Asks x = (decode code ≡ Some x) × (first_refusal c (step_refusal g x) ≡ None)

  abbrev pub Means : Task → Type 0
  Means task.End = decode code ≡ None
  Means (task.Refused e) = (x : Step) × ((decode code ≡ Some x) × (first_refusal c (step_refusal g x) ≡ Some e))
  Means (task.Read a) = Asks (Read a)
  Means (task.Write p w) = (a : ℕ) × ((p ≡ place_of g a) × Asks (Write a w))
  Means (task.Work n) = Asks (Work n)
  Means (task.Supply on) = Asks (Supply on)
  Means task.Reset = Asks Reset

  allowed_means : (x : Step) → Asks x → Means (allowed g x)
  allowed_means (Read a) h = h
  allowed_means (Write a w) h = (a, (refl, h))
  allowed_means (Work n) h = h
  allowed_means (Supply on) h = h
  allowed_means Reset h = h

  valid_means : (x : Step) → decode code ≡ Some x → Means (task_by c g (Some x))
  valid_means x q = go (first_refusal c (step_refusal g x)) refl
    where
      go : (o : Option Refusal) → first_refusal c (step_refusal g x) ≡ o → Means (option_map_or task.Refused o (allowed g x))
      go None e = allowed_means x (q, e)
      go (Some d) e = (x, (q, e))

  pub task_means : (t : Task) → t ≡ task_of c g code → Means t
  task_means t e = subst Means (sym e) (go (decode code) refl)
    where
      go : (y : Option Step) → decode code ≡ y → Means (task_by c g y)
      go (Some x) q = valid_means x q
      go None q = q
