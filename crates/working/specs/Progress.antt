-- What runs after up to n units, and how many were done: the two that the definitions of work give, side by side. Assumes nothing.
use Prim.Native.Nat.{ℕ, ◌+◌, ◌-◌, ◌<◌, ◌≤◌, min}
use Rattle.std.specs.Prelude.{◌≡◌}
use native.Mathlib.Omega.{arith}
use borrow.Author.Tests.{lt-ltb, le-ltb}
use Rattle.geometry.specs.declared.Geometry.{Geometry}
use Rattle.geometry.specs.Blocks.{size_of}
use Rattle.semantics.specs.declared.Running.{Running}
use Rattle.semantics.specs.declared.Running.TheVariants as running
use Rattle.semantics.specs.Working.{units_left, units_done, running_after}
use Rattle.working.specs.declared.Progress.{Progress}

abbrev pub progress_of : Geometry → Running → ℕ → Progress
progress_of g r n = record { running = running_after g r (units_done g r n); units = units_done g r n }

abbrev made : Running → ℕ → Progress
made r m = record { running = r; units = m }

module _ (g : Geometry) where
  pub idle_progress : (n : ℕ) → made running.Idle 0 ≡ progress_of g running.Idle n
  unfolding running_after units_done units_left
  idle_progress n = let e : min n 0 ≡ 0 = omega arith in rw e

  -- no unit of a program is asked for, or one is done
  pub program_none : (l w n : ℕ) → n ≡ 0 → made (running.Program l w) 0 ≡ progress_of g (running.Program l w) n
  unfolding running_after units_done units_left
  program_none l w n h = let e : min n 1 ≡ 0 = omega arith in rw e

  pub program_ends : (l w n : ℕ) → 0 < n → made running.Idle 1 ≡ progress_of g (running.Program l w) n
  unfolding running_after units_done units_left
  program_ends l w n h = let e : min n 1 ≡ 1 = omega arith in rw e

  -- fewer units than are left, or all of them; m are done
  module _ (b done n m : ℕ) (e : m ≡ min n (size_of g b - done)) where
    pub erase_goes_on : m < size_of g b - done → made (running.Erase b (done + m)) m ≡ progress_of g (running.Erase b done) n
    unfolding running_after units_done units_left
    erase_goes_on h = rw (← e, lt-ltb (done + m) (size_of g b) (omega arith))

    pub erase_ends : size_of g b - done ≤ m → made running.Idle m ≡ progress_of g (running.Erase b done) n
    unfolding running_after units_done units_left
    erase_ends h = rw (← e, le-ltb (done + m) (size_of g b) (omega arith))

  module _ (l k done n m : ℕ) (e : m ≡ min n (k - done)) where
    pub buffer_goes_on : m < k - done → made (running.Buffer l k (done + m)) m ≡ progress_of g (running.Buffer l k done) n
    unfolding running_after units_done units_left
    buffer_goes_on h = rw (← e, lt-ltb (done + m) k (omega arith))

    pub buffer_ends : k - done ≤ m → made running.Idle m ≡ progress_of g (running.Buffer l k done) n
    unfolding running_after units_done units_left
    buffer_ends h = rw (← e, le-ltb (done + m) k (omega arith))
