-- `saved::bytes_below` meets its contract. The invariant: what is tested, and the test of what is left, are the whole
-- test. Assumes nothing.
use Prim.Native.Nat.{◌-◌}
use mathlib.Core.Bool.{◌&&◌}
use mathlib.Core.Path.{◌≡◌}
use Rattle.saved.specs.Saved.{bytes_below}
use Rattle.saved.proofs.bytes_below.Given as goal

abbrev pub invariant-loop-i : goal.invariant-loop-i
invariant-loop-i l = (l.below && bytes_below l.m (l.n - l.i) l.rest) ≡ bytes_below l.m l.n l.w
