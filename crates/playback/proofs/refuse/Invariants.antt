-- `playback::refuse` meets its contract. The invariant: of every device that is refused so, the first i numbers have been played. Assumes nothing.
use Rattle.std.proofs.Common.{Some}
use mathlib.Core.List.{List}
use mathlib.Core.Path.{◌≡◌}
use Prim.Native.Nat.{ℕ, ◌-◌, ◌≤◌, min}
use lib.ListN.{length}
use Rattle.semantics.specs.declared.State.{State}
use Rattle.wear.specs.Counts.{Counts}
use Rattle.wear.specs.Held.{Held}
use Rattle.playback.specs.Laws.{Going}
use Rattle.playback.proofs.refuse.Given as goal

abbrev pub invariant-loop-i : goal.invariant-loop-i
invariant-loop-i l =
    ((s : State) (k : Counts) (xs : List ℕ) → Held (Some l.refused) s k xs → Going (Some l.refused) s k l.steps l.initial.answers xs l.i s k l.answers xs)
    × (l.n ≡ min (length l.steps) (length l.initial.answers)) × (l.i ≤ l.n) × (length l.answers ≡ length l.initial.answers)

abbrev pub decreases-loop-i : goal.decreases-loop-i
decreases-loop-i l = l.n - l.i
