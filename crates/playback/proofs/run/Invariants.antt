-- `playback::run` meets its contract. The invariant: the first i numbers have been played, and what the state, its counts and the array are refused for, nothing, is as it was
-- (`Going`). One number more is played by the task that it asks, and a write by what it changes. Assumes nothing.
use Rattle.std.proofs.Common.{None}
use mathlib.Core.Path.{◌≡◌}
use Prim.Native.Nat.{◌≤◌, min}
use lib.ListN.{length}
use Rattle.wear.specs.Counts.{lent}
use Rattle.playback.specs.Laws.{Going}
use Rattle.playback.proofs.run.Given as goal

abbrev pub invariant-loop-i : goal.invariant-loop-i
invariant-loop-i l =
    Going None (record { part = l.part; banks = l.initial.banks; unprotected = l.initial.unprotected; control = l.initial.control; buffer = l.initial.buffer }) (lent l.initial.main l.initial.small) l.steps l.initial.answers l.initial.array l.i
    (record { part = l.part; banks = l.banks; unprotected = l.unprotected; control = l.control; buffer = l.buffer }) (lent l.main l.small) l.answers l.array
    × (l.i-end ≡ min (length l.steps) (length l.initial.answers)) × (l.i ≤ l.i-end) × (l.played ≡ l.i-end)
