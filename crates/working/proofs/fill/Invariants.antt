-- `working::fill` meets its contract. The invariant: the words from `from` to below `i` are filled, and `i` has not passed the end.
use Rattle.std.proofs.Common.{◌≡◌, ◌≤◌, max}
use Rattle.working.specs.Array.{filled}
use Rattle.working.proofs.fill.Given as goal

abbrev pub invariant-loop-i : goal.invariant-loop-i
invariant-loop-i l = (l.i ≤ max l.from l.i-end) × (l.array ≡ filled l.initial.array l.from l.i)
