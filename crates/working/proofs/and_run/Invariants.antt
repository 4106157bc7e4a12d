-- `working::and_run` meets its contract. The invariant: the words from `from` to below `at` are anded in, and `at` has not passed the end.
use Rattle.std.proofs.Common.{◌≡◌, ◌≤◌, max}
use Rattle.working.specs.Array.{anded_run}
use Rattle.working.proofs.and_run.Given as goal

abbrev pub invariant-loop-at : goal.invariant-loop-at
invariant-loop-at l = (l.at ≤ max l.from l.at-end) × (l.array ≡ anded_run l.initial.array l.start l.buffer l.from l.at)
