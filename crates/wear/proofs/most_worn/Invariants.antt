-- `wear::most_worn` meets its contract. The invariant: of the blocks looked at, the one held is the first of the greatest counts. Assumes nothing.
use Prim.Native.Nat.{◌≤◌}
use mathlib.Core.Path.{◌≡◌}
use Rattle.wear.specs.Counts.{lent, count_of}
use Rattle.wear.specs.Most.{First}
use Rattle.wear.proofs.most_worn.Given as goal

abbrev pub invariant-loop-b : goal.invariant-loop-b
invariant-loop-b l = First (count_of (lent l.main l.small)) l.b l.block × (l.most ≡ count_of (lent l.main l.small) l.block) × (l.b ≤ 259)
