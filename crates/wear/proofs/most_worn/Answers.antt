-- `wear::most_worn` meets its contract. The invariant: of the blocks looked at, the one held is the first of the greatest counts. Assumes nothing.
use mathlib.Core.Path.{◌≡◌}
use native.Mathlib.Omega.{arith}
use Rattle.wear.specs.Most.{most_first}
use Rattle.wear.proofs.most_worn.Goals as goal

pub returns : goal.returns
returns c =
    let l = c.loop-b in
    let e : l.b ≡ 259 = omega (arith, l.invariant.2) in
    most_first _ _ (rw e at l.invariant.0)
