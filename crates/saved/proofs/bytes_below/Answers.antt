-- `saved::bytes_below` meets its contract. Assumes nothing.
use Prim.Native.Nat.{◌+◌, ◌-◌, suc}
use mathlib.Core.Bool.{and_assoc}
use mathlib.Core.Path.{◌≡◌, ◌∙◌}
use native.Mathlib.Omega.{arith}
use Rattle.saved.specs.Saved.{bytes_below}
use Rattle.saved.proofs.bytes_below.Goals as goal

pub loop-i-preserved : goal.loop-i-preserved
unfolding bytes_below
loop-i-preserved c =
    let e : c.args.n - c.loop-i.i ≡ suc (c.args.n - (c.loop-i.i + 1)) = omega arith in
    and_assoc c.loop-i.below _ _ ∙ rw e at c.loop-i.invariant

pub returns : goal.returns
unfolding bytes_below
returns c = let e : c.args.n - c.loop-i.i ≡ 0 = omega arith in rw e at c.loop-i.invariant
