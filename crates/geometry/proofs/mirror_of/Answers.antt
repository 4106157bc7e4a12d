-- `geometry::mirror_of` meets its contract: the two forms of `mirror`.
-- Assumes nothing.
use native.Mathlib.Omega.{arith}
use mathlib.Core.Path.{◌≡◌, sym}
use mathlib.Core.Bool.{true, false}
use Rattle.geometry.specs.declared.Part.{Part}
use Rattle.geometry.specs.Blocks.{geometry_of}
use Rattle.geometry.specs.Laws as laws
use Rattle.geometry.proofs.mirror_of.Goals as goal

pub returns-then-is_top : goal.returns-then-is_top
returns-then-is_top c =
    let p : Part = c.args.part in
    let t : (geometry_of p).top ≡ true = rw c.is_top.ensures at c.if-is_top.true in
    omega (arith, laws.mirror_top (geometry_of p) c.args.location t)

pub returns-else-is_top : goal.returns-else-is_top
returns-else-is_top c =
    let p : Part = c.args.part in
    let t : (geometry_of p).top ≡ false = rw c.is_top.ensures at c.if-is_top.false in
    sym (laws.mirror_bottom (geometry_of p) _ t)
