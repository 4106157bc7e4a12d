-- `geometry::block_size` meets its contract: each branch is one form of `size_of`.
-- Assumes nothing.
use mathlib.Core.Path.{sym}
use Rattle.geometry.specs.Blocks.{geometry_of}
use Rattle.geometry.specs.Laws as laws
use Rattle.geometry.proofs.block_size.Goals as goal

pub returns-then-block-g-clause-value : goal.returns-then-block-g-clause-value
returns-then-block-g-clause-value c = rw (← c.geometry_of-g.ensures.value) (sym (laws.size_small _ _ c.if-block-g.true))

pub returns-then-block-block_count-clause-value : goal.returns-then-block-block_count-clause-value
returns-then-block-block_count-clause-value c =
    let e = c.geometry_of-g.ensures.value in
    rw e (sym (laws.size_main (geometry_of c.args.part) c.args.block (rw e at c.if-block-g.false) (rw c.block_count.ensures.value at c.if-block-block_count.true)))

pub returns-else-block-block_count-clause-value : goal.returns-else-block-block_count-clause-value
returns-else-block-block_count-clause-value c =
    sym (laws.size_none (geometry_of c.args.part) (laws.sound c.args.part) _ (rw c.block_count.ensures.value at c.if-block-block_count.false))
