-- `geometry::block_start` meets its contract: a block is a run that ends within the array, and any other number has 0.
-- Assumes nothing.
use mathlib.Core.Path.{sym, ◌∙◌}
use Prim.Native.Nat.{ℕ, ◌<◌, ◌≤◌}
use Rattle.geometry.specs.Blocks.{geometry_of, blocks}
use Rattle.geometry.specs.Laws as laws
use Rattle.geometry.specs.declared.Part.{Part}
use Rattle.geometry.proofs.block_start.Goals as goal

pub returns-then-block-block_count-clause-value : goal.returns-then-block-block_count-clause-value
returns-then-block-block_count-clause-value c =
    sym (laws.start_none (geometry_of c.args.part) _ (rw c.block_count.ensures.value at c.if-block-block_count.true))

pub returns-then-block-g-clause-value : goal.returns-then-block-g-clause-value
returns-then-block-g-clause-value c =
    let p : Part = c.args.part in
    let b : ℕ = c.args.block in
    let e = c.geometry_of-g.ensures.value in
    let h : b < blocks (geometry_of p) = rw c.block_count.ensures.value at c.if-block-block_count.false in
    let k : b < (geometry_of p).smalls = rw e at c.if-block-g.true in
    c.run_start.ensures ∙ rw (e, laws.start_is (geometry_of p) b h, laws.start_small (geometry_of p) b k, laws.size_small (geometry_of p) b k)

pub returns-else-block-g-clause-value : goal.returns-else-block-g-clause-value
returns-else-block-g-clause-value c =
    let p : Part = c.args.part in
    let b : ℕ = c.args.block in
    let e = c.geometry_of-g.ensures.value in
    let h : b < blocks (geometry_of p) = rw c.block_count.ensures.value at c.if-block-block_count.false in
    let k : (geometry_of p).smalls ≤ b = rw e at c.if-block-g.false in
    c.run_start-else-block-g.ensures ∙ rw (e, laws.start_is (geometry_of p) b h, laws.start_main (geometry_of p) b k, laws.size_main (geometry_of p) b k h)
