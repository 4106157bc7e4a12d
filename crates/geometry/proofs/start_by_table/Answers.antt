-- `geometry::start_by_table` meets its contract: an entry, scaled, is the block's start; and any other number has 0. Assumes nothing.
use native.Mathlib.Omega.{arith}
use Prim.Native.Nat.{ℕ, ◌<◌}
use mathlib.Core.Path.{◌≡◌, sym, ◌∙◌}
use Rattle.geometry.specs.Blocks.{geometry_of, blocks, start_of}
use Rattle.geometry.specs.Laws as laws
use Rattle.geometry.specs.Listed.{table_is_start}
use Rattle.geometry.specs.declared.Part.{Part}
use Rattle.geometry.proofs.start_by_table.Goals as goal

pub run_start-requires : goal.run_start-requires
run_start-requires c =
    let p : Part = c.args.part in
    let b : ℕ = c.args.block in
    let n : b < blocks (geometry_of p) = rw c.block_count.ensures.value at c.if-block-block_count.true in
    let e = table_is_start c.block_starts.result.now c.block_starts.ensures p b (omega (arith, laws.part_blocks p)) in
    rw (c.block_size.ensures.value, c.scale_of.ensures.value, e) (laws.end_from (geometry_of p) (laws.sound p) b n)

pub returns-then-block-block_count : goal.returns-then-block-block_count
returns-then-block-block_count c =
    let p : Part = c.args.part in
    let b : ℕ = c.args.block in
    let n : b < blocks (geometry_of p) = rw c.block_count.ensures.value at c.if-block-block_count.true in
    let e = table_is_start c.block_starts.result.now c.block_starts.ensures p b (omega (arith, laws.part_blocks p)) in
    let r : c.run_start.result ≡ start_of (geometry_of p) b = c.run_start.ensures ∙ rw (c.block_size.ensures.value, c.scale_of.ensures.value, e, laws.start_is (geometry_of p) b n) in
    record { value = r; limit = omega (arith, r, laws.start_lt (geometry_of p) (laws.sound p) b, (laws.sound p).limit) }

pub returns-else-block-block_count-clause-value : goal.returns-else-block-block_count-clause-value
returns-else-block-block_count-clause-value c =
    sym (laws.start_none (geometry_of c.args.part) _ (rw c.block_count.ensures.value at c.if-block-block_count.false))
