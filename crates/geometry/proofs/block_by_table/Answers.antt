-- `geometry::block_by_table` meets its contract: the table that it asks has passed the test, and so gives the formula's block. Assumes nothing.
use native.Mathlib.Omega.{arith}
use Prim.Native.Nat.{suc, ◌*◌, ◌-◌, ◌<◌}
use mathlib.Core.Path.{◌≡◌}
use Rattle.geometry.specs.Blocks.{geometry_of, words, block_of}
use Rattle.geometry.specs.Laws.{sound, mirror_lt, part_block_lt}
use Rattle.geometry.specs.Listed.{rises, scaled_lt, table_is_formula}
use Rattle.geometry.specs.declared.Part.{Part}
use Rattle.geometry.specs.declared.Part.TheVariants.{FullBottom}
use Rattle.geometry.proofs.block_by_table.Goals as goal

-- the location of the full bottom part that is looked up
stands : (c : goal.After-scale_of) → c.mirror_of.result * c.scale_of.result < words (geometry_of FullBottom)
stands c =
    let p : Part = c.args.part in
    rw (c.mirror_of.ensures, c.scale_of.ensures.value)
    (scaled_lt p _ (mirror_lt (geometry_of p) (sound p) _ c.requires))

-- the last entry that is not above it is the block's
found : (c : goal.After-not_above) → c.not_above.result ≡ suc (block_of (geometry_of c.args.part) c.args.location)
found c =
    let a = c in
    rw (c.not_above.ensures, c.mirror_of.ensures, c.scale_of.ensures.value)
    (table_is_formula c.block_starts.result.now c.block_starts.ensures a.args.part a.args.location a.requires)

-- and it is a block's number
number : (c : goal.After-not_above) → c.not_above.result - 1 < 259
number c =
    let a = c in
    omega (arith, found c, part_block_lt a.args.part a.args.location a.requires)

pub overflow_mul-m : goal.overflow_mul-m
overflow_mul-m c = omega (arith, stands c)

pub not_above-requires : goal.not_above-requires
not_above-requires c = rises (geometry_of FullBottom) (sound FullBottom) c.block_starts.result.now c.block_starts.ensures

pub overflow_sub-result : goal.overflow_sub-result
overflow_sub-result c = omega (arith, found c)

pub overflow_cast-result : goal.overflow_cast-result
overflow_cast-result c = omega (arith, number c)

pub returns : goal.returns
returns c = record { value = omega (arith, found c); inside = number c }
