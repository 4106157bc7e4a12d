-- `geometry::block_at` meets its contract: the block of the mirror, and a location lies in a block.
-- Assumes nothing.
use Prim.Native.Nat.{ℕ, ◌<◌}
use mathlib.Core.Path.{◌≡◌, ap, ◌∙◌, subst⁻¹}
use Rattle.geometry.specs.Blocks.{geometry_of, location, block_from, block_of}
use Rattle.geometry.specs.Laws as laws
use Rattle.geometry.proofs.block_at.Goals as goal

pub returns : goal.returns
unfolding block_of
returns c =
    let a = c.args in
    let e : c.block_from.result ≡ block_of (geometry_of a.part) (location (geometry_of a.part) a.address) =
    c.block_from.ensures ∙ ap (block_from (geometry_of a.part)) c.mirror_at.ensures in
    record { value = e; inside = subst⁻¹ (λ (x : ℕ). x < 259) e (laws.part_block_lt a.part _ (laws.location_lt (geometry_of a.part) (laws.sound a.part) a.address)) }
