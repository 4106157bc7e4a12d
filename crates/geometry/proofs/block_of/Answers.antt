-- `geometry::block_of` meets its contract: the block of the mirror; the bound is a law of the parts.
-- Assumes nothing.
use Prim.Native.Nat.{ℕ, ◌<◌}
use mathlib.Core.Path.{◌≡◌, ap, ◌∙◌, subst⁻¹}
use Rattle.geometry.specs.Blocks.{geometry_of, block_from, block_of}
use Rattle.geometry.specs.Laws as laws
use Rattle.geometry.proofs.block_of.Goals as goal

pub returns : goal.returns
unfolding block_of
returns c =
    let a = c.args in
    let e : c.block_from.result ≡ block_of (geometry_of a.part) a.location =
    c.block_from.ensures ∙ ap (block_from (geometry_of a.part)) c.mirror_of.ensures in
    record { value = e; inside = λ h. subst⁻¹ (λ (x : ℕ). x < 259) e (laws.part_block_lt a.part a.location h) }
