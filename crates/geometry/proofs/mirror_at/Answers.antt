-- `geometry::mirror_at` meets its contract: a length is a power of two, so the mirror is the location with its bits turned round.
-- Assumes nothing.
use Rattle.geometry.specs.Bits.{mirror_turned}
use Rattle.geometry.proofs.mirror_at.Goals as goal

pub returns : goal.returns
returns c =
    let a = c.args in
    rw (c.turned_bits.ensures, c.length_of.ensures.value) (mirror_turned a.part a.address)
