-- `geometry::block_starts` meets its contract: the test of all 259 entries, computed. Assumes nothing.
use mathlib.Core.Path.{refl}
use Rattle.geometry.specs.Blocks.{block_from}
use Rattle.geometry.specs.Table.{begins, tied}
use Rattle.geometry.proofs.block_starts.Goals as goal

pub returns : goal.returns
unfolding block_from begins tied
returns c = refl
