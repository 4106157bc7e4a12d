-- `geometry::bank_of_block` meets its contract: the bank of the block's start, which is within the array.
-- Assumes nothing.
use mathlib.Core.Path.{ap, ◌∙◌}
use Rattle.geometry.specs.Blocks.{geometry_of, bank_of, bank_of_block}
use Rattle.geometry.proofs.bank_of_block.Goals as goal

pub returns-clause-value : goal.returns-clause-value
unfolding bank_of_block
returns-clause-value c = c.bank_of.ensures.value ∙ ap (bank_of (geometry_of c.args.part)) c.block_start.ensures.value
