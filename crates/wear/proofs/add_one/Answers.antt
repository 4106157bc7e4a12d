-- `wear::add_one` meets its contract: by the count that was. Assumes nothing.
use Rattle.std.proofs.Common.{◌∙◌}
use Rattle.wear.proofs.Places.{more}
use Rattle.wear.proofs.add_one.Goals as goal

pub returns : goal.returns
returns c = c.put_count.ensures ∙ more _ _ _ _ c.count_of-n.ensures c.saturating_add.ensures
