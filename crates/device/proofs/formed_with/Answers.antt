-- `device::formed_with` meets its contract: the one rule is the two tests together. Assumes nothing.
use Rattle.wear.specs.Steps.{formed_with}
use Rattle.device.proofs.formed_with.Goals as goal

pub returns : goal.returns
unfolding formed_with
returns c l = rw (c.well_formed-2.ensures, c.shared_zero.ensures)
