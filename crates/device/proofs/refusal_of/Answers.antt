-- `device::refusal_of` meets its contract. Assumes nothing.
use Rattle.wear.specs.Steps.{refusal_with}
use Rattle.device.proofs.refusal_of.Goals as goal

pub returns : goal.returns
unfolding refusal_with
returns c l = rw (← c.formed_with.ensures l) c.refusal_beside.ensures
