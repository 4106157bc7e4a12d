-- `Device::read` meets its contract: the step by the refusal that was found. Assumes nothing.
use Rattle.std.proofs.Common.{◌∙◌}
use Rattle.semantics.specs.declared.Step.TheVariants.{Read}
use Rattle.semantics.specs.Steps.{accepted}
use Rattle.device.specs.Refusals.{none_left, outcome_accepted, outcome_refused}
use Rattle.device.proofs.Device.read.Goals as goal

pub returns : goal.returns
unfolding accepted
returns c = rw c.read_word.ensures (outcome_accepted _ _ _ (Read _) _ _ _ (c.refusal_of.ensures _) c.address_refusal.ensures c.first_refusal-refusal.ensures (none_left _ c.in_default.not-Some))

pub returns-in-Some : goal.returns-in-Some
returns-in-Some c = c.refused.ensures ∙ outcome_refused _ _ _ (Read _) _ _ _ (c.refusal_of.ensures _) c.address_refusal.ensures c.first_refusal-refusal.ensures _ c.in-Some.is
