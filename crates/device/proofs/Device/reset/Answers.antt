-- `Device::reset` meets its contract: the step by the refusal that was found. Assumes nothing.
use Rattle.std.proofs.Common.{◌∙◌, refl}
use Rattle.semantics.specs.declared.Step.TheVariants.{Reset}
use Rattle.semantics.specs.Card.{given, card}
use Rattle.semantics.specs.Split.{step_refusal}
use Rattle.semantics.specs.Steps.{accepted}
use Rattle.device.specs.Refusals.{none_left, none_own, outcome_accepted, outcome_refused}
use Rattle.device.proofs.Device.reset.Goals as goal

pub returns : goal.returns
unfolding accepted given card step_refusal
returns c = rw c.reset.ensures (outcome_accepted _ _ _ Reset _ _ _ (c.refusal_of.ensures _) refl (none_own _) (none_left _ c.in_default.not-Some))

pub returns-in-Some : goal.returns-in-Some
unfolding given card step_refusal
returns-in-Some c = c.refused.ensures ∙ outcome_refused _ _ _ Reset _ _ _ (c.refusal_of.ensures _) refl (none_own _) _ c.in-Some.is
