-- `Device::supply` meets its contract: the step by the refusal that was found. Assumes nothing.
use Rattle.std.proofs.Common.{◌∙◌, refl}
use Rattle.semantics.specs.declared.Step.TheVariants.{Supply}
use Rattle.semantics.specs.Card.{given, card}
use Rattle.semantics.specs.Split.{step_refusal}
use Rattle.semantics.specs.Steps.{accepted, switched_to}
use Rattle.device.specs.Refusals.{none_left, none_own, outcome_accepted, outcome_refused}
use Rattle.device.proofs.Device.supply.Goals as goal

pub returns : goal.returns
unfolding accepted given card step_refusal switched_to
returns c =
    let w = c.switch_supply-next.ensures in
    rw (w.buffer, w.control) (outcome_accepted _ _ _ (Supply _) _ _ _ (c.refusal_of.ensures _) refl (none_own _) (none_left _ c.in_default.not-Some))

pub returns-in-Some : goal.returns-in-Some
unfolding given card step_refusal
returns-in-Some c = c.refused.ensures ∙ outcome_refused _ _ _ (Supply _) _ _ _ (c.refusal_of.ensures _) refl (none_own _) _ c.in-Some.is
