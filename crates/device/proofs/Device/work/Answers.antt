-- `Device::work` meets its contract: the step by the refusal that was found, the array by what `work` makes of it, the counts by what ran and what is left. Assumes nothing.
use Rattle.std.proofs.Common.{◌∙◌}
use Rattle.semantics.specs.declared.Step.TheVariants.{Work}
use Rattle.semantics.specs.Working.{worked_on, worked, worked_array}
use Rattle.semantics.specs.Steps.{accepted, accepted_array}
use Rattle.wear.specs.Steps.{accepted_counts}
use Rattle.device.specs.Refusals.{none_left, outcome_accepted, outcome_refused, array_accepted, array_refused, counts_accepted, counts_refused}
use Rattle.device.proofs.Device.work.Goals as goal

pub returns : goal.returns
unfolding accepted accepted_array accepted_counts worked_on worked worked_array
returns c =
    let w = c.work-worked.ensures in
    let s = c.refusal_of.ensures _ in
    let n = c.count_refusal.ensures _ in
    let e = c.first_refusal-refusal.ensures in
    let t = none_left _ c.in_default.not-Some in record { outcome = rw (w.buffer, w.worked) (outcome_accepted _ _ _ (Work _) _ _ _ s n e t); array = w.array ∙ array_accepted _ _ _ (Work _) _ _ _ s n e t; counts = c.count_finished.ensures ∙ rw w.worked (counts_accepted _ _ _ (Work _) _ _ _ s n e t) }

pub returns-in-Some : goal.returns-in-Some
returns-in-Some c =
    let s = c.refusal_of.ensures _ in
    let n = c.count_refusal.ensures _ in
    let e = c.first_refusal-refusal.ensures in
    let r = c.in-Some.is in record { outcome = c.refused.ensures ∙ outcome_refused _ _ _ (Work _) _ _ _ s n e _ r; array = array_refused _ _ _ (Work _) _ _ _ s n e _ r; counts = counts_refused _ _ _ (Work _) _ _ _ s n e _ r }
