-- `writing::first_cycle` meets its contract: by what it changes. Assumes nothing.
use mathlib.Core.Path.{sym, ap, ◌∙◌}
use Rattle.writing.specs.Changes.{first_by, first_is}
use Rattle.writing.proofs.first_cycle.Goals as goal

pub returns-in-First : goal.returns-in-First
returns-in-First c = rw (c.with_mode.ensures, c.pend.ensures) (sym (ap (first_by _) (sym c.command_change.ensures ∙ c.in-First.is)) ∙ first_is _ _ _)

pub returns-in-Activity : goal.returns-in-Activity
returns-in-Activity c = c.with_activity.ensures ∙ sym (ap (first_by _) (sym c.command_change.ensures ∙ c.in-Activity.is)) ∙ first_is _ _ _

pub returns-in-Ended : goal.returns-in-Ended
returns-in-Ended c = rw (c.with_ended.ensures, c.with_activity-in-Ended.ensures) (sym (ap (first_by _) (sym c.command_change.ensures ∙ c.in-Ended.is)) ∙ first_is _ _ _)

pub returns-in-View : goal.returns-in-View
returns-in-View c = c.clear_status.ensures ∙ sym (ap (first_by _) (sym c.command_change.ensures ∙ c.in-View.is)) ∙ first_is _ _ _
