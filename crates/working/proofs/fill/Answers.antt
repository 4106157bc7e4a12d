-- `working::fill` meets its contract: a word more at `i`, and past the end nothing changes.
use Rattle.std.proofs.Common.{◌∙◌, rules}
use Rattle.working.specs.Array.{changed_none, changed_more, changed_end}
use Rattle.working.proofs.fill.Goals as goal

pub loop-i-init : goal.loop-i-init
loop-i-init c = (search rules, changed_none _ _ _)

pub loop-i-preserved : goal.loop-i-preserved
loop-i-preserved c = let e = c.loop-i.invariant.1 in (search rules, rw e (changed_more _ _ _ _ c.loop-i.auto.i (search rules)))

pub returns : goal.returns
returns c = c.loop-i.invariant.1 ∙ changed_end _ _ _ _ _ (search rules) (search rules)
