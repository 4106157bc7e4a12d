-- `working::and_run` meets its contract: a word more at `at`, and past the end nothing changes.
use Rattle.std.proofs.Common.{length, ap, ◌∙◌, arith, rules}
use Rattle.working.specs.Array.{changed_none, changed_length, anded_more, anded_end}
use Rattle.working.proofs.and_run.Goals as goal

pub loop-at-init : goal.loop-at-init
loop-at-init c = (search rules, changed_none _ _ _)

pub loop-at-preserved : goal.loop-at-preserved
loop-at-preserved c =
    let e = c.loop-at.invariant.1 in
    (search rules, c.and_word.ensures ∙ rw e (anded_more _ _ _ _ _ c.loop-at.auto.at (search rules)))

pub shape_of-array : goal.shape_of-array
shape_of-array c = ap length c.loop-at.invariant.1 ∙ changed_length _ _ _ _

pub returns : goal.returns
returns c =
    c.loop-at.invariant.1 ∙ anded_end _ _ _ _ _ _ (λ L. omega (arith, c.slice_known-1.given L)) (search rules) (search rules)
