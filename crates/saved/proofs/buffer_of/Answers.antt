-- `saved::buffer_of` meets its contract. Assumes nothing.
use mathlib.Core.Path.{◌≡◌, refl, ◌∙◌}
use native.Mathlib.Omega.{arith}
use borrow.Author.Rules.{rules}
use Rattle.semantics.specs.Tabulate.{tabulate}
use Rattle.saved.specs.Laws.{taken_more}
use Rattle.saved.proofs.buffer_of.Goals as goal

pub loop-j-preserved : goal.loop-j-preserved
loop-j-preserved c = taken_more c.args.words.now _ _ _ _ (search rules) refl c.loop-j.invariant

pub returns : goal.returns
unfolding tabulate
returns c = let e : c.loop-j.j ≡ 8 = omega arith in c.loop-j.invariant ∙ rw e
