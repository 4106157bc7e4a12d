-- `saved::put_buffer` meets its contract. Assumes nothing.
use mathlib.Core.Path.{◌≡◌, refl, ◌∙◌}
use native.Mathlib.Omega.{arith}
use borrow.Author.Rules.{rules}
use Rattle.semantics.specs.Tabulate.{tabulate}
use Rattle.saved.specs.Saved.{packed_at}
use Rattle.saved.specs.Laws.{tabulate_next}
use Rattle.saved.proofs.put_buffer.Goals as goal

pub loop-j-preserved : goal.loop-j-preserved
loop-j-preserved c = tabulate_next 0 8 (packed_at c.args.buffer) c.args.words.now _ 17 _ _ _ _ (search rules) refl refl c.loop-j.invariant c.packed.ensures

pub returns : goal.returns
unfolding tabulate
returns c = let e : c.loop-j.j ≡ 8 = omega arith in c.loop-j.invariant ∙ rw e
