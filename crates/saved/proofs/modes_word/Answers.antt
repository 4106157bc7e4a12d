-- `saved::modes_word` meets its contract. Assumes nothing.
use Prim.Native.Nat.{◌-◌, suc}
use mathlib.Core.Path.{◌≡◌, refl}
use native.Mathlib.Omega.{arith}
use borrow.Author.Rules.{rules}
use Rattle.semantics.specs.Tabulate.{tabulate}
use Rattle.saved.specs.Laws.{modes_small, modes_next}
use Rattle.saved.proofs.modes_word.Goals as goal

pub loop-i-init : goal.loop-i-init
unfolding tabulate
loop-i-init c = refl

pub overflow_mul-w : goal.overflow_mul-w
overflow_mul-w c = let v = c.loop-i.invariant in omega (arith, modes_small c.args.banks c.args.from c.loop-i.i (search rules))

pub overflow_add-w : goal.overflow_add-w
overflow_add-w c = let v = c.loop-i.invariant in omega (arith, modes_small c.args.banks c.args.from c.loop-i.i (search rules))

pub loop-i-preserved : goal.loop-i-preserved
loop-i-preserved c =
    let i = c.loop-i.i in
    let e : i ≡ suc (i - 1) = omega arith in
    modes_next c.args.banks c.args.from (i - 1) _ _ (search rules) (rw e at c.loop-i.invariant) c.bank_number.ensures.value

pub returns : goal.returns
unfolding tabulate
returns c = let e : c.loop-i.i ≡ 0 = omega arith in rw e at c.loop-i.invariant
