-- `geometry::bank_start` meets its contract: a bank is a run that ends within the array, and any other number has 0.
-- Assumes nothing.
use mathlib.Core.Path.{sym, ◌∙◌}
use Rattle.geometry.specs.Blocks.{geometry_of}
use Rattle.geometry.specs.Laws as laws
use Rattle.geometry.specs.declared.Part.{Part}
use Rattle.geometry.proofs.bank_start.Goals as goal

pub returns-then-bank-g-clause-value : goal.returns-then-bank-g-clause-value
returns-then-bank-g-clause-value c =
    let p : Part = c.args.part in
    let e = c.geometry_of-g.ensures.value in
    c.run_start.ensures ∙ rw e (sym (laws.bank_is (geometry_of p) c.args.bank (rw e at c.if-bank-g.true)))

pub returns-else-bank-g-clause-value : goal.returns-else-bank-g-clause-value
returns-else-bank-g-clause-value c =
    sym (laws.bank_none (geometry_of c.args.part) _ (rw c.geometry_of-g.ensures.value at c.if-bank-g.false))
