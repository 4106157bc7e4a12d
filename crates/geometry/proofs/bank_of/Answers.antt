-- `geometry::bank_of` meets its contract: a shift by the bits of a bank is the quotient of `bank_of`; the bound is a law of the parts.
-- Assumes nothing.
use Rattle.geometry.specs.Blocks.{geometry_of, mirror, bank_of}
use Rattle.geometry.specs.Bits.{bank_shift}
use Rattle.geometry.specs.Laws as laws
use Rattle.geometry.specs.declared.Part.{Part}
use Rattle.geometry.proofs.bank_of.Goals as goal

pub returns-clause-value : goal.returns-clause-value
unfolding bank_of
returns-clause-value c = rw (c.shifts_of.ensures.bank, ← c.mirror_of.ensures) (bank_shift c.args.part _)

pub returns-clause-inside : goal.returns-clause-inside
unfolding bank_of
returns-clause-inside c h =
    let p : Part = c.args.part in
    rw (c.shifts_of.ensures.bank, c.mirror_of.ensures, bank_shift p (mirror (geometry_of p) c.args.location)) (laws.part_bank_lt p _ h)
