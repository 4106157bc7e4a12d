-- `geometry::block_from` meets its contract: each branch is one form of `block_from`, by a shift.
-- Assumes nothing.
use Rattle.geometry.specs.Bits.{small_shift, main_shift}
use Rattle.geometry.proofs.block_from.Goals as goal

pub returns-then-place-eq0 : goal.returns-then-place-eq0
returns-then-place-eq0 c =
    let a = c.args in
    rw c.shifts_of-shifts.ensures.small
    (small_shift a.part a.m (rw c.shifts_of-shifts.ensures.unit at c.if-place-eq0.true))

pub returns-else-place-eq0 : goal.returns-else-place-eq0
returns-else-place-eq0 c =
    let a = c.args in
    let u = c.shifts_of-shifts.ensures.unit in
    rw (u, c.geometry_of.ensures.value)
    (main_shift a.part a.m (rw u at c.if-place-eq0.false))
