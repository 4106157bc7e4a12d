-- `hexread::scan` meets its contract. Assumes nothing.
use Rattle.std.proofs.Common.{refl}
use Rattle.intelhex.specs.Chunks.{chunk_more, chunk_none}
use Rattle.hexread.specs.Bytes.{scan_step, scan_end}
use Rattle.hexread.proofs.scan.Goals as goal

pub loop-pair-preserved : goal.loop-pair-preserved
loop-pair-preserved c =
    let inv = c.loop-pair.invariant in
    let m = chunk_more _ _ _ inv.0 _ _ c.in-Some.is c.next.ensures.steps in
    (m.size, rw (c.from.ensures, c.from-in-loop-pair.ensures, c.digit-high.ensures, c.digit-low.ensures) (scan_step _ _ _ _ _ _ _ inv.1 m.split m.many refl))

pub returns-then-good : goal.returns-then-good
returns-then-good c =
    let inv = c.loop-pair.invariant in
    rw c.if-good.true at (scan_end _ _ _ _ inv.1 (chunk_none _ _ _ inv.0 _ c.in-None.is c.next.ensures.steps))

pub returns-else-good : goal.returns-else-good
returns-else-good c =
    let inv = c.loop-pair.invariant in
    rw c.if-good.false at (scan_end _ _ _ _ inv.1 (chunk_none _ _ _ inv.0 _ c.in-None.is c.next.ensures.steps))
