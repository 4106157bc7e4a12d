-- `hexread::store` meets its contract. Assumes nothing.
use Rattle.std.proofs.Common.{◌∙◌}
use Rattle.intelhex.specs.Chunks.{counted_more, counted_none}
use Rattle.hexread.specs.Storing.{store_end, byte_small, store_step}
use Rattle.hexread.proofs.store.Goals as goal

pub with_byte-requires : goal.with_byte-requires
with_byte-requires c =
    let inv = c.loop-i.invariant in
    let m = counted_more _ _ _ inv.0 _ _ _ c.in-Some.is c.next.ensures.steps in
    rw c.byte_at.ensures (byte_small _ _ _ _ _ _ inv.1 _ _ m.0.split m.0.many)

pub loop-i-preserved : goal.loop-i-preserved
loop-i-preserved c =
    let inv = c.loop-i.invariant in
    let m = counted_more _ _ _ inv.0 _ _ _ c.in-Some.is c.next.ensures.steps in
    (m.0.size, rw (m.2, m.1) (store_step _ _ _ _ _ _ inv.1 _ _ m.0.split m.0.many _ (rw (← m.1) (c.with_byte.ensures ∙ rw c.byte_at.ensures))))

pub returns : goal.returns
returns c =
    let inv = c.loop-i.invariant in
    store_end _ _ _ _ _ _ inv.1 (counted_none _ _ _ inv.0 _ c.in-None.is c.next.ensures.steps)
