-- `m58::m58_block_start` meets its contract: by the part's number, and what `start_by_table` ensures. Assumes nothing.
use Rattle.std.proofs.Common.{◌*◌, ◌∙◌, ap, lt-ltb, le-ltb}
use Rattle.refusal.specs.declared.Refusal.{Refusal}
use Rattle.refusal.specs.Numbers.{number}
use Rattle.m58.specs.Calls.{start_code}
use Rattle.m58.specs.Laws.{part_ok, part_err}
use Rattle.m58.proofs.m58_block_start.Goals as goal

pub returns-in-Err : goal.returns-in-Err
unfolding start_code
returns-in-Err c =
    let q = part_err _ c.try_from.ensures c.in-Err.is in
    rw q.0 (c.refused.ensures ∙ ap (λ (e : Refusal). number e * 4294967296) q.1)

pub returns-in-Ok : goal.returns-in-Ok
unfolding start_code
returns-in-Ok c =
    let q = part_ok _ c.try_from.ensures c.in-Ok.is in
    let h = rw c.block_count.ensures.value at c.if-block-block_count.true in
    rw (q.0, q.1, lt-ltb c.args.block _ h) (c.into.ensures ∙ c.start_by_table.ensures.value)

pub returns-in-Ok-2 : goal.returns-in-Ok-2
unfolding start_code
returns-in-Ok-2 c =
    let q = part_ok _ c.try_from.ensures c.in-Ok.is in
    let h = rw c.block_count.ensures.value at c.if-block-block_count.false in
    rw (q.0, q.1, le-ltb c.args.block _ h)
