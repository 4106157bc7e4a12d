-- `m58::m58_hex_write`: by the part's number, and the contracts of the functions that it calls. Assumes nothing.
use Rattle.std.proofs.Common.{◌*◌, ◌∙◌, sym, ap, arith}
use Rattle.refusal.specs.declared.Refusal.{Refusal}
use Rattle.refusal.specs.Numbers.{number}
use Rattle.m58.specs.Calls.{hex_written, hex_room}
use Rattle.m58.specs.Laws.{part_ok, part_err}
use Rattle.m58.proofs.m58_hex_write.Goals as goal

pub returns-in-Err : goal.returns-in-Err
unfolding hex_written hex_room
returns-in-Err c =
    let q = part_err _ c.try_from.ensures c.in-Err.is in
    record { value = rw q.0 (c.refused.ensures ∙ ap (λ (e : Refusal). number e * 4294967296) q.1); text = rw q.0 }

pub returns-in-Ok-write : goal.returns-in-Ok-write
unfolding hex_written hex_room
returns-in-Ok-write c =
    let q = part_ok _ c.try_from.ensures c.in-Ok.is in
    record { value = rw (q.0, q.1, sym c.write.ensures.value ∙ c.in-Ok-write.is) c.in_32_bits.ensures.value; text = rw (q.0, q.1) c.write.ensures.text }

pub returns-in-Err-write : goal.returns-in-Err-write
unfolding hex_written hex_room
returns-in-Err-write c =
    let q = part_ok _ c.try_from.ensures c.in-Ok.is in
    record { value = rw (q.0, q.1, sym c.write.ensures.value ∙ c.in-Err-write.is) (omega (arith, c.refused-in-Err-write.ensures)); text = rw (q.0, q.1) c.write.ensures.text }
