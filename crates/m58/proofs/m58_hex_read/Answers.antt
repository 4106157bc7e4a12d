-- `m58::m58_hex_read`: by the part's number, and the contracts of the functions that it calls. Assumes nothing.
use Rattle.std.proofs.Common.{◌*◌, ◌∙◌, sym, ap, arith}
use Rattle.refusal.specs.declared.Refusal.{Refusal}
use Rattle.refusal.specs.Numbers.{number}
use Rattle.m58.specs.Calls.{hex_verdict, hex_array}
use Rattle.m58.specs.Laws.{part_ok, part_err}
use Rattle.m58.proofs.m58_hex_read.Goals as goal

pub returns-in-Err : goal.returns-in-Err
unfolding hex_verdict hex_array
returns-in-Err c =
    let q = part_err _ c.try_from.ensures c.in-Err.is in
    record { value = rw q.0 (c.refused.ensures ∙ ap (λ (e : Refusal). number e * 4294967296) q.1); array = rw q.0 }

pub returns-in-Ok-read : goal.returns-in-Ok-read
unfolding hex_verdict hex_array
returns-in-Ok-read c =
    let q = part_ok _ c.try_from.ensures c.in-Ok.is in
    record { value = rw (q.0, q.1, sym c.read.ensures.value ∙ c.in-Ok-read.is) c.in_32_bits.ensures.value; array = rw (q.0, q.1) c.read.ensures.array }

pub returns-in-Err-read : goal.returns-in-Err-read
unfolding hex_verdict hex_array
returns-in-Err-read c =
    let q = part_ok _ c.try_from.ensures c.in-Ok.is in
    record { value = rw (q.0, q.1, sym c.read.ensures.value ∙ c.in-Err-read.is) (omega (arith, c.refused-in-Err-read.ensures, c.in_32_bits-in-Err-read.ensures.value)); array = rw (q.0, q.1) c.read.ensures.array }
