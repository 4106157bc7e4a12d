-- `hexwrite::put_upper` meets its contract: the record's bytes, its check byte and LF. Assumes nothing.
use Rattle.std.proofs.Common.{◌∙◌, arith}
use Rattle.hexwrite.specs.Records.{high_first, begun_then, begun_ended}
use Rattle.hexwrite.proofs.put_upper.Goals as goal

pub returns-clause-text : goal.returns-clause-text
returns-clause-text c =
    let first = begun_then c.begin.ensures c.put_byte.ensures (omega arith) in
    let second = begun_then first c.put_byte-2.ensures (omega arith) in
    rw (c.to_be_bytes.ensures ∙ high_first c.args.upper (omega arith)) at (begun_ended second c.end.ensures.text (omega arith))
