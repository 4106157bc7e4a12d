-- `hexwrite::Record::begin` meets its contract: the colon and four bytes, one after the other. Assumes nothing.
use Rattle.std.proofs.Common.{◌∙◌, arith}
use Rattle.hexwrite.specs.Records.{high_first, begun_none, begun_then}
use Rattle.hexwrite.proofs.Record.begin.Goals as goal

pub returns : goal.returns
returns c =
    let colon = begun_none c.args.text.now c.args.at (omega arith) in
    let first = begun_then colon c.put_byte.ensures (omega arith) in
    let second = begun_then first c.put_byte-2.ensures (omega arith) in
    let third = begun_then second c.put_byte-3.ensures (omega arith) in
    rw (c.to_be_bytes.ensures ∙ high_first c.args.offset (omega arith), c.into.ensures) at (begun_then third c.put_byte-4.ensures (omega arith))
