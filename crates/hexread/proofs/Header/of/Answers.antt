-- `hexread::Header::of` meets its contract. Assumes nothing.
use Rattle.std.proofs.Common.{arith}
use Rattle.hexread.specs.Bytes.{byte_is}
use Rattle.hexread.proofs.Header.of.Goals as goal

pub returns : goal.returns
returns c =
    let l = c.args.line.now in
    let count = byte_is l 0 (omega arith) in
    let high = byte_is l 1 (omega arith) in
    let low = byte_is l 2 (omega arith) in
    let kind = byte_is l 3 (omega arith) in
    rw (
      c.from.ensures,
      c.from-2.ensures,
      c.from-3.ensures,
      c.from-4.ensures,
      c.byte_at.ensures,
      c.byte_at-2.ensures,
      c.byte_at-3.ensures,
      c.byte_at-4.ensures,
      count,
      high,
      low,
      kind,
    )
