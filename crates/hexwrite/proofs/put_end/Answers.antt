-- `hexwrite::put_end` meets its contract: the record's bytes, its check byte and LF. Assumes nothing.
use Rattle.std.proofs.Common.{arith}
use Rattle.hexwrite.specs.Records.{begun_ended}
use Rattle.hexwrite.proofs.put_end.Goals as goal

pub returns : goal.returns
returns c = begun_ended c.begin.ensures c.end.ensures.text (omega arith)
