-- `hexwrite::put_data` meets its contract: the record's bytes, its check byte and LF. Assumes nothing.
use Rattle.std.proofs.Common.{arith}
use Rattle.intelhex.specs.Sizes.{length_bytes_of}
use Rattle.hexwrite.specs.Records.{begun_then, begun_ended}
use Rattle.hexwrite.proofs.put_data.Goals as goal

pub end-requires : goal.end-requires
end-requires c = omega (arith, length_bytes_of c.args.words.now)

pub returns-clause-value : goal.returns-clause-value
returns-clause-value c = omega (arith, length_bytes_of c.args.words.now)

pub returns-clause-text : goal.returns-clause-text
returns-clause-text c =
    let bytes = length_bytes_of c.args.words.now in
    let all = begun_then c.begin.ensures c.put_words.ensures (omega arith) in
    rw (bytes, c.requires.eight) (begun_ended all c.end.ensures.text (omega arith))
