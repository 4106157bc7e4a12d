-- `hexwrite::Record::put_word` meets its contract: two bytes, one after the other. Assumes nothing.
use Rattle.std.proofs.Common.{◌∙◌, arith}
use Rattle.intelhex.specs.Text.{bytes_of}
use Rattle.hexwrite.specs.Records.{low_first, added_then}
use Rattle.hexwrite.proofs.Record.put_word.Goals as goal

pub returns : goal.returns
unfolding bytes_of
returns c = rw (c.to_le_bytes.ensures ∙ low_first c.args.word (omega arith)) at (added_then c.put_byte.ensures c.put_byte-2.ensures (omega arith))
