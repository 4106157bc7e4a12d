-- `hexwrite::Record::put_words` meets its contract. The invariant: the bytes of the words so far are put. Assumes nothing.
use Rattle.std.proofs.Common.{refl, take_all, arith, rules}
use Rattle.intelhex.specs.Text.{bytes_of}
use Rattle.hexwrite.specs.Records.{added_none, added_then}
use Rattle.hexwrite.specs.Texts.{bytes_count, bytes_more}
use Rattle.hexwrite.proofs.Record.put_words.Goals as goal

pub loop-word-init : goal.loop-word-init
unfolding bytes_of
loop-word-init c = (refl, added_none _ _)

pub put_word-self-requires : goal.put_word-self-requires
put_word-self-requires c = omega (arith, c.loop-word.invariant.1.place, bytes_count c.args.words.now c.loop-word.word-index (omega arith))

pub loop-word-preserved : goal.loop-word-preserved
loop-word-preserved c =
    let words = c.args.words.now in
    let i = c.loop-word.word-index in
    let count = bytes_count words i (omega arith) in
    let place = c.loop-word.invariant.1.place in
    (search rules, rw (bytes_more words i (omega arith)) (added_then c.loop-word.invariant.1 c.put_word-self.ensures (omega arith)))

pub returns : goal.returns
returns c = rw (take_all c.loop-word.word-index c.args.words.now (omega arith)) at c.loop-word.invariant.1
