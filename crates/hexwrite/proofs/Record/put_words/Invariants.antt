-- `hexwrite::Record::put_words` meets its contract. The invariant: the bytes of the words so far are put. Assumes nothing.
use Rattle.std.proofs.Common.{◌≡◌, length, take}
use Rattle.intelhex.specs.Text.{bytes_of}
use Rattle.hexwrite.specs.Records.{Added}
use Rattle.hexwrite.proofs.Record.put_words.Given as goal

abbrev pub invariant-loop-word : goal.invariant-loop-word
invariant-loop-word l = (length l.text ≡ length l.initial.text) × Added l.initial.text l.fn.self (bytes_of (take l.word-index l.words)) l.text l.self
