-- `saved::put_buffer` meets its contract. The invariant: the first `j` words of the buffer are stored. Assumes nothing.
use mathlib.Core.Path.{◌≡◌}
use lib.ListN.{take}
use lib.Seq.{sets}
use Rattle.saved.specs.Saved.{buffer_words}
use Rattle.saved.proofs.put_buffer.Given as goal

abbrev pub invariant-loop-j : goal.invariant-loop-j
invariant-loop-j l = l.words ≡ sets l.initial.words 17 (take l.j (buffer_words l.buffer))
