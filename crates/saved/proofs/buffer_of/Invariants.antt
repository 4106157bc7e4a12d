-- `saved::buffer_of` meets its contract. The invariant: the words of the buffer that the first `j` words hold are
-- taken. Assumes nothing.
use Prim.Native.Nat.{◌*◌}
use mathlib.Core.Path.{◌≡◌}
use lib.ListN.{take}
use lib.Seq.{sets}
use Rattle.saved.specs.Saved.{buffer_in}
use Rattle.saved.proofs.buffer_of.Given as goal

abbrev pub invariant-loop-j : goal.invariant-loop-j
invariant-loop-j l = l.buffer ≡ sets l.initial.buffer 0 (take (4 * l.j) (buffer_in l.words))
