-- `saved::with_modes` meets its contract. The invariant: the banks of the lowest `i` bytes are stored, and the bytes
-- from there on are left. Assumes nothing.
use mathlib.Core.Path.{◌≡◌}
use lib.ListN.{take}
use lib.Seq.{sets}
use Rattle.saved.specs.Saved.{from_byte, modes_in}
use Rattle.saved.proofs.with_modes.Given as goal

abbrev pub invariant-loop-i : goal.invariant-loop-i
invariant-loop-i l = (l.now ≡ sets l.initial.now l.from (take l.i (modes_in l.w))) × (l.rest ≡ from_byte l.i l.w)
