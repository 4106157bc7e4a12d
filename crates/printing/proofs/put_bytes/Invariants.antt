-- `printing::put_bytes`: the bytes before the index are put.
use lib.ListN.{take}
use Rattle.printing.specs.Room.{Put}
use Rattle.printing.proofs.put_bytes.Given as goal

abbrev pub invariant-loop-b : goal.invariant-loop-b
invariant-loop-b l = Put l.initial.room l.at (take l.b-index l.bytes) l.room l.next
