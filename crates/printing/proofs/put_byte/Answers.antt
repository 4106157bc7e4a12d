-- `printing::put_byte` meets its contract: one law for a place of the room, one for a place past it. Assumes nothing.
use Rattle.printing.specs.Room.{put_in, put_out}
use Rattle.printing.proofs.put_byte.Goals as goal

pub returns-then-at-room : goal.returns-then-at-room
returns-then-at-room c = put_in _ _ _ c.if-at-room.true

pub returns-else-at-room : goal.returns-else-at-room
returns-else-at-room c = put_out _ _ _ c.if-at-room.false
