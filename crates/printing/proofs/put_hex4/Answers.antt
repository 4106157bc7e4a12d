-- `printing::put_hex4` meets its contract: four digits, one after the other. Assumes nothing.
use Rattle.printing.specs.Text.{hex4}
use Rattle.printing.specs.Room.{put_then}
use Rattle.printing.proofs.put_hex4.Goals as goal

pub returns : goal.returns
unfolding hex4
returns c =
    rw c.from-w.ensures at (put_then (put_then (put_then c.put_digit-second.ensures c.put_digit-third.ensures) c.put_digit-fourth.ensures) c.put_digit.ensures)
