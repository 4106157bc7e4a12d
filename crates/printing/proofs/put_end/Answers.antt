-- `printing::put_end` meets its contract: its three parts, one after the other. Assumes nothing.
use Rattle.printing.specs.Text.{end_text}
use Rattle.printing.specs.Room.{put_then}
use Rattle.printing.proofs.put_end.Goals as goal

pub returns : goal.returns
unfolding end_text
returns c = put_then (put_then c.put_bytes-digits.ensures c.put_decimal-last.ensures) c.put_byte.ensures
