-- `printing::put_line` meets its contract: its four parts, one after the other. Assumes nothing.
use Rattle.printing.specs.Text.{line_text}
use Rattle.printing.specs.Room.{put_then}
use Rattle.printing.proofs.put_line.Goals as goal

pub returns : goal.returns
unfolding line_text
returns c = put_then (put_then (put_then c.put_decimal-space.ensures c.put_byte-text.ensures) c.put_answer-end.ensures) c.put_byte.ensures
