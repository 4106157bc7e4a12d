-- `printing::put_answer` meets its contract: by the match on the answer. Assumes nothing.
use Rattle.printing.specs.Text.{answer_text}
use Rattle.printing.specs.Room.{put_then}
use Rattle.printing.proofs.put_answer.Goals as goal

pub returns-in-Word : goal.returns-in-Word
unfolding answer_text
returns-in-Word c = rw c.in-Word.is c.put_hex4.ensures

pub returns-in-Units : goal.returns-in-Units
unfolding answer_text
returns-in-Units c = rw c.in-Units.is c.put_decimal.ensures

pub returns-in-Done : goal.returns-in-Done
unfolding answer_text
returns-in-Done c = rw c.in-Done.is c.put_bytes.ensures

pub returns-in-Refused : goal.returns-in-Refused
unfolding answer_text
returns-in-Refused c = rw c.in-Refused.is (put_then c.put_bytes-next.ensures (rw c.into.ensures at c.put_decimal-in-Refused.ensures))
