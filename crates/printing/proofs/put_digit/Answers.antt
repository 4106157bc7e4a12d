-- `printing::put_digit` meets its contract: by what `digit` and `put_byte` ensure. Assumes nothing.
use Rattle.printing.proofs.put_digit.Goals as goal

pub returns : goal.returns
returns c = rw (← c.digit.ensures) c.put_byte.ensures
