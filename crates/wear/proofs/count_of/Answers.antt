-- `wear::count_of` meets its contract, by where the count stands. Assumes nothing.
use Rattle.wear.proofs.Places.{count_small, count_main, count_none}
use Rattle.wear.proofs.count_of.Goals as goal

pub returns-in-Some-Small : goal.returns-in-Some-Small
returns-in-Some-Small c = count_small _ _ _ (rw c.in-Some-Small.field-0-is at c.in-Some-Small.ensures)

pub returns-in-Some-Main : goal.returns-in-Some-Main
returns-in-Some-Main c = count_main _ _ _ _ (rw c.in-Some-Main.field-0-is at c.in-Some-Main.ensures)

pub returns-in-None : goal.returns-in-None
returns-in-None c = count_none _ _ c.in-None.ensures
