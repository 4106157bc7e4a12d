-- `wear::put_count` meets its contract, by where the count stands. Assumes nothing.
use Rattle.wear.proofs.Places.{put_small, put_main, put_none}
use Rattle.wear.proofs.put_count.Goals as goal

pub returns-in-Some-Small : goal.returns-in-Some-Small
returns-in-Some-Small c = put_small _ _ _ (rw c.in-Some-Small.field-0-is at c.in-Some-Small.ensures) _

pub returns-in-Some-Main : goal.returns-in-Some-Main
returns-in-Some-Main c = put_main _ _ _ _ (rw c.in-Some-Main.field-0-is at c.in-Some-Main.ensures) _

pub returns-in-None : goal.returns-in-None
returns-in-None c = put_none _ _ c.in-None.ensures _
