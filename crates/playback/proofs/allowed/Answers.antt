-- `playback::allowed` meets its contract: by the step. Assumes nothing.
use Rattle.playback.proofs.allowed.Goals as goal

pub returns-in-Read : goal.returns-in-Read
returns-in-Read c = rw c.in-Read.is

pub returns-in-Write : goal.returns-in-Write
returns-in-Write c = rw (c.in-Write.is, c.place_of.ensures.value)

pub returns-in-Work : goal.returns-in-Work
returns-in-Work c = rw c.in-Work.is

pub returns-in-Supply : goal.returns-in-Supply
returns-in-Supply c = rw c.in-Supply.is
