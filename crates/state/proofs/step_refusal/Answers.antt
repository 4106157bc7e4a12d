-- `state::step_refusal` meets its contract: a work's refusal is that of its count, whatever the part. Assumes nothing.
use Rattle.state.proofs.step_refusal.Goals as goal

pub returns-in-Work : goal.returns-in-Work
returns-in-Work c = rw c.in-Work.is (c.count_refusal.ensures _)
