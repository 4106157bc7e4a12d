-- `state::well_formed` meets its contract: a state is its pieces. Assumes nothing.
use Rattle.state.proofs.well_formed.Goals as goal

pub returns : goal.returns
returns c = c.formed_of.ensures _
