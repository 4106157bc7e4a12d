-- `wear::clear` meets its contract. Assumes nothing.
use mathlib.Core.Path.{refl}
use Rattle.wear.specs.Counts.{no_counts}
use Rattle.wear.proofs.clear.Goals as goal

pub returns : goal.returns
unfolding no_counts
returns c = refl
