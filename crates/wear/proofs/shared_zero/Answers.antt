-- `wear::shared_zero` meets its contract. Assumes nothing.
use mathlib.Core.Path.{refl}
use Rattle.wear.specs.Counts.{count_at, shared_zero}
use Rattle.wear.proofs.shared_zero.Goals as goal

pub returns : goal.returns
unfolding shared_zero count_at
returns c = refl
