-- `protection::spare_zero` meets its contract: the code's test is the definition's.
use mathlib.Core.Path.{refl}
use Rattle.protection.specs.Words.{spare_zero}
use Rattle.protection.proofs.spare_zero.Goals as goal

pub returns : goal.returns
unfolding spare_zero
returns c = refl
