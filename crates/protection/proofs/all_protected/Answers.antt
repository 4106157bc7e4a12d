-- `protection::all_protected` meets its contract: the code's array is the definition's list.
use mathlib.Core.Path.{refl}
use Rattle.protection.specs.Words.{all_protected}
use Rattle.protection.proofs.all_protected.Goals as goal

pub returns : goal.returns
unfolding all_protected
returns c = refl
