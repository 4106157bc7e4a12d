-- "Spare storage, if any, is zero". That every step keeps it so is in proofs/Spare.
-- Assumes nothing.
use Rattle.std.specs.Prelude.{◌≡◌, List, true, ℕ}
use Rattle.semantics.specs.declared.Activity.{Activity}
use Rattle.semantics.specs.WellFormed.{places_used, zero_from}

-- the places of the buffer that are not in use are 0
abbrev pub Spared : Activity → List ℕ → Type 0
Spared a bs = zero_from (places_used a) bs ≡ true
