-- A byte that is not named: what `byte_not_named` and `later_wins` (proofs/Laws) ask.
-- Assumes nothing.
use Rattle.std.specs.Prelude.{ℕ, ◌≡◌}
use mathlib.Core.List.{List, Memᴰ}
use Rattle.intelhex.specs.Records.{Named}

-- no byte of the list has address a
abbrev pub Unnamed : List Named → ℕ → Type 0
Unnamed l a = (x : Named) → Memᴰ x l → x.address ≡ a → ⊥
