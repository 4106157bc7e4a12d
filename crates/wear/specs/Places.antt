-- A block's own place among the counts, and counts of the size that they have: what the laws of proofs/Places say.
-- Assumes nothing.
use Rattle.std.specs.Prelude.{ℕ, ◌+◌, ◌*◌, ◌<◌, ◌≤◌, [], ◌≡◌, length, get_or, Option, Some, None}
use Rattle.wear.specs.declared.Place.{Place}
use Rattle.wear.specs.declared.Place.TheVariants.{Small, Main}
use Rattle.wear.specs.Counts.{Counts, row_of, place_in}

-- a block from 4 on has a place among the sixteen of sixteen rows, which is not the shared one, and which tells the block
pub record Placed (b : ℕ) : Type 0 where
  pub row : row_of b < 16
  pub place : place_in b < 16
  pub own : row_of b ≡ 0 → place_in b ≡ 0 → ⊥
  pub back : 16 * row_of b + place_in b + 3 ≡ b

-- where the count of a number stands: of a small block by its number, of any other at its place of its row, and nowhere of a number that is no block
abbrev pub StandsAt : ℕ → Option Place → Type 0
StandsAt b None = 259 ≤ b
StandsAt b (Some (Small i)) = (i ≡ b) × (b < 4)
StandsAt b (Some (Main r i)) = (4 ≤ b) × (b < 259) × (r ≡ row_of b) × (r < 16) × (i ≡ place_in b) × (i < 16)

-- sixteen rows of sixteen places, and four counts
pub record Shaped (k : Counts) : Type 0 where
  pub rows : length k.main ≡ 16
  pub places : (i : ℕ) → i < 16 → length (get_or k.main i []) ≡ 16
  pub four : length k.small ≡ 4
