-- The table of block starts: document 02, item 7. Definitions only; the laws are in Listed.
-- "Hold the 259 start locations of the full bottom part as a table, with lookup through it; the other parts follow by mirror and scale."
-- The numbers stand in the code alone (`STARTS`). What they have to be is said by the block formula (`block_from`), and tested at every one of them by `tied`.
-- Assumes nothing.
use Rattle.std.specs.Prelude.{ℕ, suc, ◌+◌, ◌-◌, ◌/◌, ◌<◌, Bool, cond, not, ◌&&◌, ◌||◌, List, [], ◌∷◌, leb, eqb, length, get_or}
use Rattle.geometry.specs.declared.Part.TheVariants.{FullBottom}
use Rattle.geometry.specs.declared.Geometry.{Geometry}
use Rattle.geometry.specs.Blocks.{geometry_of, blocks, block_from}

-- whether the block formula begins block b at x: x lies in block b, and the location before it, where there is one, does not
unfoldable pub begins : Geometry → ℕ → ℕ → Bool
begins g b x = eqb (block_from g x) b && (eqb x 0 || not (eqb (block_from g (x - 1)) b))

-- "One computed test over all 259 entries ties the table to the block formula": the entries from block b on, to the last block, each where the formula begins
-- its block, and each `least` or more, which is one more than the entry before it, so that the table rises strictly
unfoldable pub tied : Geometry → ℕ → ℕ → List ℕ → Bool
tied g b least [] = eqb b (blocks g)
tied g b least (x ∷ xs) = leb least x && (begins g b x && tied g (suc b) (suc x) xs)

-- how many entries are not above l; in a rising table they come first, so that the last of them is the entry of one number less
unfoldable pub not_above : List ℕ → ℕ → ℕ
not_above [] l = 0
not_above (x ∷ xs) l = cond (leb x l) 1 0 + not_above xs l

-- each entry is above those before it
pub record Rises (xs : List ℕ) : Type 0 where
  pub rise : (j k : ℕ) → j < k → k < length xs → get_or xs j 0 < get_or xs k 0

-- "by mirror and scale": how many words of the full bottom part a word of the part stands for, 1 or 1,024
abbrev pub scale : Geometry → ℕ
scale g = (geometry_of FullBottom).unit / g.unit
