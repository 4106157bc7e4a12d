-- The array after units of work, word by word. Assumes nothing.
use Rattle.std.specs.Prelude.{ℕ, ◌<◌, List, ◌≡◌, length, get_or}
use Rattle.geometry.specs.declared.Geometry.{Geometry}
use Rattle.semantics.specs.declared.Running.{Running}
use Rattle.semantics.specs.Tabulate.{length_tabulate, get_d_tabulate, tabulate_is}
use Rattle.semantics.specs.Working.{word_after, array_after}

module _ (g : Geometry) (bs : List ℕ) (r : Running) (m : ℕ) (xs : List ℕ) where
  pub array_length : length (array_after g bs r m xs) ≡ length xs
  unfolding array_after
  array_length = length_tabulate (length xs) (λ L. word_after g bs r m L (get_or xs L 0))

  pub array_word : (L : ℕ) → L < length xs → get_or (array_after g bs r m xs) L 0 ≡ word_after g bs r m L (get_or xs L 0)
  unfolding array_after
  array_word = get_d_tabulate (length xs) (λ L. word_after g bs r m L (get_or xs L 0))

  pub array_is : (ys : List ℕ) → length ys ≡ length xs → ((L : ℕ) → L < length xs → get_or ys L 0 ≡ word_after g bs r m L (get_or xs L 0)) → ys ≡ array_after g bs r m xs
  unfolding array_after
  array_is = tabulate_is (length xs) (λ L. word_after g bs r m L (get_or xs L 0))
