-- Lists that are said element by element: definition and laws. Assumes nothing.
use Rattle.std.specs.Prelude.{ℕ, zero, suc, ◌<◌, List, [], ◌∷◌, ◌≡◌, refl, length, get_or}
use Rattle.std.proofs.Common.{sym, ap, ◌∙◌, arith, ext_get_or}

-- the list of n elements that has f L at L. The `let` has one computed only where it is read
unfoldable pub tabulate : {A : Type 0} → ℕ → (ℕ → A) → List A
tabulate zero f = []
tabulate {A = A} (suc n) f = let x : A = f 0 in x ∷ tabulate n (λ L. f (suc L))

pub length_tabulate : {A : Type 0} (n : ℕ) (f : ℕ → A) → length (tabulate n f) ≡ n
unfolding tabulate
length_tabulate zero f = refl
length_tabulate (suc n) f = ap suc (length_tabulate n (λ L. f (suc L)))

-- whatever is read past its end
pub word_tabulate : {A : Type 0} (n : ℕ) (f : ℕ → A) (L : ℕ) (d : A) → L < n → get_or (tabulate n f) L d ≡ f L
unfolding tabulate
word_tabulate zero f L d h = absurd (omega arith)
word_tabulate (suc n) f zero d h = refl
word_tabulate (suc n) f (suc L) d h = word_tabulate n (λ L. f (suc L)) L d (omega arith)

pub get_d_tabulate : (n : ℕ) (f : ℕ → ℕ) (L : ℕ) → L < n → get_or (tabulate n f) L 0 ≡ f L
get_d_tabulate n f L = word_tabulate n f L 0

-- a list of n elements that has f L at each L below n
pub tabulate_of : {A : Type 0} (d : A) (n : ℕ) (f : ℕ → A) (xs : List A) → length xs ≡ n
    → ((L : ℕ) → L < n → get_or xs L d ≡ f L) → xs ≡ tabulate n f
tabulate_of d n f xs e each =
    ext_get_or d xs (tabulate n f) (e ∙ sym (length_tabulate n f))
    (λ L h. each L (omega arith) ∙ sym (word_tabulate n f L d (omega arith)))

pub tabulate_is : (n : ℕ) (f : ℕ → ℕ) (xs : List ℕ) → length xs ≡ n → ((L : ℕ) → L < n → get_or xs L 0 ≡ f L) → xs ≡ tabulate n f
tabulate_is = tabulate_of 0
