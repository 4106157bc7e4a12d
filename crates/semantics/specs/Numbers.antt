-- Runs of numbers: whether a number is one of n from b on. Definition and laws. Assumes nothing.
use Rattle.std.specs.Prelude.{◌≡◌, refl, Bool, true, false, ◌&&◌, ℕ, ◌+◌, ◌≤◌, ◌<◌, ltb, leb}
use Rattle.std.proofs.Common.{arith, ltb-true, leb-true, lt-ltb, le-leb}

-- L is one of the n numbers from b
abbrev pub within : ℕ → ℕ → ℕ → Bool
within b n L = leb b L && ltb L (b + n)

pub within_in : (b n L : ℕ) → b ≤ L → L < b + n → within b n L ≡ true
within_in b n L p q = rw (le-leb b L p, lt-ltb L (b + n) q)

pub within_out : (b n L : ℕ) → (b ≤ L → L < b + n → ⊥) → within b n L ≡ false
within_out b n L h = go (leb b L) refl (ltb L (b + n)) refl
  where
    go : (s : Bool) → leb b L ≡ s → (t : Bool) → ltb L (b + n) ≡ t → (s && t) ≡ false
    go true p true q = absurd (h (leb-true b L p) (ltb-true L (b + n) q))
    go true p false q = refl
    go false p true q = refl
    go false p false q = refl

pub within_true : (b n L : ℕ) → within b n L ≡ true → (b ≤ L) × (L < b + n)
within_true b n L = go (leb b L) refl (ltb L (b + n)) refl
  where
    go : (s : Bool) → leb b L ≡ s → (t : Bool) → ltb L (b + n) ≡ t → (s && t) ≡ true → (b ≤ L) × (L < b + n)
    go true p true q e = (leb-true b L p, ltb-true L (b + n) q)
    go true p false q e = let z : ◌≡◌ {A = ℕ} 0 1 = cc in absurd (omega arith)
    go false p true q e = let z : ◌≡◌ {A = ℕ} 0 1 = cc in absurd (omega arith)
    go false p false q e = let z : ◌≡◌ {A = ℕ} 0 1 = cc in absurd (omega arith)

pub within_false : (b n L : ℕ) → within b n L ≡ false → b ≤ L → L < b + n → ⊥
within_false b n L e p q = let z : ◌≡◌ {A = ℕ} 0 1 = cc (within_in b n L p q) in omega arith
