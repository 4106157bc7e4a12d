-- The lengths of a part's main block, small block, bank and array as powers of two, so that a quotient by them is a shift,
-- and a location is turned round by its bits. Assumes nothing.
use Rattle.std.specs.Prelude.{ℕ, ◌+◌, ◌-◌, ◌/◌, ◌%◌, ◌^◌, ◌<◌, ◌≤◌, Bool, true, false, cond, ◌≡◌, refl, ◌⊎◌}
use Rattle.std.proofs.Common.{sym, ap, ◌∙◌, subst, inl, inr, mod-lt, mod-eq_of_lt, arith, pow_pos}
use Rattle.std.proofs.Math.Nat.{div-eq_of_lt}
use Rattle.std.specs.Int.Bits.{bit_xor, xor_add_and, xor_zero_r}
use Rattle.std.proofs.lemmas.Nat.{xor_mod, and_mask}
use Rattle.geometry.specs.declared.Geometry.{Geometry}
use Rattle.geometry.specs.declared.Part.{Part}
use Rattle.geometry.specs.declared.Part.TheVariants.{FullBottom, FullTop, BenchBottom, BenchTop}
use Rattle.geometry.specs.Blocks.{geometry_of, small, bank_words, words, location, mirror, block_from}
use Rattle.geometry.specs.Laws.{order, sound, quot_main, block_small, block_main}

pub record Bits : Type 0 where
  pub unit : ℕ
  pub small : ℕ
  pub bank : ℕ
  pub array : ℕ

abbrev pub bits_of : Part → Bits
bits_of FullBottom = record { unit = 16; small = 14; bank = 20; array = 24 }
bits_of FullTop = record { unit = 16; small = 14; bank = 20; array = 24 }
bits_of BenchBottom = record { unit = 6; small = 4; bank = 10; array = 14 }
bits_of BenchTop = record { unit = 6; small = 4; bank = 10; array = 14 }

abbrev pub unit_bits : Part → ℕ
unit_bits p = (bits_of p).unit

abbrev pub small_bits : Part → ℕ
small_bits p = (bits_of p).small

abbrev pub bank_bits : Part → ℕ
bank_bits p = (bits_of p).bank

-- each is the power of two that a part has
record Powers (p : Part) : Type 0 where
  unit_is : 2 ^ unit_bits p ≡ (geometry_of p).unit
  small_is : 2 ^ small_bits p ≡ small (geometry_of p)
  bank_is : 2 ^ bank_bits p ≡ bank_words (geometry_of p)
  array_is : 2 ^ (bits_of p).array ≡ words (geometry_of p)

powers : (p : Part) → Powers p
powers FullBottom = record { unit_is = refl; small_is = refl; bank_is = refl; array_is = refl }
powers FullTop = record { unit_is = refl; small_is = refl; bank_is = refl; array_is = refl }
powers BenchBottom = record { unit_is = refl; small_is = refl; bank_is = refl; array_is = refl }
powers BenchTop = record { unit_is = refl; small_is = refl; bank_is = refl; array_is = refl }

-- ---- the blocks and the banks by shifts

module _ (p : Part) (m : ℕ) where
  -- a shift that leaves nothing is of a location in the first place, and any other of one past it
  below : m / 2 ^ unit_bits p ≡ 0 → m < (geometry_of p).unit
  below e = go (order m (geometry_of p).unit)
    where
      go : (m < (geometry_of p).unit) ⊎ ((geometry_of p).unit ≤ m) → m < (geometry_of p).unit
      go (inl t) = t
      go (inr t) = omega (arith, ap (λ (x : ℕ). m / x) (powers p).unit_is, e, quot_main (geometry_of p) (sound p) m t)

  pub past : (m / 2 ^ unit_bits p ≡ 0 → ⊥) → (geometry_of p).unit ≤ m
  past e = go (order m (geometry_of p).unit)
    where
      go : (m < (geometry_of p).unit) ⊎ ((geometry_of p).unit ≤ m) → (geometry_of p).unit ≤ m
      go (inl t) = absurd (e (ap (λ (x : ℕ). m / x) (powers p).unit_is ∙ div-eq_of_lt t))
      go (inr t) = t

  pub small_shift : m / 2 ^ unit_bits p ≡ 0 → m / 2 ^ small_bits p ≡ block_from (geometry_of p) m
  small_shift e = ap (λ (x : ℕ). m / x) (powers p).small_is ∙ sym (block_small (geometry_of p) m (below e))

  pub main_shift : (m / 2 ^ unit_bits p ≡ 0 → ⊥) → m / 2 ^ unit_bits p + ((geometry_of p).smalls - 1) ≡ block_from (geometry_of p) m
  main_shift e = ap (λ (x : ℕ). m / x + ((geometry_of p).smalls - 1)) (powers p).unit_is ∙ sym (block_main (geometry_of p) m (past e))

  pub bank_shift : m / 2 ^ bank_bits p ≡ m / bank_words (geometry_of p)
  bank_shift = ap (λ (x : ℕ). m / x) (powers p).bank_is

-- ---- the mirror by bits

-- the bits that the mirror turns round: all those of a location, or none
abbrev pub turned : Geometry → ℕ
turned g = cond g.top (words g - 1) 0

-- the last location less another has each of its bits the other way round
bits_turned : (k a : ℕ) → bit_xor a (2 ^ k - 1) % 2 ^ k ≡ 2 ^ k - 1 - a % 2 ^ k
bits_turned k a =
    let b : ℕ = a % 2 ^ k in
    let h : b < 2 ^ k = mod-lt a (pow_pos k) in
    let m : (2 ^ k - 1) % 2 ^ k ≡ 2 ^ k - 1 = mod-eq_of_lt (omega (arith, pow_pos k)) in
    let e : bit_xor b (2 ^ k - 1) ≡ 2 ^ k - 1 - b = omega (arith, xor_add_and b (2 ^ k - 1), and_mask b k ∙ mod-eq_of_lt h, h) in
    xor_mod a (2 ^ k - 1) k ∙ ap (λ (x : ℕ). bit_xor b x) m ∙ e

turned_round : (top : Bool) (n k a : ℕ) → 2 ^ k ≡ n
    → bit_xor a (cond top (n - 1) 0) % n ≡ cond top (n - 1 - a % n) (a % n)
turned_round true n k a e = subst (λ (n : ℕ). bit_xor a (n - 1) % n ≡ n - 1 - a % n) e (bits_turned k a)
turned_round false n k a e = ap (λ (x : ℕ). x % n) (xor_zero_r a)

pub mirror_turned : (p : Part) (a : ℕ) → bit_xor a (turned (geometry_of p)) % words (geometry_of p)
    ≡ mirror (geometry_of p) (location (geometry_of p) a)
unfolding mirror
mirror_turned p a = turned_round (geometry_of p).top (words (geometry_of p)) (bits_of p).array a (powers p).array_is
