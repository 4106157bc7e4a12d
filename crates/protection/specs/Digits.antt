-- Laws of the digits of one word, of `count` and of `least`: what the laws of the words stand on. Nothing here speaks of blocks.
-- Assumes nothing.
use Rattle.std.specs.Prelude.{ℕ, zero, suc, ◌+◌, ◌-◌, ◌*◌, ◌/◌, ◌%◌, ◌^◌, ◌<◌, ◌≤◌, min, max, Bool, true, false, cond, ◌⊎◌, ◌≢◌, ◌≡◌, refl, eqb}
use Rattle.std.proofs.Common.{inl, inr, sym, ap, ap₂, ◌∙◌, subst, div-one, mod-lt, suc-add, zero-add, add_assoc, one-mul, pow-suc, mul-div_cancel, add-one, one-add, arith, lit<, pow_pos, shr-shr, shr_lt, shl_exact, eq-eqb, ne_eqb}
use Rattle.std.proofs.Math.Path.{fun_ext}
use Rattle.std.proofs.Math.Nat.{div_self, div-eq_of_lt, mul-mod_left, max-zero, max-eq_right}
use Rattle.std.proofs.Math.Decide.{ℕ_discrete}
use Rattle.std.proofs.Math.Arith.{lt-one}
use Rattle.std.specs.Int.Bits.{bit_and, bit_or, bit_xor, differ, and_step, or_step, xor_step}
use Rattle.std.proofs.lemmas.Nat.{and_shr, or_shr, or_lt, xor_shr, xor_lt}
use Rattle.std.specs.Int.Count.{ones, ones_step, count_trailing_zeros, under}
use Rattle.std.proofs.Math.Dec.{eqb-suc-zero}
use Rattle.std.proofs.Math.Pow.{pow-lt, field, mod-mod-pow}
use Rattle.geometry.specs.Laws.{order}
use Rattle.protection.specs.Words.{bit, with_bit, count, least, Least}

-- two numbers are the same, or not
pub same : (a b : ℕ) → (a ≡ b) ⊎ (a ≢ b)
same a b = go (ℕ_discrete a b)
  where
    go : Dec (a ≡ b) → (a ≡ b) ⊎ (a ≢ b)
    go (yes h) = inl h
    go (no h) = inr h

-- ---- the digits of a word

-- the first digit
pub bit_first : (w : ℕ) → bit w 0 ≡ w % 2
unfolding bit
bit_first w = ap (λ (x : ℕ). x % 2) (div-one w)

-- the digits after the first are those of the half
pub bit_next : (w i : ℕ) → bit w (suc i) ≡ bit (w / 2) i
unfolding bit
bit_next w i = ap (λ (k : ℕ). w / 2 ^ k % 2) (sym (one-add i)) ∙ ap (λ (x : ℕ). x % 2) (sym (shr-shr w 1 i))

-- a digit is 0 or 1
pub bit_lt : (w i : ℕ) → bit w i < 2
unfolding bit
bit_lt w i = mod-lt (w / 2 ^ i) (lit< tt)

-- a small word has no high digit
pub bit_none : (w i : ℕ) → w < 2 ^ i → bit w i ≡ 0
unfolding bit
bit_none w i h = ap (λ (x : ℕ). x % 2) (div-eq_of_lt h)

-- a remainder by a power of two keeps the digits below that power
pub bit_low : (w k i : ℕ) → i < k → bit (w % 2 ^ k) i ≡ bit w i
unfolding bit
bit_low w k i h =
    let j : ℕ = k - (i + 1) in
    let q : k ≡ (j + 1) + i = omega arith in
    ap (λ (x : ℕ). w % 2 ^ x / 2 ^ i % 2) q ∙ ap (λ (x : ℕ). x % 2) (field w (j + 1) i) ∙ mod-mod-pow (w / 2 ^ i) j 1

twice_mod : (a r : ℕ) → r < 2 → (a * 2 + r) % 2 ≡ r
twice_mod a r h = omega arith

max_lt : (x y : ℕ) → x < 2 → y < 2 → max x y < 2
max_lt x y h k = omega arith

differ_lt : (x y : ℕ) → x < 2 → y < 2 → differ x y < 2
differ_lt zero y h k = k
differ_lt (suc zero) zero h k = h
differ_lt (suc zero) (suc y) h k = omega arith
differ_lt (suc (suc x)) y h k = omega arith

-- the digits of an `and`
pub bit_and_lem : (a b i : ℕ) → bit (bit_and a b) i ≡ min (bit a i) (bit b i)
unfolding bit
bit_and_lem a b i = rw (and_shr a b i) (ap (λ (x : ℕ). x % 2) (and_step (a / 2 ^ i) (b / 2 ^ i)) ∙ omega (arith, bit_lt a i, bit_lt b i))

-- the digits of an `or`
bit_or_lem : (a b i : ℕ) → bit (bit_or a b) i ≡ max (bit a i) (bit b i)
unfolding bit
bit_or_lem a b i =
    let x : ℕ = a / 2 ^ i in
    let y : ℕ = b / 2 ^ i in
    ap (λ (z : ℕ). z % 2) (or_shr a b i ∙ or_step x y) ∙ twice_mod (bit_or (x / 2) (y / 2)) (max (x % 2) (y % 2)) (max_lt (x % 2) (y % 2) (mod-lt x (lit< tt)) (mod-lt y (lit< tt)))

-- the digits of an exclusive `or`
bit_xor_lem : (a b i : ℕ) → bit (bit_xor a b) i ≡ differ (bit a i) (bit b i)
unfolding bit
bit_xor_lem a b i =
    let x : ℕ = a / 2 ^ i in
    let y : ℕ = b / 2 ^ i in
    ap (λ (z : ℕ). z % 2) (xor_shr a b i ∙ xor_step x y) ∙ twice_mod (bit_xor (x / 2) (y / 2)) (differ (x % 2) (y % 2)) (differ_lt (x % 2) (y % 2) (mod-lt x (lit< tt)) (mod-lt y (lit< tt)))

-- a power of two has one digit
bit_pow_same : (k : ℕ) → bit (2 ^ k) k ≡ 1
unfolding bit
bit_pow_same k = ap (λ (x : ℕ). x % 2) (div_self (pow_pos k))

bit_pow_other : (k i : ℕ) → i ≢ k → bit (2 ^ k) i ≡ 0
bit_pow_other zero zero h = absurd (h refl)
bit_pow_other zero (suc i) h = bit_next 1 i ∙ bit_none 0 i (pow_pos i)
bit_pow_other (suc k) zero h = bit_first (2 ^ suc k) ∙ ap (λ (x : ℕ). x % 2) (pow-suc 2 k) ∙ mul-mod_left (2 ^ k) 2
bit_pow_other (suc k) (suc i) h =
    bit_next (2 ^ suc k) i ∙ ap (λ (x : ℕ). bit x i) (ap (λ (x : ℕ). x / 2) (pow-suc 2 k) ∙ mul-div_cancel (2 ^ k) (lit< tt)) ∙ bit_pow_other k i (λ e. h (ap suc e))

both_set : (x : ℕ) → x < 2 → differ (max x 1) 1 ≡ 0
both_set x h = ap (λ (y : ℕ). differ y 1) (max-eq_right {n = x} {m = 1} (omega arith))

differ_zero : (x : ℕ) → differ x 0 ≡ x
differ_zero zero = refl
differ_zero (suc x) = refl

or_same : (w k : ℕ) → bit (bit_or w (2 ^ k)) k ≡ max (bit w k) 1
or_same w k = bit_or_lem w (2 ^ k) k ∙ ap (λ (x : ℕ). max (bit w k) x) (bit_pow_same k)

or_other : (w k i : ℕ) → i ≢ k → bit (bit_or w (2 ^ k)) i ≡ bit w i
or_other w k i h = bit_or_lem w (2 ^ k) i ∙ ap (λ (x : ℕ). max (bit w i) x) (bit_pow_other k i h) ∙ max-zero (bit w i)

-- the digit that is set or cleared
pub with_same : (w k : ℕ) (v : Bool) → bit (with_bit w k v) k ≡ cond v 1 0
with_same w k true = or_same w k ∙ omega (arith, bit_lt w k)
with_same w k false = bit_xor_lem (bit_or w (2 ^ k)) (2 ^ k) k ∙ ap₂ differ (or_same w k) (bit_pow_same k) ∙ both_set (bit w k) (bit_lt w k)

-- each other digit
pub with_other : (w k i : ℕ) (v : Bool) → i ≢ k → bit (with_bit w k v) i ≡ bit w i
with_other w k i true h = or_other w k i h
with_other w k i false h = bit_xor_lem (bit_or w (2 ^ k)) (2 ^ k) i ∙ ap₂ differ (or_other w k i h) (bit_pow_other k i h) ∙ differ_zero (bit w i)

-- a word below a power of two stays below it where the digit is lower
pub with_lt : (n w k : ℕ) (v : Bool) → w < 2 ^ n → k < n → with_bit w k v < 2 ^ n
with_lt n w k true h l = or_lt n w (2 ^ k) h (pow-lt l)
with_lt n w k false h l = xor_lt n (bit_or w (2 ^ k)) (2 ^ k) (or_lt n w (2 ^ k) h (pow-lt l)) (pow-lt l)

-- `1 << k` below the width
pub shift_one : (k : ℕ) → k < 64 → 1 * 2 ^ k % 2 ^ 64 ≡ 2 ^ k
shift_one k h = shl_exact 1 k 64 (lit< tt) (omega arith) ∙ one-mul (2 ^ k)

-- ---- `count`

-- it asks f below n alone
pub count_same : (n : ℕ) (f g : ℕ → ℕ) → ((i : ℕ) → i < n → f i ≡ g i) → count n f ≡ count n g
unfolding count
count_same zero f g h = refl
count_same (suc n) f g h = ap₂ (λ (x y : ℕ). x + y) (h 0 (omega arith)) (count_same n (λ i. f (suc i)) (λ i. g (suc i)) (λ i k. h (suc i) (omega arith)))

-- the count of two parts
pub count_add : (a b : ℕ) (f : ℕ → ℕ) → count (a + b) f ≡ count a f + count b (λ i. f (a + i))
unfolding count
count_add zero b f = ap (λ (n : ℕ). count n f) (zero-add b) ∙ ap (count b) (fun_ext (λ i. ap f (sym (zero-add i)))) ∙ sym (zero-add _)
count_add (suc a) b f =
    ap (λ (n : ℕ). count n f) (suc-add a b)
    ∙ ap (λ (x : ℕ). f 0 + x) (count_add a b (λ i. f (suc i)) ∙ ap (λ (h : ℕ → ℕ). count a (λ i. f (suc i)) + count b h) (fun_ext (λ i. ap f (sym (suc-add a i)))))
    ∙ sym (add_assoc (f 0) _ _)

-- nothing to count
pub count_none : (n : ℕ) (f : ℕ → ℕ) → ((i : ℕ) → f i ≡ 0) → count n f ≡ 0
unfolding count
count_none zero f h = refl
count_none (suc n) f h = ap₂ (λ (x y : ℕ). x + y) (h 0) (count_none n (λ i. f (suc i)) (λ i. h (suc i)))

-- ---- `least`

-- `least` is the least
pub least_is : (n : ℕ) (f : ℕ → ℕ) → Least n f (least n f)
unfolding least
least_is zero f = record { within = omega arith; below = λ i h. omega arith; here = λ h. omega arith }
least_is (suc n) f = go (same (f 0) 0) (least_is n (λ i. f (suc i)))
  where
    r : ℕ
    r = least n (λ i. f (suc i))

    low : f 0 ≡ 0 → Least n (λ i. f (suc i)) r → (i : ℕ) → i < suc r → f i ≡ 0
    low z l zero h = z
    low z l (suc i) h = l.below i (omega arith)

    go : (f 0 ≡ 0) ⊎ (f 0 ≢ 0) → Least n (λ i. f (suc i)) r → Least (suc n) f (cond (eqb (f 0) 0) (suc r) 0)
    go (inl z) l = rw (eq-eqb (f 0) 0 z) (record { within = omega (arith, l.within); below = low z l; here = λ h. l.here (omega arith) })
    go (inr z) l = rw (ne_eqb (f 0) 0 z) (record { within = omega arith; below = λ i h. omega arith; here = λ h. z })

-- and only one number is so
pub least_one : (n : ℕ) (f : ℕ → ℕ) (a b : ℕ) → Least n f a → Least n f b → a ≡ b
least_one n f a b p q = go (order a b) (order b a)
  where
    go : (a < b) ⊎ (b ≤ a) → (b < a) ⊎ (a ≤ b) → a ≡ b
    go (inl h) s = absurd (p.here (omega (arith, q.within)) (q.below a h))
    go (inr h) (inl k) = absurd (q.here (omega (arith, p.within)) (p.below b k))
    go (inr h) (inr k) = omega arith

-- it asks f below n alone
pub least_same : (n : ℕ) (f g : ℕ → ℕ) → ((i : ℕ) → i < n → f i ≡ g i) → least n f ≡ least n g
least_same n f g h =
    least_one n g (least n f) (least n g)
    (record { within = l.within; below = λ i k. sym (h i (omega (arith, l.within))) ∙ l.below i k; here = λ k z. l.here k (h _ k ∙ z) })
    (least_is n g)
  where
    l : Least n f (least n f)
    l = least_is n f

-- where the first a numbers have one, b numbers more change nothing
pub least_stays : (a b : ℕ) (f : ℕ → ℕ) (m : ℕ) → Least a f m → m ≢ a → Least (a + b) f m
least_stays a b f m l h = record { within = omega (arith, l.within); below = l.below; here = λ t. l.here (omega (arith, l.within)) }

-- where they have none, the b numbers are looked at
pub least_goes : (a b : ℕ) (f g : ℕ → ℕ) → Least a f a → ((i : ℕ) → i < b → f (a + i) ≡ g i) → Least (a + b) f (a + least b g)
least_goes a b f g l e =
    let r = least_is b g in
    record {
      within = omega (arith, r.within);
      below = λ i h. low i h (order i a);
      here = λ t z. r.here (omega arith) (sym (e (least b g) (omega arith)) ∙ z);
    }
  where
    low : (i : ℕ) → i < a + least b g → (i < a) ⊎ (a ≤ i) → f i ≡ 0
    low i h (inl k) = l.below i k
    low i h (inr k) =
        let j : ℕ = i - a in
        let q : a + j ≡ i = omega arith in
        ap f (sym q) ∙ e j (omega (arith, (least_is b g).within)) ∙ (least_is b g).below j (omega arith)

-- ---- the machine's counts are counts over digits

-- `count_ones`
pub ones_count : (k n : ℕ) → n < 2 ^ k → ones n ≡ count k (bit n)
unfolding count ones
ones_count zero n h = ap ones (lt-one h)
ones_count (suc k) n h =
    ones_step n
    ∙ ap₂ (λ (x y : ℕ). x + y) (sym (bit_first n))
    (ones_count k (n / 2) (shr_lt k 1 (subst (λ (x : ℕ). n < 2 ^ x) (sym (add-one k)) h)) ∙ ap (count k) (fun_ext (λ i. sym (bit_next n i))))

under_is : (d t : ℕ) → under d t ≡ cond (eqb d 0) (suc t) 0
under_is zero t = refl
under_is (suc d) t = rw (eqb-suc-zero d)

-- `trailing_zeros`
pub zeros_least : (k n : ℕ) → count_trailing_zeros k n ≡ least k (bit n)
unfolding least count_trailing_zeros
zeros_least zero n = refl
zeros_least (suc k) n =
    under_is (n % 2) (count_trailing_zeros k (n / 2))
    ∙ ap₂ (λ (x y : ℕ). cond (eqb x 0) (suc y) 0) (sym (bit_first n)) (zeros_least k (n / 2) ∙ ap (least k) (fun_ext (λ i. sym (bit_next n i))))

-- ---- a digit that is given what it has

lt_pow : (w : ℕ) → w < 2 ^ w
lt_pow zero = omega arith
lt_pow (suc w) = rw (pow-suc 2 w) (omega (arith, lt_pow w))

-- numbers with the same digits are equal
pub digits_same : (n a b : ℕ) → a < 2 ^ n → b < 2 ^ n → ((i : ℕ) → bit a i ≡ bit b i) → a ≡ b
digits_same zero a b h k e = omega arith
digits_same (suc n) a b h k e =
    let h₂ : a < 2 ^ n * 2 = rw (pow-suc 2 n) at h in
    let k₂ : b < 2 ^ n * 2 = rw (pow-suc 2 n) at k in
    let q : a / 2 ≡ b / 2 = digits_same n (a / 2) (b / 2) (omega arith) (omega arith) (λ i. sym (bit_next a i) ∙ e (suc i) ∙ bit_next b i) in
    let r : a % 2 ≡ b % 2 = sym (bit_first a) ∙ e 0 ∙ bit_first b in
    omega arith

pub with_own : (w k : ℕ) (v : Bool) → bit w k ≡ cond v 1 0 → with_bit w k v ≡ w
with_own w k v h = digits_same (w + suc k) (with_bit w k v) w (with_lt (w + suc k) w k v l (omega arith)) l each
  where
    l : w < 2 ^ (w + suc k)
    l = let m : w < w + suc k = omega arith in omega (arith, lt_pow w, pow-lt m)

    each : (i : ℕ) → bit (with_bit w k v) i ≡ bit w i
    each i = go (same i k)
      where
        go : (i ≡ k) ⊎ (i ≢ k) → bit (with_bit w k v) i ≡ bit w i
        go (inl e) = rw e (with_same w k v ∙ sym h)
        go (inr e) = with_other w k i v e

-- ---- a digit that is given what it has not: it is turned round, and no other

pub turned : (w k : ℕ) (v : Bool) → bit w k ≡ cond v 0 1 → with_bit w k v ≡ bit_xor w (2 ^ k)
turned w k false h = ap (λ (x : ℕ). bit_xor x (2 ^ k)) (with_own w k true h)
turned w k true h = digits_same (w + suc k) (bit_or w (2 ^ k)) (bit_xor w (2 ^ k)) (with_lt (w + suc k) w k true l (omega arith)) (xor_lt (w + suc k) w (2 ^ k) l (pow-lt m)) each
  where
    m : k < w + suc k
    m = omega arith

    l : w < 2 ^ (w + suc k)
    l = let n : w < w + suc k = omega arith in omega (arith, lt_pow w, pow-lt n)

    each : (i : ℕ) → bit (bit_or w (2 ^ k)) i ≡ bit (bit_xor w (2 ^ k)) i
    each i = go (same i k)
      where
        go : (i ≡ k) ⊎ (i ≢ k) → bit (bit_or w (2 ^ k)) i ≡ bit (bit_xor w (2 ^ k)) i
        go (inl e) = rw e (or_same w k ∙ ap (λ (x : ℕ). max x 1) h ∙ sym (bit_xor_lem w (2 ^ k) k ∙ ap₂ differ h (bit_pow_same k)))
        go (inr e) = or_other w k i e ∙ sym (bit_xor_lem w (2 ^ k) i ∙ ap (differ (bit w i)) (bit_pow_other k i e) ∙ differ_zero (bit w i))
