-- The most worn block: no block has a greater count, and every lower one a lesser. Laws for the code, which looks at the blocks in order. Assumes nothing.
use Rattle.std.specs.Prelude.{ℕ, zero, suc, ◌≤◌, ◌<◌, Bool, true, false, cond, ◌⊎◌, ◌≡◌, refl, eqb}
use Rattle.std.proofs.Common.{inl, inr, sym, ◌∙◌, subst, arith, ne_eqb}
use Rattle.std.proofs.lemmas.Bool.{eqb-false}
use Rattle.geometry.specs.Laws.{order}
use Rattle.protection.specs.Words.{least}
use Rattle.protection.specs.Digits.{least_is, least_one}
use Rattle.wear.specs.Counts.{Counts, count_of, greatest, most_worn}

-- ---- the greatest of a list of numbers

pub greatest_above : (n : ℕ) (f : ℕ → ℕ) (i : ℕ) → i < n → f i ≤ greatest n f
unfolding greatest
greatest_above zero f i h = absurd (omega arith)
greatest_above (suc n) f zero h = omega arith
greatest_above (suc n) f (suc i) h = omega (arith, greatest_above n (λ i. f (suc i)) i (omega arith))

greatest_below : (n : ℕ) (f : ℕ → ℕ) (c : ℕ) → ((i : ℕ) → i < n → f i ≤ c) → greatest n f ≤ c
unfolding greatest
greatest_below zero f c h = omega arith
greatest_below (suc n) f c h = omega (arith, h 0 (omega arith), greatest_below n (λ i. f (suc i)) c (λ i p. h (suc i) (omega arith)))

-- ---- the first of the greatest, among the numbers below n

pub record First (f : ℕ → ℕ) (n m : ℕ) : Type 0 where
  pub within : m < n
  pub most : (i : ℕ) → i < n → f i ≤ f m
  pub lowest : (i : ℕ) → i < m → f i < f m

-- what holds below n, and at n, holds below the number after n
up_to : (f : ℕ → ℕ) (n c : ℕ) → ((i : ℕ) → i < n → f i ≤ c) → f n ≤ c → (i : ℕ) → i < suc n → f i ≤ c
up_to f n c h k i p = go (order i n)
  where
    go : (i < n) ⊎ (n ≤ i) → f i ≤ c
    go (inl q) = h i q
    go (inr q) = let e : i ≡ n = omega arith in rw e k

pub first_one : (f : ℕ → ℕ) → First f 1 0
first_one f = record { within = omega arith; most = up_to f 0 (f 0) (λ i h. absurd (omega arith)) (omega arith); lowest = λ i h. absurd (omega arith) }

-- one number more: it is the first of the greatest only where it is above all before it
pub first_new : (f : ℕ → ℕ) (n m : ℕ) → First f n m → f m < f n → First f (suc n) n
first_new f n m r h = record { within = omega arith; most = up_to f n (f n) (λ i p. omega (arith, r.most i p)) (omega arith); lowest = λ i p. omega (arith, r.most i p) }

pub first_old : (f : ℕ → ℕ) (n m : ℕ) → First f n m → f n ≤ f m → First f (suc n) m
first_old f n m r h = record { within = omega (arith, r.within); most = up_to f n (f m) r.most h; lowest = r.lowest }

-- as the code does it: m is held, with its number c, and the number x at n is looked at
module _ (f : ℕ → ℕ) (n m c x : ℕ) (r : First f n m) (held : c ≡ f m) (seen : x ≡ f n) (m' c' : ℕ) where
  pub looked_new : c < x → m' ≡ n → c' ≡ x → First f (suc n) m' × (c' ≡ f m')
  looked_new h i j = (rw i (first_new f n m r (omega arith)), rw i (j ∙ seen))

  pub looked_old : x ≤ c → m' ≡ m → c' ≡ c → First f (suc n) m' × (c' ≡ f m')
  looked_old h i j = (rw i (first_old f n m r (omega arith)), rw i (j ∙ held))

-- ---- the most worn block

-- it is the first of the greatest counts
pub most_first : (k : Counts) (m : ℕ) → First (count_of k) 259 m → m ≡ most_worn k
unfolding most_worn
most_first k m r = least_one 259 is m (least 259 is) (record { within = omega (arith, r.within); below = before; here = λ h e. no (eqb (count_of k m) top) refl e }) (least_is 259 is)
  where
    top : ℕ
    top = greatest 259 (count_of k)

    is : ℕ → ℕ
    is b = cond (eqb (count_of k b) (greatest 259 (count_of k))) 1 0

    top_is : greatest 259 (count_of k) ≡ count_of k m
    top_is = omega (arith, greatest_below 259 (count_of k) (count_of k m) r.most, greatest_above 259 (count_of k) m r.within)

    before : (i : ℕ) → i < m → is i ≡ 0
    before i h = rw (ne_eqb (count_of k i) (greatest 259 (count_of k)) (λ e. omega (arith, r.lowest i h, top_is)))

    no : (b : Bool) → eqb (count_of k m) (greatest 259 (count_of k)) ≡ b → ◌≡◌ {A = ℕ} (cond b 1 0) 0 → ⊥
    no true e z = absurd (omega arith)
    no false e z = eqb-false (count_of k m) (greatest 259 (count_of k)) e (sym top_is)

-- among any numbers there is a first of the greatest
record Some (f : ℕ → ℕ) (n : ℕ) : Type 0 where
  at : ℕ
  first : First f n at

some : (f : ℕ → ℕ) (n : ℕ) → Some f (suc n)
some f zero = record { at = 0; first = first_one f }
some f (suc n) = go (some f n)
  where
    go : Some f (suc n) → Some f (suc (suc n))
    go r = by (order (f r.at) (f (suc n)))
      where
        by : (f r.at < f (suc n)) ⊎ (f (suc n) ≤ f r.at) → Some f (suc (suc n))
        by (inl h) = record { at = suc n; first = first_new f (suc n) r.at r.first h }
        by (inr h) = record { at = r.at; first = first_old f (suc n) r.at r.first h }

-- and so the most worn block is a block, no block has a greater count, and every lower one has a lesser
pub most_is : (k : Counts) → First (count_of k) 259 (most_worn k)
most_is k = let r = some (count_of k) 258 in subst (λ (m : ℕ). First (count_of k) 259 m) (most_first k r.at r.first) r.first
