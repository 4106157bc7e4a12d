-- Laws of bytes: the digits of a byte give it back, the bytes of a word give it back, and bytes named from an address on are those of the array there.
-- Assumes nothing.
use Rattle.std.specs.Prelude.{ℕ, zero, suc, ◌+◌, ◌-◌, ◌*◌, ◌/◌, ◌%◌, ◌<◌, Bool, true, false, cond, List, [], ◌∷◌, ◌++◌, ◌≡◌, refl, ltb, length, get_or, take, drop}
use Rattle.std.proofs.Common.{◌∙◌, arith, get_or-drop, lt-ltb, le-ltb}
use Rattle.std.proofs.Math.Decide.{dec_lt}
use Rattle.semantics.specs.Numbers.{within_in, within_out}
use Rattle.printing.specs.Text.{digit_of}
use Rattle.intelhex.specs.Records.{digit, all_digits, pairs, total, named_from, byte_after}
use Rattle.intelhex.specs.Text.{digits_of, bytes_of}
use Rattle.intelhex.proofs.Laws.{byte_here, byte_elsewhere}
use Rattle.intelhex.specs.Bytes.{Small}

-- ---- lists of bytes

pub small_none : Small []
small_none i = omega arith

pub small_cons : (b : ℕ) (t : List ℕ) → b < 256 → Small t → Small (b ∷ t)
small_cons b t h s zero = h
small_cons b t h s (suc i) = s i

pub small_append : (x y : List ℕ) → Small x → Small y → Small (x ++ y)
small_append [] y h k = k
small_append (b ∷ x) y h k = small_cons b (x ++ y) (h 0) (small_append x y (λ i. h (suc i)) k)

pub small_take : (n : ℕ) (bs : List ℕ) → Small bs → Small (take n bs)
small_take zero bs h = small_none
small_take (suc n) [] h = small_none
small_take (suc n) (b ∷ t) h = small_cons b (take n t) (h 0) (small_take n t (λ i. h (suc i)))

pub small_drop : (n : ℕ) (bs : List ℕ) → Small bs → Small (drop n bs)
small_drop n bs h i = rw (get_or-drop n bs i 0) (h (n + i))

-- ---- digits

-- a digit's byte comes after LF and CR
pub digit_late : (n : ℕ) → 13 < digit_of n
unfolding digit_of
digit_late n = go (ltb n 10)
  where
    go : (t : Bool) → 13 < cond t (48 + n) (65 + (n - 10))
    go true = omega arith
    go false = omega arith

digit_back : (n : ℕ) → n < 16 → digit (digit_of n) ≡ n
unfolding digit digit_of
digit_back n h = go (dec_lt n 10)
  where
    go : Dec (n < 10) → digit (digit_of n) ≡ n
    go (yes k) = rw (lt-ltb n 10 k, within_in 48 10 (48 + n) (omega arith) (omega arith)) (omega arith)
    go (no k) =
        rw
        (le-ltb n 10 (omega arith), within_out 48 10 (65 + (n - 10)) (λ p q. omega arith), within_in 65 6 (65 + (n - 10)) (omega arith) (omega arith))
        (omega arith)

-- the digits of bytes are digits, and give the bytes back
pub digits_back : (bs : List ℕ) → Small bs → (all_digits (digits_of bs) ≡ true) × (pairs (digits_of bs) ≡ bs)
unfolding digits_of all_digits pairs
digits_back [] h = (refl, refl)
digits_back (b ∷ t) h = go (digits_back t (λ i. h (suc i)))
  where
    high : digit (digit_of (b / 16)) ≡ b / 16
    high = digit_back (b / 16) (omega (arith, h 0))

    low : digit (digit_of (b % 16)) ≡ b % 16
    low = digit_back (b % 16) (omega arith)

    byte : b / 16 * 16 + b % 16 ≡ b
    byte = omega arith

    go : (all_digits (digits_of t) ≡ true) × (pairs (digits_of t) ≡ t) → (all_digits (digits_of (b ∷ t)) ≡ true) × (pairs (digits_of (b ∷ t)) ≡ b ∷ t)
    go q = (
      rw (high, low, lt-ltb (b / 16) 16 (omega (arith, h 0)), lt-ltb (b % 16) 16 (omega arith)) q.0,
      rw (high, low, byte, q.1),
    )

-- ---- sums

pub total_append : (x y : List ℕ) → total (x ++ y) ≡ total x + total y
unfolding total
total_append [] y = omega arith
total_append (b ∷ x) y = omega (arith, total_append x y)

-- ---- the bytes of words

-- two to a word
words_bytes : (ws : List ℕ) (i : ℕ) → (get_or (bytes_of ws) (2 * i) 0 ≡ get_or ws i 0 % 256) × (get_or (bytes_of ws) (2 * i + 1) 0 ≡ get_or ws i 0 / 256)
unfolding bytes_of
words_bytes [] i = (refl, refl)
words_bytes (w ∷ ws) zero = (refl, refl)
words_bytes (w ∷ ws) (suc i) =
    let e : 2 * suc i ≡ suc (suc (2 * i)) = omega arith in
    let f : 2 * suc i + 1 ≡ suc (suc (2 * i + 1)) = omega arith in
    (rw e (words_bytes ws i).0, rw f (words_bytes ws i).1)

-- that give it back
pub word_back : (ws : List ℕ) (i : ℕ) → get_or (bytes_of ws) (2 * i) 0 + 256 * get_or (bytes_of ws) (2 * i + 1) 0 ≡ get_or ws i 0
word_back ws i = omega (arith, (words_bytes ws i).0, (words_bytes ws i).1)

pub small_bytes_of : (ws : List ℕ) → ((i : ℕ) → get_or ws i 0 < 65536) → Small (bytes_of ws)
unfolding bytes_of
small_bytes_of [] h = small_none
small_bytes_of (w ∷ ws) h =
    small_cons (w % 256) (w / 256 ∷ bytes_of ws) (omega arith) (small_cons (w / 256) (bytes_of ws) (omega (arith, h 0)) (small_bytes_of ws (λ i. h (suc i))))

-- ---- bytes from an address on

pub named_from_append : (a : ℕ) (x y : List ℕ) → named_from a (x ++ y) ≡ named_from a x ++ named_from (a + length x) y
unfolding named_from
named_from_append a [] y = let e : a + 0 ≡ a = omega arith in rw e
named_from_append a (b ∷ x) y = let e : a + suc (length x) ≡ a + 1 + length x = omega arith in rw (e, named_from_append (a + 1) x y)

-- a byte below the address stays
byte_below : (a : ℕ) (bs : List ℕ) (c old : ℕ) → c < a → byte_after (named_from a bs) c old ≡ old
unfolding named_from byte_after
byte_below a [] c old h = refl
byte_below a (b ∷ t) c old h =
    byte_elsewhere (record { address = a; value = b }) (named_from (a + 1) t) c old (λ e. omega arith) ∙ byte_below (a + 1) t c old (omega arith)

-- the i-th byte from there on is the i-th of the list
pub byte_from : (a : ℕ) (bs : List ℕ) (i old : ℕ) → i < length bs → byte_after (named_from a bs) (a + i) old ≡ get_or bs i 0
unfolding named_from
byte_from a [] i old h = absurd (omega arith)
byte_from a (b ∷ t) zero old h =
    byte_here (record { address = a; value = b }) (named_from (a + 1) t) (a + 0) old (omega arith) ∙ byte_below (a + 1) t (a + 0) b (omega arith)
byte_from a (b ∷ t) (suc i) old h =
    let e : a + suc i ≡ a + 1 + i = omega arith in
    byte_elsewhere (record { address = a; value = b }) (named_from (a + 1) t) (a + suc i) old (λ q. omega arith) ∙ rw e (byte_from (a + 1) t i old (omega arith))
