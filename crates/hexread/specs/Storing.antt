-- The loop that writes the data of a record, a byte a round. Assumes nothing.
use Rattle.std.specs.Prelude.{◌≡◌, ℕ, ◌+◌, ◌*◌, ◌/◌, ◌%◌, ◌<◌, ◌≤◌, true, ◌&&◌, nat_lt, List, [], ◌∷◌, ◌++◌, length, slice_index, slice_set, refl}
use Rattle.std.proofs.Common.{sym, ap, ◌∙◌, arith, length-set, length-append, ltb-true}
use Rattle.semantics.specs.Tests.{and_true_l, and_true_r}
use Rattle.intelhex.specs.Records.{digit, all_digits, pairs, named_from, words_after}
use Rattle.hexread.specs.Bytes.{pair_at}
use Rattle.hexread.specs.Put.{with_byte, put_none, put_byte}

-- digits, two for each byte, which all, if there are any, lie in the array
pub record Storable (digits : List ℕ) (start : ℕ) (array : List ℕ) : Type 0 where
  pub even : length digits % 2 ≡ 0
  pub digits_only : all_digits digits ≡ true
  pub room : 0 < length digits → start + length digits / 2 ≤ 2 * length array

-- after i bytes: those that are left make of the array what all of them make of it as it was
pub record Storing (digits : List ℕ) (start : ℕ) (before after rest : List ℕ) (i : ℕ) : Type 0 where
  pub able : Storable rest (start + i) after
  pub same : length after ≡ length before
  pub left : words_after (named_from (start + i) (pairs rest)) after ≡ words_after (named_from start (pairs digits)) before

-- a byte of two digits, and others
pub pair_small : (pair left : List ℕ) → length pair ≡ 2 → all_digits (pair ++ left) ≡ true → pair_at pair 0 < 256
unfolding all_digits
pair_small [] left two e = absurd (omega arith)
pair_small (a ∷ []) left two e = absurd (omega arith)
pair_small (a ∷ b ∷ c ∷ t) left two e = absurd (omega arith)
pair_small (a ∷ b ∷ []) left two e =
    let rest : (nat_lt (digit b) 16 && all_digits left) ≡ true = and_true_r (nat_lt (digit a) 16) (nat_lt (digit b) 16 && all_digits left) e in
    let high : digit a < 16 = ltb-true (digit a) 16 (and_true_l (nat_lt (digit a) 16) (nat_lt (digit b) 16 && all_digits left) e) in
    let low : digit b < 16 = ltb-true (digit b) 16 (and_true_l (nat_lt (digit b) 16) (all_digits left) rest) in
    omega arith

more_digits : (pair left : List ℕ) → length pair ≡ 2 → all_digits (pair ++ left) ≡ true → all_digits left ≡ true
unfolding all_digits
more_digits [] left two e = absurd (omega arith)
more_digits (a ∷ []) left two e = absurd (omega arith)
more_digits (a ∷ b ∷ c ∷ t) left two e = absurd (omega arith)
more_digits (a ∷ b ∷ []) left two e =
    and_true_r (nat_lt (digit b) 16) (all_digits left) (and_true_r (nat_lt (digit a) 16) (nat_lt (digit b) 16 && all_digits left) e)

first : (pair left : List ℕ) (a : ℕ) → length pair ≡ 2
    → named_from a (pairs (pair ++ left)) ≡ record { address = a; value = pair_at pair 0 } ∷ named_from (a + 1) (pairs left)
unfolding named_from pairs
first [] left a two = absurd (omega arith)
first (x ∷ []) left a two = absurd (omega arith)
first (x ∷ y ∷ z ∷ t) left a two = absurd (omega arith)
first (x ∷ y ∷ []) left a two = refl

module _ (digits : List ℕ) (start : ℕ) (before after rest : List ℕ) (i : ℕ) (inv : Storing digits start before after rest i) where
  pub store_end : length rest < 2 → after ≡ words_after (named_from start (pairs digits)) before
  unfolding named_from pairs
  store_end h = go rest inv.able.even h inv.left
    where
      go : (l : List ℕ) → length l % 2 ≡ 0 → length l < 2 → words_after (named_from (start + i) (pairs l)) after ≡ words_after (named_from start (pairs digits)) before
          → after ≡ words_after (named_from start (pairs digits)) before
      go [] even k e = sym (put_none after) ∙ e
      go (a ∷ []) even k e = absurd (omega arith)
      go (a ∷ b ∷ t) even k e = absurd (omega arith)

  module _ (pair left : List ℕ) (split : rest ≡ pair ++ left) (two : length pair ≡ 2) where
    long : length rest ≡ 2 + length left
    long = omega (arith, ap length split, length-append pair left)

    -- a byte is below 256, and its word is one of the array
    pub byte_small : pair_at pair 0 < 256
    byte_small = pair_small pair left two (rw split at inv.able.digits_only)

    pub word_inside : (start + i) / 2 < length after
    word_inside = omega (arith, long, inv.able.room (omega (arith, long)))

    pub store_step : (new : ℕ) → new ≡ with_byte (slice_index after ((start + i) / 2)) (start + i) (pair_at pair 0)
        → Storing digits start before (slice_set after ((start + i) / 2) new) left (i + 1)
    store_step new e =
        let s : start + (i + 1) ≡ start + i + 1 = omega arith in
        let size = length-set after ((start + i) / 2) new in
        record {
          able = record {
            even = omega (arith, long, inv.able.even);
            digits_only = more_digits pair left two (rw split at inv.able.digits_only);
            room = λ h. omega (arith, long, size, inv.able.room (omega (arith, long)));
          };
          same = size ∙ inv.same;
          left = rw (s, e) (sym (put_byte (named_from (start + i + 1) (pairs left)) after (start + i) (pair_at pair 0) word_inside byte_small) ∙ rw (split, first pair left (start + i) two) at inv.left);
        }
