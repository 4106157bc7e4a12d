-- The refusal of a record by what the code looks at, one thing after the other; and what a good record has.
-- Assumes nothing.
use Rattle.std.specs.Prelude.{◌≡◌, ℕ, suc, ◌+◌, ◌*◌, ◌%◌, ◌<◌, ◌≤◌, Bool, true, false, cond, not, ◌&&◌, ◌||◌, List, [], ◌∷◌, length, drop, ◌==◌, ◌≢◌, nat_le, nat_lt, slice_index, slice_index_or, refl, Option, Some, None, ok_or, Ok, Err}
use Rattle.std.proofs.Common.{sym, ◌∙◌, length-take}
use native.Mathlib.Omega.{arith}
use Rattle.std.proofs.Math.Decide.{dec_lt}
use Rattle.std.proofs.Math.Dec.{eqb-suc-zero}
use Rattle.std.proofs.Math.ListN.{length-drop}
use borrow.Author.Tests.{eq-eqb, ne_eqb, lt-ltb, le-ltb, le-leb, lt-leb, eqb-true, not-false}
use Rattle.semantics.specs.Tests.{and_true_l, and_true_r}
use Rattle.refusal.specs.declared.Refusal.{Refusal}
use Rattle.refusal.specs.declared.Refusal.TheVariants.{RecordForm, RecordSum, RecordType, OutsideArray}
use Rattle.intelhex.specs.Records.{all_digits, pairs, bytes, total, count, offset, kind, data_of, framed, shaped, malformed, sum_wrong}
use Rattle.intelhex.specs.Records.{other_type, named_from, named_by, outside, passes, record_refusal}
use Rattle.hexread.specs.Bytes.{header_of, outside_of, refusal_by, record_of, looked, scanned, length_pairs, shaped_by, data_by, other_by}

-- ---- a malformed record

-- of four things that must hold, the first, the second or the third does not
ill_1 : (a b c d : Bool) → a ≡ false → not ((a && (b && c)) && d) ≡ true
ill_1 a b c d e = rw e

ill_2 : (a b c d : Bool) → b ≡ false → not ((a && (b && c)) && d) ≡ true
ill_2 true b c d e = rw e
ill_2 false b c d e = refl

ill_3 : (a b c d : Bool) → c ≡ false → not ((a && (b && c)) && d) ≡ true
ill_3 true true c d e = rw e
ill_3 true false c d e = refl
ill_3 false b c d e = refl

-- the number of characters that a record has
abbrev whole : List ℕ → ℕ
whole line = 1 + 2 * (4 + count line + 1)

module _ (n upper : ℕ) (line : List ℕ) where
  ten : malformed line ≡ true → record_refusal n upper line ≡ Some RecordForm
  unfolding record_refusal
  ten e = rw e

  pub no_colon : (slice_index line 0 ≢ 58) → record_refusal n upper line ≡ Some RecordForm
  unfolding malformed
  no_colon h = ten (ill_1 (slice_index line 0 == 58) (all_digits (drop 1 line)) (length line == whole line) (shaped (kind line) (offset line) (count line)) (ne_eqb (slice_index line 0) 58 h))

  pub no_digits : all_digits (drop 1 line) ≡ false → record_refusal n upper line ≡ Some RecordForm
  unfolding malformed
  no_digits e = ten (ill_2 (slice_index line 0 == 58) (all_digits (drop 1 line)) (length line == whole line) (shaped (kind line) (offset line) (count line)) e)

  pub other_size : (length line ≢ 2 * (5 + count line) + 1) → record_refusal n upper line ≡ Some RecordForm
  unfolding malformed
  other_size h =
      ten (ill_3 (slice_index line 0 == 58) (all_digits (drop 1 line)) (length line == whole line) (shaped (kind line) (offset line) (count line)) (ne_eqb (length line) (whole line) (λ e. h (e ∙ omega arith))))

-- ---- a record that is not malformed

pub record Formed (line : List ℕ) : Type 0 where
  pub colon : slice_index_or line 0 0 ≡ 58
  pub digits : all_digits (drop 1 line) ≡ true
  pub size : length line ≡ 2 * (5 + count line) + 1
  pub shape : shaped (kind line) (offset line) (count line) ≡ true

-- it has its header and its check byte, and a 04 record its two data bytes
pub long_enough : (line : List ℕ) → Formed line → 11 ≤ length line
long_enough line formed = omega (arith, formed.size)

pub long_upper : (line : List ℕ) → Formed line → kind line ≡ 4 → 13 ≤ length line
long_upper line formed e =
    let both : (offset line == 0 && count line == 2) ≡ true = rw e at formed.shape in
    omega (arith, formed.size, eqb-true (count line) 2 (and_true_r (offset line == 0) (count line == 2) both))

-- consecutive bytes: one is outside where there is one, and the last is
outside_from : (n a : ℕ) (bs : List ℕ) → outside n (named_from a bs) ≡ (not (length bs == 0) && nat_lt n (a + length bs))
unfolding outside named_from
outside_from n a [] = refl
outside_from n a (b ∷ t) = rw (outside_from n (a + 1) t, eqb-suc-zero (length t)) (go (dec_lt a n) (length t == 0) refl)
  where
    go : Dec (a < n) → (v : Bool) → (length t == 0) ≡ v → (nat_le n a || (not v && nat_lt n (a + 1 + length t))) ≡ nat_lt n (a + suc (length t))
    go (no h) v e = rw (le-leb n a (omega arith), lt-ltb n (a + suc (length t)) (omega arith))
    go (yes h) true e = let z : length t ≡ 0 = eqb-true (length t) 0 e in rw (lt-leb n a h, le-ltb n (a + suc (length t)) (omega arith))
    go (yes h) false e = let s : a + 1 + length t ≡ a + suc (length t) = omega arith in rw (lt-leb n a h, s)

outside_none : (n : ℕ) → outside n [] ≡ false
unfolding outside
outside_none n = refl

module _ (n upper : ℕ) (line : List ℕ) (size : length line ≡ 2 * (5 + count line) + 1) where
  -- the data are as many as the record says
  pub data_length : length (data_of line) ≡ count line
  unfolding bytes
  data_length =
      let e : length (bytes line) ≡ 5 + count line = length_pairs (5 + count line) (drop 1 line) (omega (arith, length-drop 1 line)) in
      simp (length-take, length-drop) (omega arith)

  outside_is : (outside n (named_by upper line) || passes line) ≡ outside_of (header_of line) upper n
  unfolding named_by
  outside_is = rw (← data_by (kind line)) (go (kind line == 0))
    where
      a : ℕ
      a = upper * 65536 + offset line

      go : (v : Bool) → (outside n (cond v (named_from a (data_of line)) []) || passes line) ≡ ((v && (not (count line == 0) && nat_lt n (a + count line))) || passes line)
      go true = rw (outside_from n a (data_of line), data_length)
      go false = rw outside_none

  -- what is left to be looked at
  pub by_parts : slice_index_or line 0 0 ≡ 58 → all_digits (drop 1 line) ≡ true
      → record_refusal n upper line ≡ refusal_by (header_of line) (total (bytes line) % 256) upper n
  unfolding record_refusal malformed sum_wrong
  by_parts colon digits =
      let e : length line ≡ whole line = size ∙ omega arith in
      rw (outside_is, eq-eqb (slice_index line 0) 58 colon, eq-eqb (length line) (whole line) e, digits, shaped_by, other_by)

-- ---- a good record

pub record Good (n upper : ℕ) (line : List ℕ) : Type 0 where
  pub formed : Formed line
  pub type : other_type (kind line) ≡ false
  pub inside : outside_of (header_of line) upper n ≡ false

none : (m s t o : Bool)
    → ◌≡◌ {A = Option Refusal} (cond m (Some RecordForm) (cond s (Some RecordSum) (cond t (Some RecordType) (cond o (Some OutsideArray) None)))) None
    → (m ≡ false) × ((s ≡ false) × ((t ≡ false) × (o ≡ false)))
none true s t o e = cc
none false true t o e = cc
none false false true o e = cc
none false false false true e = cc
none false false false false e = (refl, (refl, (refl, refl)))

formed_if : (line : List ℕ) → malformed line ≡ false → Formed line
unfolding malformed
formed_if line e =
    let s : Bool = shaped (kind line) (offset line) (count line) in
    let both : (framed line && s) ≡ true = not-false (framed line && s) e in
    let frame : framed line ≡ true = and_true_l (framed line) s both in
    let rest : (all_digits (drop 1 line) && length line == whole line) ≡ true = and_true_r (slice_index line 0 == 58) (all_digits (drop 1 line) && length line == whole line) frame in
    record {
      colon = eqb-true (slice_index line 0) 58 (and_true_l (slice_index line 0 == 58) (all_digits (drop 1 line) && length line == whole line) frame);
      digits = and_true_l (all_digits (drop 1 line)) (length line == whole line) rest;
      size = eqb-true (length line) (whole line) (and_true_r (all_digits (drop 1 line)) (length line == whole line) rest) ∙ omega arith;
      shape = and_true_r (framed line) s both;
    }

pub good_if : (n upper : ℕ) (line : List ℕ) → record_refusal n upper line ≡ None → Good n upper line
unfolding record_refusal
good_if n upper line e =
    let far : Bool = outside n (named_by upper line) || passes line in
    let z : (malformed line ≡ false) × ((sum_wrong line ≡ false) × ((other_type (kind line) ≡ false) × (far ≡ false))) =
    none (malformed line) (sum_wrong line) (other_type (kind line)) far e in
    let f : Formed line = formed_if line z.0 in
    record { formed = f; type = z.1.1.0; inside = sym (outside_is n upper line f.size) ∙ z.1.1.1 }

-- ---- what is seen of a record

module _ (n upper : ℕ) (line : List ℕ) where
  pub look_bad : {r : Refusal} → record_refusal n upper line ≡ Some r → Err r ≡ looked n upper line
  unfolding looked
  look_bad e = rw e

  pub look_good : record_refusal n upper line ≡ None → Ok (record_of line) ≡ looked n upper line
  unfolding looked
  look_good e = rw e

-- a sum that is asked for, and refused where there is none
pub sum_refused : (o : Option ℕ) {r : Refusal} → ok_or o RecordForm ≡ Err r → (o ≡ None) × (r ≡ RecordForm)
sum_refused None e = (refl, cc)
sum_refused (Some s) e = cc

pub sum_given : (o : Option ℕ) {s : ℕ} → ok_or o RecordForm ≡ Ok s → o ≡ Some s
sum_given None e = cc
sum_given (Some t) e = cc

pub scanned_none : (l : List ℕ) → scanned l ≡ None → all_digits l ≡ false
unfolding scanned
scanned_none l = go (all_digits l)
  where
    go : (b : Bool) → ◌≡◌ {A = Option ℕ} (cond b (Some (total (pairs l) % 256)) None) None → b ≡ false
    go true e = cc
    go false e = refl

pub scanned_some : (line : List ℕ) {s : ℕ} → scanned (drop 1 line) ≡ Some s → (all_digits (drop 1 line) ≡ true) × (s ≡ total (bytes line) % 256)
unfolding scanned bytes
scanned_some line {s} = go (all_digits (drop 1 line))
  where
    go : (b : Bool) → ◌≡◌ {A = Option ℕ} (cond b (Some (total (pairs (drop 1 line)) % 256)) None) (Some s) → (b ≡ true) × (s ≡ total (pairs (drop 1 line)) % 256)
    go true e = (refl, cc)
    go false e = cc
