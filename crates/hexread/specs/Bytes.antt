-- The bytes of a record by their places in its line. Assumes nothing.
use Rattle.std.specs.Prelude.{◌≡◌, ℕ, zero, suc, ◌+◌, ◌-◌, ◌*◌, ◌/◌, ◌%◌, ◌<◌, Bool, true, false, cond, not, ◌&&◌, ◌||◌, List, [], ◌∷◌, ◌++◌, length, take, drop, ◌==◌, nat_lt, slice_index, Option, Some, None, Result, Ok, Err}
use Rattle.std.proofs.Math.Path.{refl}
use Rattle.std.proofs.Common.{sym, ap, ◌∙◌, drop-drop, eqb-true, ltb-true}
use native.Mathlib.Omega.{arith}
use Rattle.std.proofs.Math.ListN.{length-drop}
use Rattle.std.proofs.Math.Seq.{drop-cons, get_or-drop}
use Rattle.std.proofs.Math.Numerals.{add-one}
use Rattle.semantics.specs.Tests.{and_true_l, and_true_r, or_false_l, or_false_r}
use Rattle.semantics.specs.Numbers.{within, within_true}
use Rattle.refusal.specs.declared.Refusal.{Refusal}
use Rattle.refusal.specs.declared.Refusal.TheVariants.{RecordForm, RecordSum, RecordType, OutsideArray}
use Rattle.intelhex.specs.declared.BadRecord.{BadRecord}
use Rattle.intelhex.specs.Records.{digit, all_digits, pairs, bytes, total, count, offset, kind, shaped, other_type}
use Rattle.intelhex.specs.Records.{record_lines, record_refusal, refusal_from, lines_from, with_line}
use Rattle.hexread.specs.declared.Header.{Header}
use Rattle.hexread.specs.declared.Kind.{Kind}
use Rattle.hexread.specs.declared.Kind.TheVariants.{Data, End, Upper, Other}
use Rattle.hexread.specs.declared.Record.{Record}
use Rattle.hexread.specs.declared.Record.TheVariants.{Names, Ends, Moves}

-- the byte whose two digits begin at a place
abbrev pub pair_at : List ℕ → ℕ → ℕ
pair_at line at = digit (slice_index line at) * 16 + digit (slice_index line (at + 1))

-- what a record's type stands for
abbrev pub kind_of : ℕ → Kind
kind_of t = cond (t == 0) Data (cond (t == 1) End (cond (t == 4) Upper Other))

abbrev pub header_of : List ℕ → Header
header_of line = record { count = count line; offset = offset line; kind = kind_of (kind line) }

-- the sum of the bytes as it wraps at 256, of digits only
unfoldable pub scanned : List ℕ → Option ℕ
scanned l = cond (all_digits l) (Some (total (pairs l) % 256)) None

abbrev pub shaped_kind : Kind → ℕ → ℕ → Bool
shaped_kind Data o n = true
shaped_kind End o n = o == 0 && n == 0
shaped_kind Upper o n = o == 0 && n == 2
shaped_kind Other o n = true

abbrev pub is_data : Kind → Bool
is_data Data = true
is_data End = false
is_data Upper = false
is_data Other = false

abbrev pub is_other : Kind → Bool
is_other Data = false
is_other End = false
is_other Upper = false
is_other Other = true

-- one of a record's bytes is outside an array of n bytes, or its offset and length pass 65,536
abbrev pub outside_of : Header → ℕ → ℕ → Bool
outside_of h upper n = (is_data h.kind && (not (h.count == 0) && nat_lt n (upper * 65536 + h.offset + h.count))) || nat_lt 65536 (h.offset + h.count)

-- the refusal of a record of the right length that begins with a colon and has digits only
abbrev pub refusal_by : Header → ℕ → ℕ → ℕ → Option Refusal
refusal_by h sum upper n =
    cond (not (shaped_kind h.kind h.offset h.count)) (Some RecordForm)
    (cond (not (sum == 0)) (Some RecordSum) (cond (is_other h.kind) (Some RecordType) (cond (outside_of h upper n) (Some OutsideArray) None)))

-- what a good record does
abbrev pub record_by : Kind → List ℕ → Record
record_by Data line = Names (offset line) (count line)
record_by End line = Ends
record_by Upper line = Moves (slice_index (bytes line) 4 * 256 + slice_index (bytes line) 5)
record_by Other line = Names (offset line) (count line)

abbrev pub record_of : List ℕ → Record
record_of line = record_by (kind_of (kind line)) line

abbrev pub unless : Option Refusal → Record → Result Record Refusal
unless None r = Ok r
unless (Some e) r = Err e

-- its refusal, or what it does
unfoldable pub looked : ℕ → ℕ → List ℕ → Result Record Refusal
looked n upper line = unless (record_refusal n upper line) (record_of line)

abbrev pub judged : ℕ → List ℕ → Result ℕ BadRecord
judged n text = with_line (refusal_from n 0 (record_lines text)) (lines_from n 0 (record_lines text))

-- ---- the kinds

module _ (t o n : ℕ) where
  pub shaped_by : shaped t o n ≡ shaped_kind (kind_of t) o n
  shaped_by = go (t == 0) refl
    where
      by : (b c : Bool) → cond b (o == 0 && n == 0) (cond c (o == 0 && n == 2) true) ≡ shaped_kind (cond b End (cond c Upper Other)) o n
      by true c = refl
      by false true = refl
      by false false = refl

      go : (a : Bool) → (t == 0) ≡ a → shaped t o n ≡ shaped_kind (cond a Data (cond (t == 1) End (cond (t == 4) Upper Other))) o n
      go true e = rw (eqb-true t 0 e)
      go false e = by (t == 1) (t == 4)

pub data_by : (t : ℕ) → (t == 0) ≡ is_data (kind_of t)
data_by t = go (t == 0) (t == 1) (t == 4)
  where
    go : (a b c : Bool) → a ≡ is_data (cond a Data (cond b End (cond c Upper Other)))
    go true b c = refl
    go false true c = refl
    go false false true = refl
    go false false false = refl

pub other_by : (t : ℕ) → other_type t ≡ is_other (kind_of t)
other_by t = go (t == 0) (t == 1) (t == 4)
  where
    go : (a b c : Bool) → not (a || (b || c)) ≡ is_other (cond a Data (cond b End (cond c Upper Other)))
    go true b c = refl
    go false true c = refl
    go false false true = refl
    go false false false = refl

pub other_type_lem : (k : ℕ) → other_type k ≡ (not (k == 0) && (not (k == 1) && not (k == 4)))
other_type_lem k = go (k == 0) (k == 1) (k == 4)
  where
    go : (a b c : Bool) → not (a || (b || c)) ≡ (not a && (not b && not c))
    go true b c = refl
    go false true c = refl
    go false false true = refl
    go false false false = refl

pub and_true : (s : Bool) → (s && true) ≡ s
and_true true = refl
and_true false = refl

pub or_true : (s : Bool) → (s || true) ≡ true
or_true true = refl
or_true false = refl

pub or_false : (s : Bool) → (s || false) ≡ s
or_false true = refl
or_false false = refl

-- whether a byte is a digit, and a digit's value from its bits
abbrev is_digit : ℕ → Bool
is_digit b = within 48 10 b || (within 65 6 b || within 97 6 b)

module _ (b : ℕ) where
  pub digit_value : is_digit b ≡ true → b % 16 + b / 64 * 9 ≡ digit b
  unfolding digit
  digit_value = go (within 48 10 b) refl (within 65 6 b) refl (within 97 6 b) refl
    where
      go : (u : Bool) → within 48 10 b ≡ u → (v : Bool) → within 65 6 b ≡ v → (w : Bool) → within 97 6 b ≡ w
          → (u || (v || w)) ≡ true → b % 16 + b / 64 * 9 ≡ cond u (b - 48) (cond v (b - 55) (cond w (b - 87) 16))
      go true p v q w r e = omega (arith, (within_true 48 10 b p).0, (within_true 48 10 b p).1)
      go false p true q w r e = omega (arith, (within_true 65 6 b q).0, (within_true 65 6 b q).1)
      go false p false q true r e = omega (arith, (within_true 97 6 b r).0, (within_true 97 6 b r).1)
      go false p false q false r e = let z : ◌≡◌ {A = ℕ} 0 1 = cc in absurd (omega arith)

  pub digit_none : is_digit b ≡ false → 16 ≡ digit b
  unfolding digit
  digit_none e =
      let rest : (within 65 6 b || within 97 6 b) ≡ false = or_false_r (within 48 10 b) (within 65 6 b || within 97 6 b) e in
      let d : within 48 10 b ≡ false = or_false_l (within 48 10 b) (within 65 6 b || within 97 6 b) e in
      let u : within 65 6 b ≡ false = or_false_l (within 65 6 b) (within 97 6 b) rest in
      let l : within 97 6 b ≡ false = or_false_r (within 65 6 b) (within 97 6 b) rest in
      rw (d, u, l)

-- ---- the bytes by their places

pairs_at : (l : List ℕ) (i : ℕ) → 2 * i + 1 < length l → slice_index (pairs l) i ≡ pair_at l (2 * i)
unfolding pairs
pairs_at [] i h = absurd (omega arith)
pairs_at (a ∷ []) i h = absurd (omega arith)
pairs_at (a ∷ b ∷ t) zero h = refl
pairs_at (a ∷ b ∷ t) (suc i) h =
    let e : 2 * suc i ≡ suc (suc (2 * i)) = omega arith in
    let f : 2 * suc i + 1 ≡ suc (suc (2 * i + 1)) = omega arith in
    pairs_at t i (omega arith) ∙ rw (f, e)

drop_pairs : (k : ℕ) (l : List ℕ) → drop k (pairs l) ≡ pairs (drop (2 * k) l)
unfolding pairs
drop_pairs zero l = refl
drop_pairs (suc k) [] = let e : 2 * suc k ≡ suc (suc (2 * k)) = omega arith in rw e
drop_pairs (suc k) (a ∷ []) = let e : 2 * suc k ≡ suc (suc (2 * k)) = omega arith in rw e
drop_pairs (suc k) (a ∷ b ∷ t) = let e : 2 * suc k ≡ suc (suc (2 * k)) = omega arith in drop_pairs k t ∙ rw e

pub take_pairs : (k : ℕ) (l : List ℕ) → take k (pairs l) ≡ pairs (take (2 * k) l)
unfolding pairs
take_pairs zero l = refl
take_pairs (suc k) [] = let e : 2 * suc k ≡ suc (suc (2 * k)) = omega arith in rw e
take_pairs (suc k) (a ∷ []) = let e : 2 * suc k ≡ suc (suc (2 * k)) = omega arith in rw e
take_pairs (suc k) (a ∷ b ∷ t) = let e : 2 * suc k ≡ suc (suc (2 * k)) = omega arith in rw (e, take_pairs k t)

pub length_pairs : (n : ℕ) (l : List ℕ) → length l ≡ 2 * n → length (pairs l) ≡ n
unfolding pairs
length_pairs zero [] h = refl
length_pairs (suc n) [] h = absurd (omega arith)
length_pairs zero (a ∷ []) h = absurd (omega arith)
length_pairs (suc n) (a ∷ []) h = absurd (omega arith)
length_pairs zero (a ∷ b ∷ t) h = absurd (omega arith)
length_pairs (suc n) (a ∷ b ∷ t) h = ap suc (length_pairs n t (omega arith))

pub digits_at : (l : List ℕ) (i : ℕ) → all_digits l ≡ true → i < length l → digit (slice_index l i) < 16
unfolding all_digits
digits_at [] i e h = absurd (omega arith)
digits_at (b ∷ t) zero e h = ltb-true (digit b) 16 (and_true_l (nat_lt (digit b) 16) (all_digits t) e)
digits_at (b ∷ t) (suc i) e h = digits_at t i (and_true_r (nat_lt (digit b) 16) (all_digits t) e) (omega arith)

-- digits of a part
pub digits_drop : (k : ℕ) (l : List ℕ) → all_digits l ≡ true → all_digits (drop k l) ≡ true
unfolding all_digits
digits_drop zero l e = e
digits_drop (suc k) [] e = refl
digits_drop (suc k) (b ∷ t) e = digits_drop k t (and_true_r (nat_lt (digit b) 16) (all_digits t) e)

pub digits_take : (k : ℕ) (l : List ℕ) → all_digits l ≡ true → all_digits (take k l) ≡ true
unfolding all_digits
digits_take zero l e = refl
digits_take (suc k) [] e = refl
digits_take (suc k) (b ∷ t) e = rw (and_true_l (nat_lt (digit b) 16) (all_digits t) e) (digits_take k t (and_true_r (nat_lt (digit b) 16) (all_digits t) e))

module _ (line : List ℕ) where
  -- byte i of a record has its digits at places 2i + 1 and 2i + 2 of the line
  pub byte_is : (i : ℕ) → 2 * i + 2 < length line → slice_index (bytes line) i ≡ pair_at line (2 * i + 1)
  unfolding bytes
  byte_is i h =
      let e : 1 + 2 * i ≡ 2 * i + 1 = omega arith in
      let f : 1 + (2 * i + 1) ≡ 2 * i + 1 + 1 = omega arith in
      pairs_at (drop 1 line) i (omega (arith, length-drop 1 line)) ∙ rw (get_or-drop 1 line (2 * i) 0, get_or-drop 1 line (2 * i + 1) 0, e, f)

  -- the digits of n data begin at place 9
  pub data_from : (n : ℕ) → take n (drop 4 (bytes line)) ≡ pairs (take (2 * n) (drop 9 line))
  unfolding bytes
  data_from n = ap (take n) (drop_pairs 4 (drop 1 line) ∙ rw (drop-drop 8 1 line)) ∙ take_pairs n (drop 9 line)

  -- one byte and the rest
  pub pairs_next : (at : ℕ) → at + 1 < length line → pairs (drop at line) ≡ pair_at line at ∷ pairs (drop (at + 2) line)
  unfolding pairs
  pairs_next at h = let e : suc (suc at) ≡ at + 2 = omega arith in rw (drop-cons line at 0 (omega arith), drop-cons line (suc at) 0 (omega arith), add-one at, e)

  pub digits_next : (at : ℕ) → at + 1 < length line → all_digits (drop at line) ≡ (nat_lt (digit (slice_index line at)) 16 && (nat_lt (digit (slice_index line (at + 1))) 16 && all_digits (drop (at + 2) line)))
  unfolding all_digits
  digits_next at h = let e : suc (suc at) ≡ at + 2 = omega arith in rw (drop-cons line at 0 (omega arith), drop-cons line (suc at) 0 (omega arith), add-one at, ← e)

-- ---- the loop that scans digits, two a round

-- what is left to be looked at decides the rest
pub record Scanning (l rest : List ℕ) (good : Bool) (sum : ℕ) : Type 0 where
  pub even : length rest % 2 ≡ 0
  pub small : sum < 256
  pub digits_left : (good && all_digits rest) ≡ all_digits l
  pub sum_left : (sum + total (pairs rest)) % 256 ≡ total (pairs l) % 256

and_rest : (s a b t : Bool) → ((s && (a && b)) && t) ≡ (s && (a && (b && t)))
and_rest true true b t = refl
and_rest true false b t = refl
and_rest false a b t = refl

pub scan_step : (l rest pair left : List ℕ) (good : Bool) (sum next : ℕ) → Scanning l rest good sum → rest ≡ pair ++ left → length pair ≡ 2
    → next ≡ (sum + pair_at pair 0 % 256) % 256
    → Scanning l left (good && (nat_lt (digit (slice_index pair 0)) 16 && nat_lt (digit (slice_index pair 1)) 16)) next
unfolding all_digits pairs total
scan_step l rest [] left good sum next inv e two s = absurd (omega arith)
scan_step l rest (a ∷ []) left good sum next inv e two s = absurd (omega arith)
scan_step l rest (a ∷ b ∷ c ∷ t) left good sum next inv e two s = absurd (omega arith)
scan_step l rest (a ∷ b ∷ []) left good sum next inv e two s = record {
  even = let z : length rest ≡ 2 + length left = rw e (omega arith) in omega (arith, inv.even);
  small = omega arith;
  digits_left = and_rest good (nat_lt (digit a) 16) (nat_lt (digit b) 16) (all_digits left) ∙ rw e at inv.digits_left;
  sum_left = let z : (sum + (digit a * 16 + digit b + total (pairs left))) % 256 ≡ total (pairs l) % 256 = rw e at inv.sum_left in omega arith;
}

pub scan_end : (l rest : List ℕ) (good : Bool) (sum : ℕ) → Scanning l rest good sum → length rest < 2 → cond good (Some sum) None ≡ scanned l
unfolding scanned all_digits pairs total
scan_end l [] good sum inv h =
    let d : good ≡ all_digits l = sym (and_true good) ∙ inv.digits_left in
    let s : sum ≡ total (pairs l) % 256 = omega (arith, inv.sum_left, inv.small) in
    rw (d, s)
scan_end l (a ∷ []) good sum inv h = absurd (omega (arith, inv.even))
scan_end l (a ∷ b ∷ t) good sum inv h = absurd (omega arith)
