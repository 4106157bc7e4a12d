-- Reading a written record: its line, its bytes, that it is not refused, and what it names. Then a text of such records, whatever follows it.
-- Assumes nothing.
use Prim.Native.Nat.{ℕ, ◌+◌, ◌*◌, ◌/◌, ◌%◌, ◌<◌, ◌≤◌}
use Rattle.std.specs.Prelude.{true, false, cond, not, ◌≡◌, refl, eqb, length, None}
use mathlib.Core.List.{List, [], ◌∷◌, ◌++◌, append_assoc, append-nil}
use Rattle.std.proofs.Common.{ap, ◌∙◌, arith}
use Rattle.std.proofs.Math.ListN.{length-append}
use Rattle.std.proofs.Math.Seq.{take_at}
use borrow.Author.Tests.{eq-eqb, ne_eqb, lt-leb, le-ltb}
use Rattle.lines.specs.Lines.{front}
use Rattle.printing.specs.Text.{digit_of}
use Rattle.intelhex.specs.Records.{record_lines, digit, all_digits, pairs, bytes, is_end, shaped, other_type, malformed, total, sum_wrong, Named, named_from, named_by, outside, record_refusal, upper_after, refusal_from, lines_from, named}
use Rattle.intelhex.specs.Text.{digits_of, check_of, record_text, data_record, upper_record, end_record}
use Rattle.intelhex.specs.Sizes.{length_digits_of}
use Rattle.intelhex.specs.Bytes.{Small}
use Rattle.intelhex.proofs.Bytes.{small_none, small_cons, small_append, digit_late, digits_back, total_append}
use Rattle.intelhex.specs.Recorded.{checked, line_of, Read, Whole}

-- ---- the line of a record

-- a byte after CR and LF in the order of bytes is one of its line
line_byte : (b : ℕ) (t : List ℕ) → 13 < b → record_lines (b ∷ t) ≡ front b (record_lines t)
unfolding record_lines
line_byte b t h = rw (ne_eqb b 10 (λ e. omega arith), ne_eqb b 13 (λ e. omega arith))

-- digits up to LF are one line, and so is a record
line_digits : (bs rest : List ℕ) → record_lines (digits_of bs ++ (10 ∷ []) ++ rest) ≡ digits_of bs ∷ record_lines rest
unfolding digits_of record_lines
line_digits [] rest = refl
line_digits (b ∷ t) rest =
    line_byte (digit_of (b / 16)) (digit_of (b % 16) ∷ (digits_of t ++ (10 ∷ []) ++ rest)) (digit_late (b / 16))
    ∙ ap (front (digit_of (b / 16)))
    (line_byte (digit_of (b % 16)) (digits_of t ++ (10 ∷ []) ++ rest) (digit_late (b % 16)) ∙ ap (front (digit_of (b % 16))) (line_digits t rest))

pub line_record : (bs rest : List ℕ) → record_lines (record_text bs ++ rest) ≡ line_of bs ∷ record_lines rest
unfolding record_text
line_record bs rest = line_byte 58 (digits_of (checked bs) ++ (10 ∷ []) ++ rest) (omega arith) ∙ ap (front 58) (line_digits (checked bs) rest)

module _ (bs : List ℕ) (small : Small bs) where
  checked_back : (all_digits (digits_of (checked bs)) ≡ true) × (pairs (digits_of (checked bs)) ≡ checked bs)
  checked_back = digits_back (checked bs) (small_append bs (check_of bs ∷ []) small (small_cons (check_of bs) [] (omega arith) small_none))

  line_bytes : bytes (line_of bs) ≡ checked bs
  unfolding bytes
  line_bytes = checked_back.1

  line_sum : sum_wrong (line_of bs) ≡ false
  unfolding sum_wrong total
  line_sum = rw (line_bytes, total_append bs (check_of bs ∷ []), eq-eqb ((total bs + (check_of bs + 0)) % 256) 0 (omega arith))

-- a record whose first byte is the number of its data bytes
module _ (c o p t : ℕ) (d : List ℕ) (small : Small (c ∷ o ∷ p ∷ t ∷ d)) (size : length d ≡ c) where
  line_malformed : malformed (line_of (c ∷ o ∷ p ∷ t ∷ d)) ≡ not (shaped t (o * 256 + p) c)
  unfolding malformed
  line_malformed =
      let bs : List ℕ = c ∷ o ∷ p ∷ t ∷ d in
      rw (
        line_bytes bs small,
        (checked_back bs small).0,
        eq-eqb (length (line_of bs)) (1 + 2 * (4 + c + 1)) (omega (arith, length_digits_of (checked bs), length-append bs (check_of bs ∷ []))),
      )

  line_names : (upper : ℕ) → named_by upper (line_of (c ∷ o ∷ p ∷ t ∷ d)) ≡ cond (eqb t 0) (named_from (upper * 65536 + (o * 256 + p)) d) []
  unfolding named_by
  line_names upper = rw (line_bytes (c ∷ o ∷ p ∷ t ∷ d) small, take_at d (check_of (c ∷ o ∷ p ∷ t ∷ d) ∷ []) c size)

  -- it is good if its shape, its type and its addresses are
  line_good : (n upper : ℕ) → shaped t (o * 256 + p) c ≡ true → other_type t ≡ false → o * 256 + p + c ≤ 65536
      → outside n (cond (eqb t 0) (named_from (upper * 65536 + (o * 256 + p)) d) []) ≡ false → record_refusal n upper (line_of (c ∷ o ∷ p ∷ t ∷ d)) ≡ None
  unfolding record_refusal
  line_good n upper e f h g =
      rw (line_malformed, e, line_sum (c ∷ o ∷ p ∷ t ∷ d) small, line_names upper, g, line_bytes (c ∷ o ∷ p ∷ t ∷ d) small, f, le-ltb 65536 (o * 256 + p + c) h)

-- bytes that end within the array
outside_none : (n a : ℕ) (bs : List ℕ) → a + length bs ≤ n → outside n (named_from a bs) ≡ false
unfolding outside named_from
outside_none n a [] h = refl
outside_none n a (b ∷ t) h = rw (lt-leb n a (omega arith)) (outside_none n (a + 1) t (omega arith))

-- ---- texts of records

pub read_none : (n upper : ℕ) → Read n upper [] 0 [] upper
read_none n upper = record { refusal = λ rest. refl; line = λ rest. omega arith; names = λ rest. refl }

pub read_then : {n u v w : ℕ} {x y : List ℕ} {j k : ℕ} {l m : List Named} → Read n u x j l v → Read n v y k m w → Read n u (x ++ y) (j + k) (l ++ m) w
read_then {n} {u} {v} {w} {x} {y} {j} {k} {l} {m} p q = record {
  refusal = λ rest. rw (append_assoc x y rest) (p.refusal (y ++ rest) ∙ q.refusal rest);
  line = λ rest. rw (append_assoc x y rest) (omega (arith, p.line (y ++ rest), q.line rest));
  names = λ rest.
      rw (append_assoc x y rest, append_assoc l m (named w (record_lines rest))) (p.names (y ++ rest) ∙ ap (λ (r : List Named). l ++ r) (q.names rest));
}

-- one record that is good and no end
read_record : (bs : List ℕ) {n u v : ℕ} {l : List Named} → record_refusal n u (line_of bs) ≡ None → is_end (line_of bs) ≡ false → named_by u (line_of bs) ≡ l
    → upper_after u (line_of bs) ≡ v → Read n u (record_text bs) 1 l v
unfolding refusal_from lines_from named
read_record bs good on names next = record {
  refusal = λ rest. rw (line_record bs rest, good, on, next);
  line = λ rest. rw (line_record bs rest, good, on, next) (omega arith);
  names = λ rest. rw (line_record bs rest, on, names, next);
}

-- the four bytes before the data
small_head : (c o p t : ℕ) (d : List ℕ) → c < 256 → o < 256 → p < 256 → t < 256 → Small d → Small (c ∷ o ∷ p ∷ t ∷ d)
small_head c o p t d a b e f h = small_cons c (o ∷ p ∷ t ∷ d) a (small_cons o (p ∷ t ∷ d) b (small_cons p (t ∷ d) e (small_cons t d f h)))

pub read_data : (n upper o : ℕ) (d : List ℕ) → Small d → length d < 256 → o < 65536 → o + length d ≤ 65536 → upper * 65536 + o + length d ≤ n
    → Read n upper (data_record o d) 1 (named_from (upper * 65536 + o) d) upper
read_data n upper o d small short low k inside =
    let bs : List ℕ = length d ∷ o / 256 ∷ o % 256 ∷ 0 ∷ d in
    let s : Small bs = small_head (length d) (o / 256) (o % 256) 0 d short (omega arith) (omega arith) (omega arith) small in
    let e : o / 256 * 256 + o % 256 ≡ o = omega arith in
    read_record bs
    (line_good (length d) (o / 256) (o % 256) 0 d s refl n upper refl refl (omega arith) (rw e (outside_none n (upper * 65536 + o) d inside)))
    (rw (line_bytes bs s))
    (line_names (length d) (o / 256) (o % 256) 0 d s refl upper ∙ rw e)
    (rw (line_bytes bs s))

pub read_upper : (n upper v : ℕ) → v < 65536 → Read n upper (upper_record v) 1 [] v
unfolding outside
read_upper n upper v h =
    let d : List ℕ = v / 256 ∷ v % 256 ∷ [] in
    let bs : List ℕ = 2 ∷ 0 ∷ 0 ∷ 4 ∷ d in
    let s : Small bs =
    small_head 2 0 0 4 d (omega arith) (omega arith) (omega arith) (omega arith)
    (small_cons (v / 256) (v % 256 ∷ []) (omega arith) (small_cons (v % 256) [] (omega arith) small_none))
    in
    read_record bs
    (line_good 2 0 0 4 d s refl n upper refl refl (omega arith) refl)
    (rw (line_bytes bs s))
    (line_names 2 0 0 4 d s refl upper)
    (rw (line_bytes bs s) (omega arith))

-- ---- whole texts

-- the end record makes it whole
pub read_whole : {n : ℕ} {text : List ℕ} {k : ℕ} {l : List Named} {upper : ℕ} → Read n 0 text k l upper → Whole n (text ++ end_record) (k + 1) l
unfolding refusal_from lines_from named record_lines record_text digits_of digit_of digit total record_refusal malformed sum_wrong all_digits bytes pairs named_by outside
read_whole {l} r = record { refusal = r.refusal end_record; line = r.line end_record; names = r.names end_record ∙ append-nil l }
