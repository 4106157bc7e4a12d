-- The loop that writes what an accepted text names, line by line. Assumes nothing.
use Rattle.std.specs.Prelude.{◌≡◌, ℕ, suc, ◌+◌, ◌-◌, ◌*◌, ◌/◌, ◌<◌, ◌≤◌, Bool, true, false, cond, not, ◌&&◌, ◌||◌, ltb, List, [], ◌∷◌, ◌++◌, length, drop, ◌==◌, ◌≢◌, nat_lt, slice_index, slice_range, slice_set, take, refl, Option, Some, None}
use Rattle.std.proofs.Common.{sym, ap, ◌∙◌, drop-drop, length-set, length-drop, length-take-le, eq-eqb, ne_eqb, eqb-true, ltb-true, ltb-false}
use native.Mathlib.Omega.{arith}
use Rattle.std.specs.Option.{option_or}
use Rattle.refusal.specs.declared.Refusal.{Refusal}
use Rattle.refusal.specs.declared.Refusal.TheVariants.{NoEndRecord}
use Rattle.semantics.specs.Tests.{or_false_l, and_true_l, and_true_r}
use Rattle.semantics.specs.Tabulate.{length_tabulate}
use Rattle.intelhex.specs.Records.{digit, all_digits, pairs, bytes, count, offset, kind, data_of, is_end, other_type, upper_after}
use Rattle.intelhex.specs.Records.{word_after, record_refusal, refusal_from, Named, named_from, named_by, named}
use Rattle.intelhex.specs.Records.{words_after, size}
use Rattle.intelhex.specs.Bytes.{Small}
use Rattle.intelhex.proofs.Bytes.{small_none, small_cons, small_take, small_drop}
use Rattle.hexread.specs.declared.Record.TheVariants.{Names, Ends, Moves}
use Rattle.hexread.specs.Bytes.{data_by, data_from, digits_drop, digits_take, record_of}
use Rattle.hexread.specs.Refusals.{Good, good_if, data_length, long_enough, long_upper}
use Rattle.hexread.specs.Put.{with_byte, put_none, put_byte}
use Rattle.hexread.specs.Storing.{Storable}
use Rattle.hexread.specs.Judging.{ends_is, moves_is, names_is, on_by, on_four}

-- ---- bytes of one record, and of others after it

small_pairs : (l : List ℕ) → all_digits l ≡ true → Small (pairs l)
unfolding all_digits pairs
small_pairs [] e = small_none
small_pairs (a ∷ []) e = small_none
small_pairs (a ∷ b ∷ t) e =
    let rest : (nat_lt (digit b) 16 && all_digits t) ≡ true = and_true_r (nat_lt (digit a) 16) (nat_lt (digit b) 16 && all_digits t) e in
    let high : digit a < 16 = ltb-true (digit a) 16 (and_true_l (nat_lt (digit a) 16) (nat_lt (digit b) 16 && all_digits t) e) in
    let low : digit b < 16 = ltb-true (digit b) 16 (and_true_l (nat_lt (digit b) 16) (all_digits t) rest) in
    small_cons (digit a * 16 + digit b) (pairs t) (omega arith) (small_pairs t (and_true_r (nat_lt (digit b) 16) (all_digits t) rest))

small_bytes : (line : List ℕ) → all_digits (drop 1 line) ≡ true → Small (bytes line)
unfolding bytes
small_bytes line e = small_pairs (drop 1 line) e

words_length : (l : List Named) (ws : List ℕ) → length (words_after l ws) ≡ length ws
unfolding words_after
words_length l ws = length_tabulate (length ws) (word_after l ws)

-- the bytes of a record, and then others, are put one after the other
words_from : (a : ℕ) (bs : List ℕ) (l : List Named) (ws : List ℕ) → Small bs → (0 < length bs → a + length bs ≤ 2 * length ws)
    → words_after (named_from a bs ++ l) ws ≡ words_after l (words_after (named_from a bs) ws)
unfolding named_from
words_from a [] l ws small room = rw put_none
words_from a (b ∷ t) l ws small room =
    let fits : a + suc (length t) ≤ 2 * length ws = room (omega arith) in
    let inside : a / 2 < length ws = omega arith in
    let after : List ℕ = slice_set ws (a / 2) (with_byte (slice_index ws (a / 2)) a b) in
    put_byte (named_from (a + 1) t ++ l) ws a b inside (small 0)
    ∙ words_from (a + 1) t l after (λ i. small (suc i)) (λ h. omega (arith, length-set ws (a / 2) (with_byte (slice_index ws (a / 2)) a b)))
    ∙ ap (words_after l) (sym (put_byte (named_from (a + 1) t) ws a b inside (small 0)))

-- ---- a good record of an accepted text

-- the type is 00, 01 or 04
type_data : (k : ℕ) → other_type k ≡ false → (k ≢ 1) → (k ≢ 4) → k ≡ 0
type_data k e n m = go (k == 0) refl
  where
    go : (t : Bool) → (k == 0) ≡ t → k ≡ 0
    go true q = eqb-true k 0 q
    go false q = let z : ◌≡◌ {A = Bool} true false = rw (q, ne_eqb k 1 n, ne_eqb k 4 m) at e in cc

-- the digits of the data of a good record, which the loop that stores them asks for
module _ (n upper : ℕ) (line : List ℕ) (array : List ℕ) (good : Good n upper line) (e : n ≡ 2 * length array) (z : kind line ≡ 0) where
  abbrev digits : List ℕ
  digits = slice_range line 9 (9 + 2 * count line)

  cut : digits ≡ take (2 * count line) (drop 9 line)
  cut = let m : 9 + 2 * count line - 9 ≡ 2 * count line = omega arith in rw m

  pub digits_length : length digits ≡ 2 * count line
  digits_length = rw cut (length-take-le (2 * count line) (drop 9 line) (omega (arith, length-drop 9 line, good.formed.size)))

  pub digits_are : pairs digits ≡ data_of line
  digits_are = rw (cut, ← data_from line (count line))

  pub storable : Storable digits (upper * 65536 + offset line) array
  storable = record {
    even = omega (arith, digits_length);
    digits_only = rw (cut, ← drop-drop 8 1 line) (digits_take (2 * count line) (drop 8 (drop 1 line)) (digits_drop 8 (drop 1 line) good.formed.digits));
    room = λ h. go (omega (arith, h, digits_length));
  }
    where
      inside : ((kind line == 0 && (not (count line == 0) && nat_lt n (upper * 65536 + offset line + count line))) || nat_lt 65536 (offset line + count line)) ≡ false
      inside = rw (← data_by (kind line)) at good.inside

      go : 0 < count line → upper * 65536 + offset line + length digits / 2 ≤ 2 * length array
      go h =
          let first : (kind line == 0 && (not (count line == 0) && nat_lt n (upper * 65536 + offset line + count line))) ≡ false = or_false_l _ _ inside in
          let last : ltb n (upper * 65536 + offset line + count line) ≡ false = rw (eq-eqb (kind line) 0 z, ne_eqb (count line) 0 (λ q. omega arith)) at first in
          omega (arith, digits_length, ltb-false n (upper * 65536 + offset line + count line) last)

-- ---- the loop

-- the records that are left are accepted, and make of the array what all of them make of it as it was
pub record Filling (all : List (List ℕ)) (before after : List ℕ) (rest : List (List ℕ)) (upper : ℕ) : Type 0 where
  pub same : length after ≡ length before
  pub low : upper < 65536
  pub good : refusal_from (size before) upper rest ≡ None
  pub left : words_after (named upper rest) after ≡ words_after (named 0 all) before

pub fill_start : (all : List (List ℕ)) (before : List ℕ) → refusal_from (size before) 0 all ≡ None → Filling all before before all 0
fill_start all before e = record { same = refl; low = omega arith; good = e; left = refl }

-- the text does not end before its end record
pub fill_none : (all : List (List ℕ)) (before after : List ℕ) (upper : ℕ) → Filling all before after [] upper → ⊥
unfolding refusal_from
fill_none all before after upper inv = let z : ◌≡◌ {A = Option Refusal} (Some NoEndRecord) None = inv.good in cc

accepted_first : (n upper : ℕ) (l : List ℕ) (ls : List (List ℕ)) → refusal_from n upper (l ∷ ls) ≡ None → record_refusal n upper l ≡ None
unfolding refusal_from
accepted_first n upper l ls = go (record_refusal n upper l)
  where
    go : (o : Option Refusal) → option_or o (cond (is_end l) None (refusal_from n (upper_after upper l) ls)) ≡ None → o ≡ None
    go None e = refl
    go (Some r) e = e

accepted_rest : (n upper : ℕ) (l : List ℕ) (ls : List (List ℕ)) → refusal_from n upper (l ∷ ls) ≡ None → is_end l ≡ false → refusal_from n (upper_after upper l) ls ≡ None
unfolding refusal_from
accepted_rest n upper l ls e f = rw (accepted_first n upper l ls e, f) at e

named_end : (upper : ℕ) (l : List ℕ) (ls : List (List ℕ)) → is_end l ≡ true → named upper (l ∷ ls) ≡ []
unfolding named
named_end upper l ls e = rw e

named_on : (upper : ℕ) (l : List ℕ) (ls : List (List ℕ)) → is_end l ≡ false → named upper (l ∷ ls) ≡ named_by upper l ++ named (upper_after upper l) ls
unfolding named
named_on upper l ls e = rw e

by_data : (upper : ℕ) (l : List ℕ) → kind l ≡ 0 → named_by upper l ≡ named_from (upper * 65536 + offset l) (data_of l)
unfolding named_by
by_data upper l e = rw e

by_other : (upper : ℕ) (l : List ℕ) → (kind l ≢ 0) → named_by upper l ≡ []
unfolding named_by
by_other upper l e = rw (ne_eqb (kind l) 0 e)

module _ (all : List (List ℕ)) (before after : List ℕ) (upper : ℕ) (line : List ℕ) (next : List (List ℕ)) (inv : Filling all before after (line ∷ next) upper) where
  pub good_line : Good (size before) upper line
  good_line = good_if (size before) upper line (accepted_first (size before) upper line next inv.good)

  pub fill_end : Ends ≡ record_of line → after ≡ words_after (named 0 all) before
  fill_end e = sym (put_none after) ∙ rw (named_end upper line next (rw (ends_is line e))) at inv.left

  module _ (on : is_end line ≡ false) where
    rest : refusal_from (size before) (upper_after upper line) next ≡ None
    rest = accepted_rest (size before) upper line next inv.good on

    left_here : words_after (named_by upper line ++ named (upper_after upper line) next) after ≡ words_after (named 0 all) before
    left_here = rw (named_on upper line next on) at inv.left

  -- data
  module _ {o n : ℕ} (e : Names o n ≡ record_of line) where
    is_data : kind line ≡ 0
    is_data = type_data (kind line) good_line.type (names_is line e).0 (names_is line e).1

    pub fill_storable : Storable (slice_range line 9 (9 + 2 * n)) (upper * 65536 + o) after
    fill_storable =
        let is = names_is line e in
        rw (is.2, is.3) (storable (size before) upper line after good_line (ap (λ (k : ℕ). 2 * k) (sym inv.same)) is_data)

    pub fill_within : 9 + 2 * n ≤ length line
    fill_within = omega (arith, (names_is line e).3, good_line.formed.size)

    pub fill_data : (new : List ℕ) → new ≡ words_after (named_from (upper * 65536 + o) (pairs (slice_range line 9 (9 + 2 * n)))) after → Filling all before new next upper
    fill_data new f =
        let is = names_is line e in
        let on = on_by line upper is.0 is.1 in
        let wide : size before ≡ 2 * length after = ap (λ (k : ℕ). 2 * k) (sym inv.same) in
        let able = storable (size before) upper line after good_line wide is_data in
        let long = digits_length (size before) upper line after good_line wide is_data in
        let small : Small (data_of line) = small_take (count line) (drop 4 (bytes line)) (small_drop 4 (bytes line) (small_bytes line good_line.formed.digits)) in
        let many : length (data_of line) ≡ count line = data_length 0 0 line good_line.formed.size in
        let put : words_after (named_by upper line ++ named upper next) after ≡ words_after (named upper next) new =
        rw (f, is.2, is.3, by_data upper line is_data, digits_are (size before) upper line after good_line wide is_data)
        (words_from (upper * 65536 + offset line) (data_of line) (named upper next) after small (λ h. omega (arith, many, long, able.room (omega (arith, h, many, long))))) in
        record {
          same = ap length f ∙ words_length (named_from (upper * 65536 + o) (pairs (slice_range line 9 (9 + 2 * n)))) after ∙ inv.same;
          low = inv.low;
          good = rw on.1 at (rest on.0);
          left = sym put ∙ rw on.1 at (left_here on.0);
        }

  -- an upper half
  pub fill_moves : {u : ℕ} → Moves u ≡ record_of line → Filling all before after next u
  fill_moves e =
      let is = moves_is line e in
      let on = on_four line upper is.0 in
      let small : Small (bytes line) = small_bytes line good_line.formed.digits in
      record {
        same = inv.same;
        low = omega (arith, is.1, small 4, small 5);
        good = rw (on.1, ← is.1) at (rest on.0);
        left = rw (on.1, ← is.1, by_other upper line (λ z. omega (arith, is.0))) at (left_here on.0);
      }

  pub line_long : 11 ≤ length line
  line_long = long_enough line good_line.formed

  pub line_upper : kind line ≡ 4 → 13 ≤ length line
  line_upper e = long_upper line good_line.formed e
