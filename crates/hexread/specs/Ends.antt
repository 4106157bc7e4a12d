-- Where the record of the line that begins at a place ends, and that these records, one after the other, are
-- `record_lines`.
-- Assumes nothing.
use Rattle.std.specs.Prelude.{◌≡◌, ℕ, zero, suc, ◌+◌, ◌-◌, ◌<◌, ◌≤◌, Bool, true, false, cond, ◌&&◌, List, [], ◌∷◌, length, take, drop, ◌==◌, ◌≢◌, nat_lt, slice_index, Option, Some, None}
use Rattle.std.proofs.Math.Path.{refl}
use Rattle.std.proofs.Common.{sym, ap, ◌∙◌, drop_of_length-le, length-take-le}
use Rattle.std.proofs.lemmas.List.{take_rest}
use native.Mathlib.Omega.{arith}
use Rattle.std.proofs.Math.Decide.{dec_lt}
use borrow.Author.Tests.{eq-eqb, ne_eqb, lt-ltb, le-ltb, eqb-true, eqb-false}
use Rattle.std.specs.Iterator.{YieldsFirstRef}
use denote.Ref.{Bor}
use Rattle.hexread.specs.declared.Records.{Records}
use Rattle.lines.specs.declared.Taken.{Taken}
use Rattle.lines.specs.Lines.{front, before_lf, line_end, line_next, taken_at, end_within, next_past, next_none, next_later}
use Rattle.intelhex.specs.Records.{record_lines}

-- where the record of a line ends: before a CR, where the LF comes after it
unfoldable pub record_end : List ℕ → ℕ → ℕ
record_end text to = cond (nat_lt to (length text) && (nat_lt 0 to && slice_index text (to - 1) == 13)) (to - 1) to

-- ---- its cases

module _ (text : List ℕ) (to : ℕ) where
  pub end_cr : to < length text → 0 < to → slice_index text (to - 1) ≡ 13 → record_end text to ≡ to - 1
  unfolding record_end
  end_cr h k e = rw (lt-ltb to (length text) h, lt-ltb 0 to k, eq-eqb (slice_index text (to - 1)) 13 e)

  pub end_last : length text ≤ to → record_end text to ≡ to
  unfolding record_end
  end_last h = rw (le-ltb to (length text) h)

  pub end_empty : to ≤ 0 → record_end text to ≡ to
  unfolding record_end
  end_empty h = rw (le-ltb 0 to h) (go (nat_lt to (length text)))
    where
      go : (v : Bool) → cond (v && false) (to - 1) to ≡ to
      go true = refl
      go false = refl

  pub end_plain : (slice_index text (to - 1) ≢ 13) → record_end text to ≡ to
  unfolding record_end
  end_plain e = rw (ne_eqb (slice_index text (to - 1)) 13 e) (go (nat_lt to (length text)) (nat_lt 0 to))
    where
      go : (v w : Bool) → cond (v && (w && false)) (to - 1) to ≡ to
      go true true = refl
      go true false = refl
      go false w = refl

  -- it lies within the line
  pub end_inside : record_end text to ≤ to
  unfolding record_end
  end_inside = go (nat_lt to (length text) && (nat_lt 0 to && slice_index text (to - 1) == 13))
    where
      go : (v : Bool) → cond v (to - 1) to ≤ to
      go true = omega arith
      go false = omega arith

-- ---- the lines

-- one byte more before a line
later : (b : ℕ) (t : List ℕ) (m : ℕ) → record_end (b ∷ t) (suc (suc m)) ≡ suc (record_end t (suc m))
later b t m = go (dec_lt (suc m) (length t)) (slice_index t m == 13) refl
  where
    up : suc (suc m) - 1 ≡ suc m
    up = omega arith

    same : suc m - 1 ≡ m
    same = omega arith

    go : Dec (suc m < length t) → (v : Bool) → (slice_index t m == 13) ≡ v → record_end (b ∷ t) (suc (suc m)) ≡ suc (record_end t (suc m))
    go (no h) v e = end_last (b ∷ t) (suc (suc m)) (omega arith) ∙ ap suc (sym (end_last t (suc m) (omega arith)))
    go (yes h) true e =
        end_cr (b ∷ t) (suc (suc m)) (omega arith) (omega arith) (rw up (eqb-true _ _ e))
        ∙ rw up (ap suc (sym same))
        ∙ ap suc (sym (end_cr t (suc m) h (omega arith) (rw same (eqb-true _ _ e))))
    go (yes h) false e = end_plain (b ∷ t) (suc (suc m)) (rw up (eqb-false _ _ e)) ∙ ap suc (sym (end_plain t (suc m) (rw same (eqb-false _ _ e))))

end_shift : (b : ℕ) (t : List ℕ) (k : ℕ) → (k ≡ 0 → b ≢ 13) → record_end (b ∷ t) (suc k) ≡ suc (record_end t k)
end_shift b t zero h = end_plain (b ∷ t) 1 (h refl) ∙ ap suc (sym (end_empty t 0 (omega arith)))
end_shift b t (suc m) h = later b t m

-- an LF stands first
before_here : (a : ℕ) (u : List ℕ) → a ≡ 10 → before_lf (a ∷ u) ≡ 0
unfolding before_lf
before_here a u e = rw (eq-eqb a 10 e)

before_later : (a : ℕ) (u : List ℕ) → (a ≢ 10) → before_lf (a ∷ u) ≢ 0
unfolding before_lf
before_later a u e = rw (ne_eqb a 10 e) (λ h. omega (arith, h))

-- the first record of a text, of which k bytes stand before the first LF, and the others
abbrev Split : List ℕ → ℕ → Type 0
Split l k = record_lines l ≡ take (record_end l k) l ∷ record_lines (drop (suc k) l)

-- a byte that ends no line
byte_first : (b : ℕ) (t : List ℕ) → (b ≢ 10) → (b ≡ 13 → slice_index t 0 ≢ 10) → record_lines (b ∷ t) ≡ front b (record_lines t)
unfolding record_lines
byte_first b t n m = rw (ne_eqb b 10 n) (go (b == 13) refl (slice_index t 0 == 10) refl)
  where
    go : (v : Bool) → (b == 13) ≡ v → (w : Bool) → (slice_index t 0 == 10) ≡ w → cond (v && w) (record_lines t) (front b (record_lines t)) ≡ front b (record_lines t)
    go true e true f = absurd (m (eqb-true b 13 e) (eqb-true (slice_index t 0) 10 f))
    go true e false f = refl
    go false e w f = refl

before_next : (b : ℕ) (t : List ℕ) → (b ≢ 10) → before_lf (b ∷ t) ≡ suc (before_lf t)
unfolding before_lf
before_next b t e = rw (ne_eqb b 10 e)

-- a text that begins with a byte, by the byte and by the first of those after it
at_lf : (b : ℕ) (t : List ℕ) → b ≡ 10 → Split (b ∷ t) (before_lf (b ∷ t))
unfolding record_lines
at_lf b t e = rw (before_here b t e, eq-eqb b 10 e, end_empty (b ∷ t) 0 (omega arith))

at_cr_lf : (b a : ℕ) (u : List ℕ) → b ≡ 13 → a ≡ 10 → Split (b ∷ a ∷ u) (before_lf (b ∷ a ∷ u))
unfolding record_lines
at_cr_lf b a u e f =
    let n : (b ≢ 10) = λ g. omega arith in
    rw (before_next b (a ∷ u) n, before_here a u f, ne_eqb b 10 n, eq-eqb b 13 e, eq-eqb a 10 f, end_cr (b ∷ a ∷ u) 1 (omega arith) (omega arith) e)

at_byte : (b : ℕ) (t : List ℕ) → (b ≢ 10) → (b ≡ 13 → slice_index t 0 ≢ 10) → (before_lf t ≡ 0 → b ≢ 13)
    → Split t (before_lf t) → Split (b ∷ t) (before_lf (b ∷ t))
at_byte b t n m z rest = byte_first b t n m ∙ ap (front b) rest ∙ rw (before_next b t n, end_shift b t (before_lf t) z)

one : (b : ℕ) → front b (record_lines []) ≡ take (record_end (b ∷ []) (suc (before_lf []))) (b ∷ []) ∷ record_lines (drop (suc (suc (before_lf []))) (b ∷ []))
unfolding before_lf record_lines
one b = rw (end_last (b ∷ []) 1 (omega arith))

-- a byte that stands alone
last : (b : ℕ) → (b ≢ 10) → Split (b ∷ []) (before_lf (b ∷ []))
last b n = byte_first b [] n (λ p q. omega arith) ∙ rw (before_next b [] n) (one b)

-- a text that is not empty is its first record, and the records after its first LF
split : (b : ℕ) (t : List ℕ) → Split (b ∷ t) (before_lf (b ∷ t))
split b [] = alone (b == 10) refl
  where
    alone : (v : Bool) → (b == 10) ≡ v → Split (b ∷ []) (before_lf (b ∷ []))
    alone true e = at_lf b [] (eqb-true b 10 e)
    alone false e = last b (eqb-false b 10 e)
split b (a ∷ u) = go (b == 10) refl (b == 13) refl (a == 10) refl (split a u)
  where
    go : (v : Bool) → (b == 10) ≡ v → (w : Bool) → (b == 13) ≡ w → (x : Bool) → (a == 10) ≡ x
        → Split (a ∷ u) (before_lf (a ∷ u)) → Split (b ∷ a ∷ u) (before_lf (b ∷ a ∷ u))
    go true e w f x g rest = at_lf b (a ∷ u) (eqb-true b 10 e)
    go false e true f true g rest = at_cr_lf b a u (eqb-true b 13 f) (eqb-true a 10 g)
    go false e true f false g rest = let n : (a ≢ 10) = eqb-false a 10 g in at_byte b (a ∷ u) (eqb-false b 10 e) (λ p q. n q) (λ p q. before_later a u n p) rest
    go false e false f x g rest = let n : (b ≢ 13) = eqb-false b 13 f in at_byte b (a ∷ u) (eqb-false b 10 e) (λ p q. n p) (λ p q. n q) rest

-- what is taken at the head of a text: its first record, and the records from the next line on
pub records_next : (text : List ℕ) → 0 < length text
    → record_lines text ≡ take (record_end text (line_end text 0)) text ∷ record_lines (drop (line_next text 0) text)
unfolding line_end
records_next [] h = absurd (omega arith)
records_next (b ∷ t) h = go (dec_lt (line_end text 0) (length text))
  where
    text : List ℕ
    text = b ∷ t

    k : ℕ
    k = before_lf text

    size : 0 + k ≡ k
    size = omega arith

    go : Dec (line_end text 0 < length text) → record_lines text ≡ take (record_end text (line_end text 0)) text ∷ record_lines (drop (line_next text 0) text)
    go (yes p) = split b t ∙ rw (size, next_past text 0 p) (let e : suc k ≡ line_end text 0 + 1 = omega arith in rw e)
    go (no p) =
        split b t
        ∙ rw (size, next_none text 0 (omega arith), drop_of_length-le text {i = suc k} (omega arith), drop_of_length-le text {i = 0 + k} (omega arith))

-- each has at least one byte of the text
pub records_few : (text : List ℕ) → length (record_lines text) ≤ length text
unfolding record_lines
records_few [] = omega arith
records_few (b ∷ t) = go (b == 10) (b == 13 && slice_index t 0 == 10) (record_lines t) (records_few t)
  where
    go : (u v : Bool) (ls : List (List ℕ)) → length ls ≤ length t → length (cond u ([] ∷ ls) (cond v ls (front b ls))) ≤ suc (length t)
    go true v ls h = omega arith
    go false true ls h = omega arith
    go false false [] h = omega arith
    go false false (l ∷ ls) h = omega arith

pub no_records : (text : List ℕ) → length text ≡ 0 → record_lines text ≡ []
unfolding record_lines
no_records [] e = refl
no_records (b ∷ t) e = absurd (omega arith)

-- the same by what the code has of the line
module _ (text : List ℕ) (t : Taken) (h : 0 < length text) (e : t ≡ taken_at text 0) where
  pub taken_end : t.to ≤ length text
  taken_end = rw e (end_within text 0 (omega arith))

  pub taken_next : t.next ≤ length text
  taken_next = rw e (next_later text 0 h).1

  module _ (to : ℕ) (f : to ≡ record_end text t.to) where
    pub record_length : to ≡ length (take to text)
    record_length = sym (length-take-le to text (omega (arith, f, end_inside text t.to, taken_end)))

    pub records_step : record_lines text ≡ take to text ∷ record_lines (take (length text - t.next) (drop t.next text))
    records_step = rw (f, e, take_rest) (records_next text h)

-- ---- the iterator over them

module _ (s t : Records) (r : Option (Bor (List ℕ))) (steps : YieldsFirstRef (λ (s : Records). record_lines s.rest.now) s r t) where
  pub records_more : (x : Bor (List ℕ)) → r ≡ Some x → record_lines s.rest.now ≡ x.now ∷ record_lines t.rest.now
  records_more x e = rw e at steps

  pub records_end : r ≡ None → record_lines s.rest.now ≡ []
  records_end e = (rw e at steps).0
