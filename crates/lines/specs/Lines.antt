-- The lines of a text, which is the list of its bytes: document 01, "The script program". Where the line that begins at a place ends, and where the next begins;
-- and that these lines, one after the other, are `lines`.
-- Assumes nothing.
use Rattle.std.specs.Prelude.{ℕ, suc, ◌+◌, ◌-◌, ◌<◌, ◌≤◌, Bool, true, false, cond, List, [], ◌∷◌, ◌≡◌, refl, eqb, ltb, length, get_or, take, drop}
use Rattle.std.proofs.Common.{ap, ◌∙◌, drop_of_length-le, drop-cons, drop-drop}
use native.Mathlib.Omega.{arith}
use Rattle.std.proofs.Math.Decide.{dec_lt}
use Rattle.std.proofs.Math.ListN.{length-drop}
use borrow.Author.Tests.{eq-eqb, ne_eqb, lt-ltb, le-ltb}
use Rattle.lines.specs.declared.Taken.{Taken}

-- ---- definitions

-- a byte before the first line, or a line of its own before none
abbrev pub front : ℕ → List (List ℕ) → List (List ℕ)
front b [] = (b ∷ []) ∷ []
front b (l ∷ ls) = (b ∷ l) ∷ ls

-- "Lines end in LF, the last may lack it." LF is 10. It is no byte of the line that it ends. Every other byte is.
unfoldable pub lines : List ℕ → List (List ℕ)
lines [] = []
lines (b ∷ t) = cond (eqb b 10) ([] ∷ lines t) (front b (lines t))

-- how many bytes stand before the first LF, or in all where there is none
unfoldable pub before_lf : List ℕ → ℕ
before_lf [] = 0
before_lf (b ∷ t) = cond (eqb b 10) 0 (suc (before_lf t))

-- where the line that begins at a place ends: at the first LF from there on, or at the text's end
unfoldable pub line_end : List ℕ → ℕ → ℕ
line_end text at = at + before_lf (drop at text)

-- where the next line begins: past the LF, if there is one
unfoldable pub line_next : List ℕ → ℕ → ℕ
line_next text at = cond (ltb (line_end text at) (length text)) (line_end text at + 1) (line_end text at)

abbrev pub taken_at : List ℕ → ℕ → Taken
taken_at text at = record { from = at; to = line_end text at; next = line_next text at }

-- ---- the end of a line

module _ (text : List ℕ) (i : ℕ) where
  pub end_out : length text ≤ i → line_end text i ≡ i
  unfolding line_end before_lf
  end_out h = rw (drop_of_length-le text h) (omega arith)

  pub end_here : i < length text → get_or text i 0 ≡ 10 → line_end text i ≡ i
  unfolding line_end before_lf
  end_here h e = rw (drop-cons text i 0 h, eq-eqb (get_or text i 0) 10 e) (omega arith)

  pub end_later : i < length text → (get_or text i 0 ≡ 10 → ⊥) → line_end text i ≡ line_end text (suc i)
  unfolding line_end before_lf
  end_later h e = rw (drop-cons text i 0 h, ne_eqb (get_or text i 0) 10 e) (omega arith)

before_le : (t : List ℕ) → before_lf t ≤ length t
unfolding before_lf
before_le [] = omega arith
before_le (b ∷ t) = go (eqb b 10) (before_le t)
  where
    go : (v : Bool) → before_lf t ≤ length t → cond v 0 (suc (before_lf t)) ≤ suc (length t)
    go true h = omega arith
    go false h = omega arith

module _ (text : List ℕ) (at : ℕ) where
  pub end_from : at ≤ line_end text at
  unfolding line_end
  end_from = omega arith

  pub end_within : at ≤ length text → line_end text at ≤ length text
  unfolding line_end
  end_within h = omega (arith, before_le (drop at text), length-drop at text)

  -- ---- the place of the next line

  pub next_past : line_end text at < length text → line_next text at ≡ line_end text at + 1
  unfolding line_next
  next_past h = rw (lt-ltb (line_end text at) (length text) h)

  pub next_none : length text ≤ line_end text at → line_next text at ≡ line_end text at
  unfolding line_next
  next_none h = rw (le-ltb (line_end text at) (length text) h)

  -- it lies further on, and within the text
  pub next_later : at < length text → (at < line_next text at) × (line_next text at ≤ length text)
  next_later h = go (dec_lt (line_end text at) (length text))
    where
      go : Dec (line_end text at < length text) → (at < line_next text at) × (line_next text at ≤ length text)
      go (yes k) = (omega (arith, end_from, next_past k), omega (arith, next_past k))
      go (no k) = (omega (arith, end_within (omega arith), next_none (omega arith)), omega (arith, end_within (omega arith), next_none (omega arith)))

-- ---- the lines

-- a text that is not empty is its first line, and the lines after its first LF
lines_split : (b : ℕ) (t : List ℕ) → lines (b ∷ t) ≡ take (before_lf (b ∷ t)) (b ∷ t) ∷ lines (drop (suc (before_lf (b ∷ t))) (b ∷ t))
unfolding lines before_lf
lines_split b [] = go (eqb b 10)
  where
    go : (v : Bool) → cond v ([] ∷ []) ((b ∷ []) ∷ []) ≡ take (cond v 0 1) (b ∷ []) ∷ lines (drop (cond v 0 1) [])
    go true = refl
    go false = refl
lines_split b (a ∷ u) = go (eqb b 10) (lines_split a u)
  where
    t : List ℕ
    t = a ∷ u

    go : (v : Bool) → lines t ≡ take (before_lf t) t ∷ lines (drop (suc (before_lf t)) t)
        → cond v ([] ∷ lines t) (front b (lines t)) ≡ take (cond v 0 (suc (before_lf t))) (b ∷ t) ∷ lines (drop (cond v 0 (suc (before_lf t))) t)
    go true h = refl
    go false h = ap (front b) h

-- the line that begins at a place, and the lines from the next place on
pub lines_next : (text : List ℕ) (at : ℕ) → at < length text
    → lines (drop at text) ≡ take (line_end text at - at) (drop at text) ∷ lines (drop (line_next text at) text)
unfolding line_end
lines_next text at h = go (dec_lt (line_end text at) (length text))
  where
    k : ℕ
    k = before_lf (drop at text)

    first : lines (drop at text) ≡ take k (drop at text) ∷ lines (drop (suc k) (drop at text))
    first = rw (drop-cons text at 0 h) (lines_split (get_or text at 0) (drop (suc at) text))

    size : line_end text at - at ≡ k
    size = omega arith

    go : Dec (line_end text at < length text) → lines (drop at text) ≡ take (line_end text at - at) (drop at text) ∷ lines (drop (line_next text at) text)
    go (yes p) = first ∙ rw (size, drop-drop (suc k) at text, next_past text at p) (let e : at + suc k ≡ line_end text at + 1 = omega arith in rw e)
    go (no p) =
        first
        ∙ rw (size, drop-drop (suc k) at text, next_none text at (omega arith), drop_of_length-le text {i = at + suc k} (omega arith), drop_of_length-le text {i = at + k} (omega arith))

-- what is taken at a place of the text is a part of it, and the next place lies further on
pub taken_within : (text : List ℕ) (at : ℕ) (t : Taken) → at < length text → t ≡ taken_at text at
    → (t.from ≤ t.to) × (t.to ≤ length text) × (at < t.next)
taken_within text at t h e = rw e (end_from text at, end_within text at (omega arith), (next_later text at h).0)
