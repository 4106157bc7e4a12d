-- The line of a record that is written, and what the reading of such records comes to. The laws are in proofs/Recorded.
-- Assumes nothing.
use Prim.Native.Nat.{ℕ, ◌+◌}
use Rattle.std.specs.Prelude.{◌≡◌, None}
use mathlib.Core.List.{List, [], ◌∷◌, ◌++◌}
use Rattle.intelhex.specs.Records.{record_lines, Named, refusal_from, lines_from, named}
use Rattle.intelhex.specs.Text.{digits_of, check_of}

-- a record's bytes with the check byte, and its text without LF
abbrev pub checked : List ℕ → List ℕ
checked bs = bs ++ (check_of bs ∷ [])

abbrev pub line_of : List ℕ → List ℕ
line_of bs = 58 ∷ digits_of (checked bs)

-- A text of k records, read where the last 04 record gave `upper`, on an array of n bytes, whatever follows it: none is refused, and none ends the file.
-- They name l, and the next record is read with `next`.
pub record Read (n upper : ℕ) (text : List ℕ) (k : ℕ) (l : List Named) (next : ℕ) : Type 0 where
  pub refusal : (rest : List ℕ) → refusal_from n upper (record_lines (text ++ rest)) ≡ refusal_from n next (record_lines rest)
  pub line : (rest : List ℕ) → lines_from n upper (record_lines (text ++ rest)) ≡ k + lines_from n next (record_lines rest)
  pub names : (rest : List ℕ) → named upper (record_lines (text ++ rest)) ≡ l ++ named next (record_lines rest)

-- A whole text of k lines: it is not refused on an array of n bytes, its last line decides, and it names l.
pub record Whole (n : ℕ) (text : List ℕ) (k : ℕ) (l : List Named) : Type 0 where
  pub refusal : refusal_from n 0 (record_lines text) ≡ None
  pub line : lines_from n 0 (record_lines text) ≡ k
  pub names : named 0 (record_lines text) ≡ l
