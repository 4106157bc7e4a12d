-- Document 01's own output lines, numbers at the ends of their ranges, and texts in a room, as one table under one
-- statement that the checker computes.
-- Assumes nothing.
use Rattle.std.specs.Prelude.{ℕ, Bool, true, false, ◌&&◌, List, [], ◌∷◌, T, eqb, length}
use Prim.Native.String.{String}
use Rattle.refusal.specs.declared.Refusal.TheVariants as refusal
use Rattle.semantics.specs.declared.Answer.{Answer}
use Rattle.semantics.specs.declared.Answer.TheVariants.{Word, Units, Done, Refused}
use Rattle.semantics.specs.Tabulate.{tabulate}
use Rattle.printing.specs.Text.{text, digit_of, digits, decimal, hex4, answer_text, line_text, end_text}
use Rattle.printing.specs.Room.{placed, advanced}

-- a number in decimal, a word in hex, a line's number and answer, or the count at the end, and its text; or a room, a
-- place and a text, and the room and the place after the text was put there
pub data Case : Type 0 where
  number : ℕ → String → Case
  word : ℕ → String → Case
  line : ℕ → Answer → String → Case
  ended : ℕ → String → Case
  put : String → ℕ → String → String → ℕ → Case

abbrev same : List ℕ → List ℕ → Bool
same [] [] = true
same [] (y ∷ ys) = false
same (x ∷ xs) [] = false
same (x ∷ xs) (y ∷ ys) = eqb x y && same xs ys

abbrev pub holds : Case → Bool
holds (number n s) = same (decimal n) (text s)
holds (word w s) = same (hex4 w) (text s)
holds (line k a s) = same (line_text k a) (text s)
holds (ended n s) = same (end_text n) (text s)
holds (put room at s after next) = same (placed (text room) at (text s)) (text after) && eqb (advanced (length (text room)) at (length (text s))) next

abbrev pub every : List Case → Bool
every [] = true
every (c ∷ l) = holds c && every l

abbrev pub cases : List Case
cases =
    -- "Whole output"
    line 1 Done "1 ok\n"
    ∷ line 2 Done "2 ok\n"
    ∷ line 3 Done "3 ok\n"
    ∷ line 4 Done "4 ok\n"
    ∷ line 5 Done "5 ok\n"
    ∷ line 6 (Word 0x0000) "6 0000\n"
    ∷ line 7 (Units 1) "7 1\n"
    ∷ line 8 (Word 0x0080) "8 0080\n"
    ∷ line 9 Done "9 ok\n"
    ∷ line 10 (Word 0x1234) "10 1234\n"
    ∷ line 11 (Word 0x1234) "11 1234\n"
    ∷ line 12 (Refused refusal.WorkCount) "12 refused 4\n"
    ∷ ended 12 "end 12\n"
    -- "Empty input prints `end 0`."
    ∷ ended 0 "end 0\n"
    ∷ number 0 "0"
    ∷ number 9 "9"
    ∷ number 10 "10"
    ∷ number 16384 "16384"
    ∷ number 65535 "65535"
    ∷ number 4294967295 "4294967295"
    ∷ word 0x0000 "0000"
    ∷ word 0x00F0 "00F0"
    ∷ word 0xFFFF "FFFF"
    -- within the room, cut at its end, at its end, and past it
    ∷ put "......" 2 "ok\n" "..ok\n." 5
    ∷ put "......" 4 "ok\n" "....ok" 6
    ∷ put "......" 6 "ok\n" "......" 6
    ∷ put "......" 9 "ok\n" "......" 9
    ∷ []

pub cases_hold : T (every cases)
unfolding digit_of digits decimal hex4 answer_text line_text end_text tabulate placed advanced
cases_hold = tt
