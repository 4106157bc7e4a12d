-- Reading Intel HEX: document 02, item 3. What a line is, what a record is, which refusal a text has, and what an accepted text makes of every byte of the array.
-- A text, a line and a record are lists of bytes, the array is the list of its words. Definitions only.
-- Assumes nothing.
use Rattle.std.specs.Prelude.{ℕ, suc, ◌+◌, ◌-◌, ◌*◌, ◌/◌, ◌%◌, Bool, true, false, not, cond, ◌&&◌, ◌||◌, List, [], ◌∷◌, ◌++◌, eqb, ltb, leb, length, get_or, take, drop}
use Rattle.std.specs.Prelude.{Option, Some, None, Result, Ok, Err, is_some, is_ok}
use Rattle.std.specs.Option.{option_or}
use Rattle.refusal.specs.declared.Refusal.{Refusal}
use Rattle.refusal.specs.declared.Refusal.TheVariants.{ArrayLength, RecordForm, RecordSum, RecordType, OutsideArray, NoEndRecord}
use Rattle.refusal.specs.Numbers.{number}
use Rattle.geometry.specs.declared.Part.{Part}
use Rattle.geometry.specs.Blocks.{geometry_of, words}
use Rattle.lines.specs.Lines.{front}
use Rattle.semantics.specs.Numbers.{within}
use Rattle.semantics.specs.Tabulate.{tabulate}
use Rattle.intelhex.specs.declared.BadRecord.{BadRecord}

-- ---- lines

-- "Lines end in LF or CR LF, the last may lack it". LF is 10, CR is 13. A CR just before an LF belongs to the line's end; any other is a byte of its line.
unfoldable pub record_lines : List ℕ → List (List ℕ)
record_lines [] = []
record_lines (b ∷ t) = cond (eqb b 10) ([] ∷ record_lines t) (cond (eqb b 13 && eqb (get_or t 0 0) 10) (record_lines t) (front b (record_lines t)))

-- ---- the bytes of a record

-- "hex of either case": the value of a digit, `0` to `9`, `A` to `F` or `a` to `f`; 16 for a byte that is no digit
unfoldable pub digit : ℕ → ℕ
digit b = cond (within 48 10 b) (b - 48) (cond (within 65 6 b) (b - 55) (cond (within 97 6 b) (b - 87) 16))

unfoldable pub all_digits : List ℕ → Bool
all_digits [] = true
all_digits (b ∷ t) = ltb (digit b) 16 && all_digits t

-- each byte is two digits, the higher first
unfoldable pub pairs : List ℕ → List ℕ
pairs [] = []
pairs (a ∷ []) = []
pairs (a ∷ b ∷ t) = (digit a * 16 + digit b) ∷ pairs t

-- a record's bytes, "its check byte included": what its line has after the colon
unfoldable pub bytes : List ℕ → List ℕ
bytes line = pairs (drop 1 line)

-- the first byte is the number of data bytes, the next two are the offset, the higher first, and the fourth is the type
abbrev pub count : List ℕ → ℕ
count line = get_or (bytes line) 0 0

abbrev pub offset : List ℕ → ℕ
offset line = get_or (bytes line) 1 0 * 256 + get_or (bytes line) 2 0

abbrev pub kind : List ℕ → ℕ
kind line = get_or (bytes line) 3 0

-- the data follow; the last byte is the check byte
abbrev pub data_of : List ℕ → List ℕ
data_of line = take (count line) (drop 4 (bytes line))

-- type 01 "ends the file, and what follows is ignored"
abbrev pub is_end : List ℕ → Bool
is_end line = eqb (kind line) 1

-- ---- refusals of a record

-- "each line is one record and nothing else": a colon (58), and digits only, two for each of the four bytes before the data, the data and the check byte
abbrev pub framed : List ℕ → Bool
framed line = eqb (get_or line 0 0) 58 && (all_digits (drop 1 line) && eqb (length line) (1 + 2 * (4 + count line + 1)))

-- of a type t, an offset o and n data bytes: "A 04 record has two data bytes and offset 0."; "`:00000001FF`, the one sound record of type 01"
abbrev pub shaped : ℕ → ℕ → ℕ → Bool
shaped t o n = cond (eqb t 1) (eqb o 0 && eqb n 0) (cond (eqb t 4) (eqb o 0 && eqb n 2) true)

-- "10 record malformed (also a 01 or 04 of other offset or length)"
unfoldable pub malformed : List ℕ → Bool
malformed line = not (framed line && shaped (kind line) (offset line) (count line))

-- the sum of bytes
unfoldable pub total : List ℕ → ℕ
total [] = 0
total (b ∷ t) = b + total t

-- "11 sum wrong": "The byte sum of each record, its check byte included, comes to 0 as it wraps at 256"
unfoldable pub sum_wrong : List ℕ → Bool
sum_wrong line = not (eqb (total (bytes line) % 256) 0)

-- "12 other type" than "records 00, 01 and 04"
abbrev pub other_type : ℕ → Bool
other_type t = not (eqb t 0 || (eqb t 1 || eqb t 4))

-- a byte that a text names: its address, and the value that it is to have
pub record Named : Type 0 where
  pub address : ℕ
  pub value : ℕ

-- bytes from an address on
unfoldable pub named_from : ℕ → List ℕ → List Named
named_from a [] = []
named_from a (b ∷ t) = record { address = a; value = b } ∷ named_from (a + 1) t

-- the bytes that a record names, where the last 04 record gave `upper`: the data of type 00, from its offset on
unfoldable pub named_by : ℕ → List ℕ → List Named
named_by upper line = cond (eqb (kind line) 0) (named_from (upper * 65536 + offset line) (data_of line)) []

-- one of them is no byte of an array of n bytes: no address is reduced
unfoldable pub outside : ℕ → List Named → Bool
outside n [] = false
outside n (x ∷ l) = leb n x.address || outside n l

-- "Record offset plus length may not pass 65,536."
abbrev pub passes : List ℕ → Bool
passes line = ltb 65536 (offset line + count line)

-- "the lowest number within it": 10, 11, 12, "13 byte outside the array or offset passed", and none for a good record
unfoldable pub record_refusal : ℕ → ℕ → List ℕ → Option Refusal
record_refusal n upper line =
    cond (malformed line) (Some RecordForm)
    (cond (sum_wrong line) (Some RecordSum)
    (cond (other_type (kind line)) (Some RecordType) (cond (outside n (named_by upper line) || passes line) (Some OutsideArray) None)))

-- ---- a text

-- a 04 record's two data bytes, the higher first, hold until the next one; before the first the upper half is 0 (`verdict`, `array_read`)
abbrev pub upper_after : ℕ → List ℕ → ℕ
upper_after upper line = cond (eqb (kind line) 4) (get_or (bytes line) 4 0 * 256 + get_or (bytes line) 5 0) upper

-- "the first bad record deciding"; "14 no end record"
unfoldable pub refusal_from : ℕ → ℕ → List (List ℕ) → Option Refusal
refusal_from n upper [] = Some NoEndRecord
refusal_from n upper (l ∷ ls) = option_or (record_refusal n upper l) (cond (is_end l) None (refusal_from n (upper_after upper l) ls))

-- how many lines are looked at: the last of them is the bad one, the end record or, where there is neither, the text's last
unfoldable pub lines_from : ℕ → ℕ → List (List ℕ) → ℕ
lines_from n upper [] = 0
lines_from n upper (l ∷ ls) = suc (cond (is_some (record_refusal n upper l) || is_end l) 0 (lines_from n (upper_after upper l) ls))

-- the bytes that lines name, in order, up to the end record
unfoldable pub named : ℕ → List (List ℕ) → List Named
named upper [] = []
named upper (l ∷ ls) = cond (is_end l) [] (named_by upper l ++ named (upper_after upper l) ls)

-- ---- the array

-- "a byte named twice keeps the later value", and one that is not named stays
unfoldable pub byte_after : List Named → ℕ → ℕ → ℕ
byte_after [] a old = old
byte_after (x ∷ l) a old = byte_after l a (cond (eqb x.address a) x.value old)

-- "an even byte address is a word's low half"; "Words and halves not named stay"
abbrev pub word_after : List Named → List ℕ → ℕ → ℕ
word_after l ws i = byte_after l (2 * i) (get_or ws i 0 % 256) + 256 * byte_after l (2 * i + 1) (get_or ws i 0 / 256)

unfoldable pub words_after : List Named → List ℕ → List ℕ
words_after l ws = tabulate (length ws) (word_after l ws)

-- ---- a reading

-- how many bytes an array has
abbrev pub size : List ℕ → ℕ
size ws = 2 * length ws

-- how many lines were looked at, told of an accepted text and beside a refusal
abbrev pub with_line : Option Refusal → ℕ → Result ℕ BadRecord
with_line None line = Ok line
with_line (Some r) line = Err (record { refusal = r; line = line })

-- 1 "array length is not 256u": "Refusals 1 to 3 come before an added part's own." There no line is looked at
unfoldable pub verdict : Part → List ℕ → List ℕ → Result ℕ BadRecord
verdict part text ws =
    cond (eqb (length ws) (words (geometry_of part)))
    (with_line (refusal_from (size ws) 0 (record_lines text)) (lines_from (size ws) 0 (record_lines text)))
    (Err (record { refusal = ArrayLength; line = 0 }))

-- the refusal's number, or 0, and the line
abbrev pub verdict_number : Result ℕ BadRecord → ℕ
verdict_number (Ok line) = 0
verdict_number (Err bad) = number bad.refusal

abbrev pub verdict_line : Result ℕ BadRecord → ℕ
verdict_line (Ok line) = line
verdict_line (Err bad) = bad.line

-- "A refused file leaves the array as it was."
unfoldable pub array_read : Part → List ℕ → List ℕ → List ℕ
array_read part text ws = cond (is_ok (verdict part text ws)) (words_after (named 0 (record_lines text)) ws) ws
