-- Writing Intel HEX: document 02, item 3. What text an array is written as, and what a writing answers. Definitions only.
-- Assumes nothing.
use Rattle.std.specs.Prelude.{ℕ, zero, suc, ◌-◌, ◌*◌, ◌/◌, ◌%◌, cond, List, [], ◌∷◌, ◌++◌, eqb, ltb, length, take, drop, Result, Ok, Err, is_ok}
use Rattle.refusal.specs.declared.Refusal.{Refusal}
use Rattle.refusal.specs.declared.Refusal.TheVariants.{ArrayLength, RoomLength}
use Rattle.refusal.specs.Numbers.{number}
use Rattle.geometry.specs.declared.Part.{Part}
use Rattle.geometry.specs.declared.Part.TheVariants.{FullBottom, FullTop, BenchBottom, BenchTop}
use Rattle.geometry.specs.Blocks.{geometry_of, words}
use Rattle.printing.specs.Text.{digit_of}
use Rattle.printing.specs.Room.{placed}
use Rattle.intelhex.specs.Records.{total}

-- ---- a record

-- "upper case": two digits a byte, the higher first
unfoldable pub digits_of : List ℕ → List ℕ
digits_of [] = []
digits_of (b ∷ t) = digit_of (b / 16) ∷ digit_of (b % 16) ∷ digits_of t

-- "The byte sum of each record, its check byte included, comes to 0 as it wraps at 256": what is left to the next 256
abbrev pub check_of : List ℕ → ℕ
check_of bs = (256 - total bs % 256) % 256

-- a colon, the record's bytes with the check byte after them, and "LF after each record"
unfoldable pub record_text : List ℕ → List ℕ
record_text bs = 58 ∷ (digits_of (bs ++ (check_of bs ∷ [])) ++ (10 ∷ []))

-- type 00: the number of data bytes, the offset, the type, and the data
abbrev pub data_record : ℕ → List ℕ → List ℕ
data_record o bs = record_text (length bs ∷ o / 256 ∷ o % 256 ∷ 0 ∷ bs)

-- type 04: "A 04 record has two data bytes and offset 0."
abbrev pub upper_record : ℕ → List ℕ
upper_record upper = record_text (2 ∷ 0 ∷ 0 ∷ 4 ∷ upper / 256 ∷ upper % 256 ∷ [])

-- `:00000001FF`
abbrev pub end_record : List ℕ
end_record = record_text (0 ∷ 0 ∷ 0 ∷ 1 ∷ [])

-- ---- a text

-- "an even byte address is a word's low half"
unfoldable pub bytes_of : List ℕ → List ℕ
bytes_of [] = []
bytes_of (w ∷ ws) = w % 256 ∷ w / 256 ∷ bytes_of ws

-- "a 04 record before each 65,536 bytes or a bench part's 32,768"
abbrev pub span : Part → ℕ
span FullBottom = 65536
span FullTop = 65536
span BenchBottom = 32768
span BenchTop = 32768

-- the text of the "16 data bytes" from address a on: their record, and before it a 04 record where a span begins there
unfoldable pub sixteen_at : ℕ → List ℕ → ℕ → List ℕ
sixteen_at s bs a = cond (eqb (a % s) 0) (upper_record (a / 65536)) [] ++ data_record (a % 65536) (take 16 (drop a bs))

-- the first k sixteens, "lowest first"
unfoldable pub sixteens : ℕ → List ℕ → ℕ → List ℕ
sixteens s bs zero = []
sixteens s bs (suc k) = sixteens s bs k ++ sixteen_at s bs (16 * k)

-- all of the array, "the end record last"
unfoldable pub text_of : Part → List ℕ → List ℕ
text_of part ws = sixteens (span part) (bytes_of ws) (length ws / 8) ++ end_record

-- ---- a writing

-- 1 "array length is not 256u", which comes "before an added part's own", and "17 text too short"; "What is written into lent room comes with its length"
unfoldable pub written : Part → List ℕ → List ℕ → Result ℕ Refusal
written part ws room =
    cond (eqb (length ws) (words (geometry_of part)))
    (cond (ltb (length room) (length (text_of part ws))) (Err RoomLength) (Ok (length (text_of part ws))))
    (Err ArrayLength)

-- "and places past it stay"; a refusal "leaves all lent memory"
unfoldable pub room_after : Part → List ℕ → List ℕ → List ℕ
room_after part ws room = cond (is_ok (written part ws room)) (placed room 0 (text_of part ws)) room

-- the refusal's number, or 0, and the length, or 0
abbrev pub written_number : Result ℕ Refusal → ℕ
written_number (Ok size) = 0
written_number (Err refusal) = number refusal

abbrev pub written_length : Result ℕ Refusal → ℕ
written_length (Ok size) = size
written_length (Err refusal) = 0
