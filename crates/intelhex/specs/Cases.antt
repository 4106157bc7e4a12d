-- Records, texts and arrays, as one table under one statement: the checker computes each through the definitions. The document's end record, the worked examples,
-- and each rule at its edges. Assumes nothing.
use Rattle.std.specs.Prelude.{ℕ, ◌+◌, Bool, true, false, ◌&&◌, List, [], ◌∷◌, ◌++◌, map, T, eqb, length, replicate, take, drop, Result, Ok, Err}
use Prim.Native.String.{String}
use Rattle.refusal.specs.declared.Refusal.{Refusal}
use Rattle.refusal.specs.declared.Refusal.TheVariants.{ArrayLength, RecordForm, RecordSum, RecordType, OutsideArray, NoEndRecord}
use Rattle.refusal.specs.Numbers.{number}
use Rattle.geometry.specs.declared.Part.{Part}
use Rattle.geometry.specs.declared.Part.TheVariants.{FullBottom, FullTop, BenchBottom, BenchTop}
use Rattle.printing.specs.Text.{text, digit_of}
use Rattle.printing.specs.Room.{placed}
use Rattle.semantics.specs.Tabulate.{tabulate}
use Rattle.intelhex.specs.Records.{record_lines, digit, all_digits, pairs, bytes, malformed, total, sum_wrong, named_from, named_by, outside, record_refusal, refusal_from, lines_from, named, byte_after, words_after, with_line, verdict, array_read}
use Rattle.intelhex.specs.declared.BadRecord.{BadRecord}
use Rattle.intelhex.specs.Text.{digits_of, record_text, upper_record, bytes_of, span, sixteen_at, sixteens, text_of, written, room_after}

pub data Case : Type 0 where
  -- a text, and its lines
  splits : String → List String → Case
  -- a text for an array of 32,768 bytes, and the line that decides, with the refusal if it is refused
  reads : String → Result ℕ BadRecord → Case
  -- the same with an array of so many bytes
  reads_in : ℕ → String → Result ℕ BadRecord → Case
  -- what stands before and after so many digits `0` of a text for an array of 32,768 bytes, and the same
  reads_long : String → ℕ → String → Result ℕ BadRecord → Case
  -- a text, words, and the words after it
  makes : String → List ℕ → List ℕ → Case
  -- a part, the number of words of an array, a text, and the same
  judges : Part → ℕ → String → Result ℕ BadRecord → Case
  -- a part, the number of words FFFFh of an array, a text, a location, and the array's words from there on after its reading
  leaves : Part → ℕ → String → ℕ → List ℕ → Case
  -- words, and their text for a part
  prints : Part → List ℕ → String → Case
  -- the text of sixteen bytes FFh of a part, from an address on
  sixteen : Part → ℕ → String → Case
  -- the upper address of a 04 record, and its text
  upper : ℕ → String → Case
  -- an array of so many words FFFFh of a part, the length of the room, and the length of the writing or its refusal
  writes : Part → ℕ → ℕ → Result ℕ Refusal → Case
  -- an array of so many words FFFFh of a part, and the length of a room that its writing leaves as it was
  keeps : Part → ℕ → ℕ → Case

abbrev same : List ℕ → List ℕ → Bool
same [] [] = true
same [] (y ∷ ys) = false
same (x ∷ xs) [] = false
same (x ∷ xs) (y ∷ ys) = eqb x y && same xs ys

abbrev sames : List (List ℕ) → List (List ℕ) → Bool
sames [] [] = true
sames [] (y ∷ ys) = false
sames (x ∷ xs) [] = false
sames (x ∷ xs) (y ∷ ys) = same x y && sames xs ys

-- refused, at a line
abbrev bad : Refusal → ℕ → Result ℕ BadRecord
bad r line = Err (record { refusal = r; line = line })

-- the refusals are told apart by their numbers
abbrev same_verdict : Result ℕ BadRecord → Result ℕ BadRecord → Bool
same_verdict (Ok j) (Ok k) = eqb j k
same_verdict (Ok j) (Err y) = false
same_verdict (Err x) (Ok k) = false
same_verdict (Err x) (Err y) = eqb (number x.refusal) (number y.refusal) && eqb x.line y.line

abbrev same_writing : Result ℕ Refusal → Result ℕ Refusal → Bool
same_writing (Ok j) (Ok k) = eqb j k
same_writing (Ok j) (Err y) = false
same_writing (Err x) (Ok k) = false
same_writing (Err x) (Err y) = eqb (number x) (number y)

-- the answer on a text for an array of so many bytes
abbrev answer : ℕ → List ℕ → Result ℕ BadRecord
answer n t = with_line (refusal_from n 0 (record_lines t)) (lines_from n 0 (record_lines t))

abbrev pub holds : Case → Bool
holds (splits s ls) = sames (record_lines (text s)) (map text ls)
holds (reads s r) = same_verdict (answer 32768 (text s)) r
holds (reads_in n s r) = same_verdict (answer n (text s)) r
holds (reads_long s n t r) = same_verdict (answer 32768 (text s ++ (replicate n 48 ++ text t))) r
holds (makes s before after) = same (words_after (named 0 (record_lines (text s))) before) after
holds (judges part n s r) = same_verdict (verdict part (text s) (replicate n 65535)) r
holds (leaves part n s at ws) = same (take (length ws) (drop at (array_read part (text s) (replicate n 65535)))) ws
holds (prints part ws t) = same (text_of part ws) (text t)
holds (sixteen part a t) = same (sixteen_at (span part) (replicate (a + 16) 255) a) (text t)
holds (upper u t) = same (upper_record u) (text t)
holds (writes part n room r) = same_writing (written part (replicate n 65535) (replicate room 0)) r
holds (keeps part n room) = same (room_after part (replicate n 65535) (replicate room 7)) (replicate room 7)

abbrev pub every : List Case → Bool
every [] = true
every (c ∷ l) = holds c && every l

-- eight words FFFFh
abbrev blank : List ℕ
blank = replicate 8 0xFFFF

abbrev pub cases : List Case
cases =
    -- "Lines end in LF or CR LF, the last may lack it"
    splits "" []
    ∷ splits ":00" (":00" ∷ [])
    ∷ splits ":00\n" (":00" ∷ [])
    ∷ splits ":00\r\n" (":00" ∷ [])
    ∷ splits ":00\r\n:01\n:02" (":00" ∷ ":01" ∷ ":02" ∷ [])
    ∷ splits "\n" ("" ∷ [])
    ∷ splits "\r\n\n" ("" ∷ "" ∷ [])
    ∷ splits ":00\r" (":00\r" ∷ [])
    ∷ splits "a\rb\n" ("a\rb" ∷ [])
    ∷ splits "a\r\r\n" ("a\r" ∷ [])
    ∷ splits "a\n\rb" ("a" ∷ "\rb" ∷ [])
    ∷ splits "a\tb" ("a\tb" ∷ [])
    -- "`:00000001FF` .. ends the file, and what follows is ignored"; "hex of either case"
    ∷ reads ":00000001FF" (Ok 1)
    ∷ reads ":00000001ff\n" (Ok 1)
    ∷ reads ":00000001fF\r\n" (Ok 1)
    ∷ reads ":00000001FF\n:00000001FE\nrubbish" (Ok 1)
    ∷ reads ":0400000034127856E8\n:03000a00cdab99e2\r\n:00000001ff\nrubbish" (Ok 3)
    -- 14 "no end record"
    ∷ reads "" (bad NoEndRecord 0)
    ∷ reads ":01000000AA55" (bad NoEndRecord 1)
    ∷ reads ":01000000AA55\n:020000040000FA\n" (bad NoEndRecord 2)
    -- 10: "each line is one record and nothing else"
    ∷ reads "\n" (bad RecordForm 1)
    ∷ reads "\n:00000001FF" (bad RecordForm 1)
    ∷ reads ":01000000AA55\n\n:00000001FF" (bad RecordForm 2)
    ∷ reads ":00000001FF x" (bad RecordForm 1)
    ∷ reads " :00000001FF" (bad RecordForm 1)
    ∷ reads ":00000001FF\r" (bad RecordForm 1)
    ∷ reads ":00000001F" (bad RecordForm 1)
    ∷ reads ":00000001FFF" (bad RecordForm 1)
    ∷ reads ":00000001FFFF" (bad RecordForm 1)
    ∷ reads "00000001FF" (bad RecordForm 1)
    ∷ reads ";00000001FF" (bad RecordForm 1)
    ∷ reads "900000001FF" (bad RecordForm 1)
    ∷ reads ":" (bad RecordForm 1)
    ∷ reads ":000000" (bad RecordForm 1)
    ∷ reads ":0100000000" (bad RecordForm 1)
    ∷ reads ":000000/1FF" (bad RecordForm 1)
    ∷ reads ":0000000:FF" (bad RecordForm 1)
    ∷ reads ":00000001F@" (bad RecordForm 1)
    ∷ reads ":00000001FG" (bad RecordForm 1)
    ∷ reads ":00000001F`" (bad RecordForm 1)
    ∷ reads ":00000001Fg" (bad RecordForm 1)
    ∷ reads ":00000001/F" (bad RecordForm 1)
    -- 10: no digit in the count, the offset, the type or the data, though the sum of each is right if `G` counts as 16
    ∷ reads_long ":G0" 520 "\n:00000001FF" (bad RecordForm 1)
    ∷ reads ":0G00000000000000000000000000000000000000F0" (bad RecordForm 1)
    ∷ reads ":00G0000000" (bad RecordForm 1)
    ∷ reads ":000000G000" (bad RecordForm 1)
    ∷ reads ":01000000G0FF" (bad RecordForm 1)
    -- 255 data bytes, and one less than the count says
    ∷ reads_long ":FF000000" 510 "01\n:00000001FF" (Ok 2)
    ∷ reads_long ":FF000000" 508 "01\n:00000001FF" (bad RecordForm 1)
    -- 10: "also a 01 or 04 of other offset or length", even where the sum is wrong too
    ∷ reads ":00000101FE" (bad RecordForm 1)
    ∷ reads ":00010001FE" (bad RecordForm 1)
    ∷ reads ":0100000100FE" (bad RecordForm 1)
    ∷ reads ":0000010100" (bad RecordForm 1)
    ∷ reads ":0100000411EA" (bad RecordForm 1)
    ∷ reads ":03000004000000F9" (bad RecordForm 1)
    ∷ reads ":020001040000F9" (bad RecordForm 1)
    ∷ reads ":020100040000F9" (bad RecordForm 1)
    ∷ reads ":00000004FC" (bad RecordForm 1)
    -- 11 "sum wrong", before 12 and 13: sums of 255, 1 and 128 are wrong; those of 0 and 256 are not
    ∷ reads ":00000001FE" (bad RecordSum 1)
    ∷ reads ":0000000100" (bad RecordSum 1)
    ∷ reads ":000000017F" (bad RecordSum 1)
    ∷ reads ":02000002F00000" (bad RecordSum 1)
    ∷ reads ":01800000AAD4" (bad RecordSum 1)
    ∷ reads ":020000040000FB" (bad RecordSum 1)
    ∷ reads ":0000000000\n:00000001FF" (Ok 2)
    ∷ reads ":01000000FF00\n:00000001FF" (Ok 2)
    -- 12 "other type": 02, 03, 05 of any length, 09, 11, 81 and FF
    ∷ reads ":02000002F0000C" (bad RecordType 1)
    ∷ reads ":0400000300000000F9" (bad RecordType 1)
    ∷ reads ":0400000500000000F7" (bad RecordType 1)
    ∷ reads ":00000002FE" (bad RecordType 1)
    ∷ reads ":00000003FD" (bad RecordType 1)
    ∷ reads ":00000005FB" (bad RecordType 1)
    ∷ reads ":00000009F7" (bad RecordType 1)
    ∷ reads ":00000011EF" (bad RecordType 1)
    ∷ reads ":000000817F" (bad RecordType 1)
    ∷ reads ":000000FF01" (bad RecordType 1)
    ∷ reads ":02FFFF02AABB99" (bad RecordType 1)
    -- 13 "byte outside the array": no address is reduced; a record of no bytes, or a 04 record, names none
    ∷ reads ":01800000AAD5\n:00000001FF" (bad OutsideArray 1)
    ∷ reads ":017FFF00AAD7\n:00000001FF" (Ok 2)
    ∷ reads ":027FFF00AABB1B\n:00000001FF" (bad OutsideArray 1)
    ∷ reads ":0080000080\n:00000001FF" (Ok 2)
    ∷ reads ":020000040001F9\n:00000001FF" (Ok 2)
    ∷ reads ":020000040001F9\n:0000000000\n:00000001FF" (Ok 3)
    ∷ reads ":020000040001F9\n:0100000011EE\n:00000001FF" (bad OutsideArray 2)
    ∷ reads ":020000040100F9\n:0100000011EE\n:00000001FF" (bad OutsideArray 2)
    ∷ reads ":020000040200F8\n:0100000011EE\n:00000001FF" (bad OutsideArray 2)
    ∷ reads ":0200000480007A\n:0100000011EE\n:00000001FF" (bad OutsideArray 2)
    ∷ reads ":020000040001F9\n:020000040000FA\n:0100000011EE\n:00000001FF" (Ok 4)
    -- 13 "offset passed": offset plus length is 65,536, and 65,537; of no bytes at FFFFh
    ∷ reads_in 131072 ":01FFFF00AA57\n:00000001FF" (Ok 2)
    ∷ reads_in 131072 ":02FFFF00AABB9B\n:00000001FF" (bad OutsideArray 1)
    ∷ reads_in 131072 ":00FFFF0002\n:00000001FF" (Ok 2)
    -- "its two data bytes", the higher first, hold until the next 04 record: byte 65,536 is in an array of 65,537 bytes
    ∷ reads_in 65537 ":020000040001F9\n:0100000011EE\n:00000001FF" (Ok 3)
    ∷ reads_in 65536 ":020000040001F9\n:0100000011EE\n:00000001FF" (bad OutsideArray 2)
    ∷ reads_in 65537 ":020000040100F9\n:0100000011EE\n:00000001FF" (bad OutsideArray 2)
    ∷ reads_in 16777217 ":020000040100F9\n:0100000011EE\n:00000001FF" (Ok 3)
    ∷ reads_in 16777216 ":020000040100F9\n:0100000011EE\n:00000001FF" (bad OutsideArray 2)
    ∷ reads_in 65538 ":020000040001F9\n:0100000011EE\n:0100010011ED\n:00000001FF" (Ok 4)
    ∷ reads_in 65537 ":020000040001F9\n:0100000011EE\n:0100010011ED\n:00000001FF" (bad OutsideArray 3)
    -- "the first bad record deciding"
    ∷ reads ":01800000AAD5\nx\n:00000001FF" (bad OutsideArray 1)
    ∷ reads ":01000000AA55\n:02000002F0000C\n:00000001FE\n" (bad RecordType 2)
    ∷ reads ":01000000AA55\n:00000001FE\n:01800000AAD5\n" (bad RecordSum 2)
    -- "an even byte address is a word's low half"; "Words and halves not named stay"
    ∷ makes ":0400000034127856E8\n:03000a00cdab99e2\r\n:00000001ff\nrubbish" blank (0x1234 ∷ 0x5678 ∷ 0xFFFF ∷ 0xFFFF ∷ 0xFFFF ∷ 0xABCD ∷ 0xFF99 ∷ 0xFFFF ∷ [])
    ∷ makes ":01000000AA55\n:00000001FF" (0x1234 ∷ 0x5678 ∷ []) (0x12AA ∷ 0x5678 ∷ [])
    ∷ makes ":01000100AA54\n:00000001FF" (0x1234 ∷ 0x5678 ∷ []) (0xAA34 ∷ 0x5678 ∷ [])
    ∷ makes ":02000100AABB98\n:00000001FF" (0x1234 ∷ 0x5678 ∷ []) (0xAA34 ∷ 0x56BB ∷ [])
    ∷ makes ":110000000102030405060708090A0B0C0D0E0F101156\n:00000001FF" (replicate 9 0xFFFF)
    (0x0201 ∷ 0x0403 ∷ 0x0605 ∷ 0x0807 ∷ 0x0A09 ∷ 0x0C0B ∷ 0x0E0D ∷ 0x100F ∷ 0xFF11 ∷ [])
    ∷ makes ":01010000AA54\n:00000001FF" blank blank
    -- "a byte named twice keeps the later value", after a 04 record too
    ∷ makes ":01000000AA55\n:01000000BB44\n:01000100CC32\n:00000001FF" blank (0xCCBB ∷ replicate 7 0xFFFF)
    ∷ makes ":01000000AA55\n:020000040000FA\n:01000000BB44\n:00000001FF" blank (0xFFBB ∷ replicate 7 0xFFFF)
    -- what follows the end record, and the data of a 04 record, name nothing
    ∷ makes ":00000001FF\n:01000000AA55\n" blank blank
    ∷ makes ":020000040000FA\n:00000001FF\n" blank blank
    -- the upper half of the address, until the next 04 record
    ∷ makes ":020000040001F9\n:01000000AA55\n:00000001FF\n" blank blank
    ∷ makes ":020000040001F9\n:01000000AA55\n:01000000BB44\n:00000001FF\n" blank blank
    ∷ makes ":020000040001F9\n:020000040000FA\n:01000000AA55\n:00000001FF\n" blank (0xFFAA ∷ replicate 7 0xFFFF)
    -- 1 "array length is not 256u", before the text's own
    ∷ judges BenchBottom 16384 ":00000001FF" (Ok 1)
    ∷ judges BenchTop 16384 ":0100000000" (bad RecordForm 1)
    ∷ judges BenchBottom 16384 ":017FFF00AAD7\n:00000001FF" (Ok 2)
    ∷ judges BenchTop 16384 ":01800000AAD5\n:00000001FF" (bad OutsideArray 1)
    ∷ judges BenchBottom 16383 ":0100000000" (bad ArrayLength 0)
    ∷ judges BenchTop 16385 ":00000001FF" (bad ArrayLength 0)
    ∷ judges FullBottom 16384 ":00000001FF" (bad ArrayLength 0)
    ∷ judges FullTop 0 "" (bad ArrayLength 0)
    -- an accepted file; byte addresses follow the locations of a top part too
    ∷ leaves BenchBottom 16384 ":01000000AA55\n:00000001FF" 0 (0xFFAA ∷ 0xFFFF ∷ [])
    ∷ leaves BenchTop 16384 ":01000000AA55\n:017FFF00AAD7\n:00000001FF" 0 (0xFFAA ∷ 0xFFFF ∷ [])
    ∷ leaves BenchTop 16384 ":01000000AA55\n:017FFF00AAD7\n:00000001FF" 16382 (0xFFFF ∷ 0xAAFF ∷ [])
    -- "A refused file leaves the array as it was.": 10 to 14, and 1
    ∷ leaves BenchBottom 16384 ":01000000AA55\n:00000001F" 0 (0xFFFF ∷ [])
    ∷ leaves BenchBottom 16384 ":01000000AA55\n:00000001FE" 0 (0xFFFF ∷ [])
    ∷ leaves BenchBottom 16384 ":01000000AA55\n:02000002F0000C\n:00000001FF" 0 (0xFFFF ∷ [])
    ∷ leaves BenchBottom 16384 ":01000000AA55\n:01800000AAD5\n:00000001FF" 0 (0xFFFF ∷ [])
    ∷ leaves BenchBottom 16384 ":01000000AA55\n" 0 (0xFFFF ∷ [])
    ∷ leaves BenchTop 8 ":01000000AA55\n:00000001FF" 0 blank
    -- "upper case, LF after each record, 16 data bytes a record, lowest first, a 04 record before each .. the end record last"
    ∷ prints BenchBottom (0x0000 ∷ 0x0101 ∷ 0x0202 ∷ 0x0303 ∷ 0x0404 ∷ 0x0505 ∷ 0x0606 ∷ 0x0707 ∷ 0x0808 ∷ 0x0909 ∷ 0x0A0A ∷ 0x0B0B ∷ 0x0C0C ∷ 0x0D0D ∷ 0x0E0E ∷ 0x0F0F ∷ [])
    ":020000040000FA\n:1000000000000101020203030404050506060707B8\n:10001000080809090A0A0B0B0C0C0D0D0E0E0F0F28\n:00000001FF\n"
    ∷ prints FullTop (0x1234 ∷ 0xABCD ∷ replicate 6 0xFFFF) ":020000040000FA\n:100000003412CDABFFFFFFFFFFFFFFFFFFFFFFFF3E\n:00000001FF\n"
    -- "a 04 record before each 65,536 bytes or a bench part's 32,768"
    ∷ sixteen FullBottom 32768 ":10800000FFFFFFFFFFFFFFFFFFFFFFFFFFFFFFFF80\n"
    ∷ sixteen FullBottom 65520 ":10FFF000FFFFFFFFFFFFFFFFFFFFFFFFFFFFFFFF11\n"
    ∷ sixteen FullBottom 65536 ":020000040001F9\n:10000000FFFFFFFFFFFFFFFFFFFFFFFFFFFFFFFF00\n"
    ∷ sixteen FullTop 32768 ":10800000FFFFFFFFFFFFFFFFFFFFFFFFFFFFFFFF80\n"
    ∷ sixteen FullTop 65536 ":020000040001F9\n:10000000FFFFFFFFFFFFFFFFFFFFFFFFFFFFFFFF00\n"
    ∷ sixteen BenchBottom 16384 ":10400000FFFFFFFFFFFFFFFFFFFFFFFFFFFFFFFFC0\n"
    ∷ sixteen BenchTop 16384 ":10400000FFFFFFFFFFFFFFFFFFFFFFFFFFFFFFFFC0\n"
    ∷ sixteen BenchTop 32752 ":107FF000FFFFFFFFFFFFFFFFFFFFFFFFFFFFFFFF91\n"
    ∷ upper 1 ":020000040001F9\n"
    ∷ upper 0x01FF ":0200000401FFFA\n"
    -- 1 comes before 17, whose edges are `room_edges` (Laws)
    ∷ writes BenchBottom 16383 90140 (Err ArrayLength)
    ∷ writes BenchTop 8 0 (Err ArrayLength)
    ∷ writes FullTop 16384 0 (Err ArrayLength)
    ∷ keeps BenchBottom 8 80
    ∷ keeps FullTop 8 72
    ∷ []

pub cases_hold : T (every cases)
unfolding record_lines digit all_digits pairs bytes malformed total sum_wrong named_from named_by outside record_refusal refusal_from lines_from named byte_after words_after verdict tabulate digit_of digits_of record_text bytes_of sixteen_at sixteens text_of written array_read placed room_after
cases_hold = tt
