-- A device's state as 25 words of 64 bits, so that programs in C can keep it: which bits say what, the state that words
-- say, and which words are a saved state.
-- Definitions only; the laws are in Laws.
-- Assumes nothing.
use Rattle.std.specs.Prelude.{ℕ, zero, suc, ◌+◌, ◌*◌, ◌/◌, ◌%◌, Bool, true, false, not, cond, ◌&&◌, List, [], ◌∷◌, ◌++◌, eqb, ltb, length, get_or, drop}
use Rattle.std.specs.Prelude.{Option, Some, None, Result, Ok, Err}
use Rattle.geometry.specs.declared.Part.{Part}
use Rattle.geometry.specs.declared.Part.TheVariants.{FullBottom, FullTop, BenchBottom, BenchTop}
use Rattle.geometry.specs.Blocks.{part_numbered}
use Rattle.semantics.specs.declared.Mode.{Mode}
use Rattle.semantics.specs.declared.Mode.TheVariants.{Array, Status, Signature, Query}
use Rattle.semantics.specs.declared.Bank.{Bank}
use Rattle.semantics.specs.declared.Setup.{Setup}
use Rattle.semantics.specs.declared.Setup.TheVariants as setup
use Rattle.semantics.specs.declared.Running.{Running}
use Rattle.semantics.specs.declared.Running.TheVariants as running
use Rattle.semantics.specs.declared.SuspendedProgram.{SuspendedProgram}
use Rattle.semantics.specs.declared.SuspendedProgram.TheVariants as program
use Rattle.semantics.specs.declared.SuspendedErase.{SuspendedErase}
use Rattle.semantics.specs.declared.Activity.{Activity}
use Rattle.semantics.specs.declared.Control.{Control}
use Rattle.semantics.specs.declared.Flags.{Flags}
use Rattle.semantics.specs.declared.State.{State}
use Rattle.semantics.specs.State.{with_protection, activity, flags_of, power_up, suspended_erase}
use Rattle.semantics.specs.Tabulate.{tabulate}
use Rattle.semantics.specs.Reading.{bit_if}
use Rattle.saved.specs.declared.Four.{Four}

-- ---- a field as numbers, and back. Of the numbers of an enum the last stands for every other number too

-- 0 full bottom, 1 full top, 2 bench bottom, 3 bench top; back by the geometry's `part_numbered`
abbrev pub part_number : Part → ℕ
part_number FullBottom = 0
part_number FullTop = 1
part_number BenchBottom = 2
part_number BenchTop = 3

-- 0 array, 1 status, 2 signature, 3 query
abbrev pub mode_number : Mode → ℕ
mode_number Array = 0
mode_number Status = 1
mode_number Signature = 2
mode_number Query = 3

abbrev pub mode_numbered : ℕ → Mode
mode_numbered n = cond (eqb n 0) Array (cond (eqb n 1) Status (cond (eqb n 2) Signature Query))

abbrev pub bank_number : Bank → ℕ
bank_number b = mode_number b.mode

-- by the two lowest bits
abbrev pub bank_numbered : ℕ → Bank
bank_numbered n = record { mode = mode_numbered (n % 4) }

-- 0 off, 1 on, back from `bit_if b 1`: by the lowest bit
abbrev pub flag_numbered : ℕ → Bool
flag_numbered n = not (eqb (n % 2) 0)

-- 2^32: the upper half of a word of 64 bits is from here on
abbrev pub half : ℕ
half = 4294967296

-- what is pending, runs or is suspended: its kind, and three numbers, of which one that it does not use is 0.
-- Set-up: 0 nothing, 1 program, 2 erase, 3 lock; of a load 4, block (its count is due), or 5, block, number of words
-- (its first word), or 6, start, number of words, data cycles that are due
abbrev pub setup_numbers : Setup → Four
setup_numbers setup.Nothing = (0, 0, 0, 0)
setup_numbers setup.Program = (1, 0, 0, 0)
setup_numbers setup.Erase = (2, 0, 0, 0)
setup_numbers setup.Lock = (3, 0, 0, 0)
setup_numbers (setup.BufferCount b) = (4, b, 0, 0)
setup_numbers (setup.BufferFirst b n) = (5, b, n, 0)
setup_numbers (setup.BufferWords l n k) = (6, l, n, k)

-- the set-ups that have no number; every other kind is lock
abbrev pub plain_setup : ℕ → Setup
plain_setup k = cond (eqb k 0) setup.Nothing (cond (eqb k 1) setup.Program (cond (eqb k 2) setup.Erase setup.Lock))

-- those of a load; every other kind is the last
abbrev pub load_of : Four → Setup
load_of f = cond (eqb f.0 4) (setup.BufferCount f.1) (cond (eqb f.0 5) (setup.BufferFirst f.1 f.2) (setup.BufferWords f.1 f.2 f.3))

abbrev pub setup_of : Four → Setup
setup_of f = cond (ltb f.0 4) (plain_setup f.0) (load_of f)

-- 0 idle; 1 program, location, data; 2 erase, block, words done; 3 buffer program, start, number of words, words done
abbrev pub running_numbers : Running → Four
running_numbers running.Idle = (0, 0, 0, 0)
running_numbers (running.Program l w) = (1, l, w, 0)
running_numbers (running.Erase b n) = (2, b, n, 0)
running_numbers (running.Buffer l n d) = (3, l, n, d)

abbrev pub running_of : Four → Running
running_of f =
    cond (eqb f.0 0) running.Idle
    (cond (eqb f.0 1) (running.Program f.1 (f.2 % 65536))
    (cond (eqb f.0 2) (running.Erase f.1 f.2)
    (running.Buffer f.1 f.2 f.3)))

-- 0 nothing; 1 program, location, data; 2 buffer program, start, number of words, words done
abbrev pub program_numbers : SuspendedProgram → Four
program_numbers program.Nothing = (0, 0, 0, 0)
program_numbers (program.Program l w) = (1, l, w, 0)
program_numbers (program.Buffer l n d) = (2, l, n, d)

abbrev pub program_of : Four → SuspendedProgram
program_of f =
    cond (eqb f.0 0) program.Nothing
    (cond (eqb f.0 1) (program.Program f.1 (f.2 % 65536))
    (program.Buffer f.1 f.2 f.3))

-- 0 nothing; 1 erase, block, words done
abbrev pub erase_numbers : Option SuspendedErase → Four
erase_numbers None = (0, 0, 0, 0)
erase_numbers (Some e) = (1, e.block, e.done, 0)

abbrev pub erase_of : Four → Option SuspendedErase
erase_of f = cond (eqb f.0 0) None (Some (suspended_erase f.1 f.2))

abbrev pub flag_numbers : Flags → List ℕ
flag_numbers f = bit_if f.sr5 1 ∷ bit_if f.sr4 1 ∷ bit_if f.sr3 1 ∷ bit_if f.sr1 1 ∷ []

-- ---- numbers joined in one, and back

-- two numbers, the second from m on: back by the rest and the quotient, where the first is below m
abbrev pub joined : ℕ → ℕ → ℕ → ℕ
joined m x y = x + y * m

-- four numbers in two words: the first in the lower half of the first word (bits 0 to 31), the second in its upper half
-- (from bit 32), the third and the fourth so in the second word
abbrev pub in_halves : Four → List ℕ
in_halves f = joined half f.0 f.1 ∷ joined half f.2 f.3 ∷ []

-- the four numbers of two words
abbrev pub of_halves : ℕ → ℕ → Four
of_halves v w = (v % half, v / half % half, w % half, w / half % half)

-- those of words i and i + 1
abbrev pub four_at : List ℕ → ℕ → Four
four_at ws i = of_halves (get_or ws i 0) (get_or ws (i + 1) 0)

-- words i and i + 1 hold these four
abbrev pub holds : List ℕ → ℕ → Four → Bool
holds ws i f = eqb (get_or ws i 0) (joined half f.0 f.1) && eqb (get_or ws (i + 1) 0) (joined half f.2 f.3)

-- a byte each, the first lowest
abbrev pub bytes : List ℕ → ℕ
bytes [] = 0
bytes (x ∷ l) = joined 256 x (bytes l)

-- what stands from byte k on
abbrev pub from_byte : ℕ → ℕ → ℕ
from_byte zero w = w
from_byte (suc k) w = from_byte k (w / 256)

-- ---- the 25 words

-- the first n words of a list, 0 where it has none
abbrev pub first : ℕ → List ℕ → List ℕ
first n l = tabulate n (λ k. get_or l k 0)

-- the modes of eight banks from bank i on, a byte each, and the eight banks that a word says
abbrev pub modes_word : List Bank → ℕ → ℕ
modes_word l i = bytes (tabulate 8 (λ k. bank_number (get_or l (i + k) (record { mode = Array }))))

abbrev pub modes_in : ℕ → List Bank
modes_in w = tabulate 8 (λ k. bank_numbered (from_byte k w))

-- the words of the banks, and the banks that words say
abbrev pub bank_words : List Bank → List ℕ
bank_words l = modes_word l 0 ∷ modes_word l 8 ∷ []

abbrev pub banks_of : List ℕ → List Bank
banks_of ws = modes_in (get_or ws 1 0) ++ modes_in (get_or ws 2 0)

-- the words of what is under way
abbrev pub activity_words : Activity → List ℕ
activity_words a = in_halves (setup_numbers a.setup) ++ (in_halves (running_numbers a.running) ++ (in_halves (program_numbers a.program) ++ in_halves (erase_numbers a.erase)))

-- the flags a byte each (bits 0 to 31), the configuration register (bits 32 to 47), the supply (from bit 48)
abbrev pub control_word : Flags → ℕ → Bool → ℕ
control_word f configuration supply = joined half (bytes (flag_numbers f)) (joined 65536 configuration (bit_if supply 1))

-- the words of the rest of a state, but for the buffer
abbrev pub rest_words : Flags → List ℕ → ℕ → Bool → List ℕ
rest_words f u configuration supply = control_word f configuration supply ∷ first 5 u

abbrev pub rest_of : State → List ℕ
rest_of s = rest_words s.control.flags s.unprotected s.control.configuration s.control.supply

-- four words of the buffer in one, the first lowest
abbrev pub packed : ℕ → ℕ → ℕ → ℕ → ℕ
packed a b c d = a + b * 65536 + c * half + d * 281474976710656

-- and back, that with the number k. The last is all that is left, which of a word of 64 bits is 16 bits
abbrev pub lane : ℕ → ℕ → ℕ
lane w k = cond (eqb k 0) (w % 65536) (cond (eqb k 1) (w / 65536 % 65536) (cond (eqb k 2) (w / half % 65536) (w / 281474976710656)))

-- word j of the words of a buffer, and word i of the buffer that words say
abbrev pub packed_at : List ℕ → ℕ → ℕ
packed_at bs j = packed (get_or bs (4 * j) 0) (get_or bs (4 * j + 1) 0) (get_or bs (4 * j + 2) 0) (get_or bs (4 * j + 3) 0)

abbrev pub lane_at : List ℕ → ℕ → ℕ
lane_at ws i = lane (get_or ws (i / 4) 0) (i % 4)

abbrev pub buffer_words : List ℕ → List ℕ
buffer_words bs = tabulate 8 (packed_at bs)

abbrev pub buffer_in : List ℕ → List ℕ
buffer_in ws = tabulate 32 (lane_at (drop 17 ws))

-- word 0 the part; 1 and 2 the modes of banks 0 to 7 and 8 to 15, a byte each, the lowest bank in the lowest byte;
-- 3 and 4 the set-up; 5 and 6 what runs; 7 and 8 the suspended program; 9 and 10 the suspended erase: the kind in the
-- lower half of the first word, the numbers in its upper half and in the lower and the upper half of the second;
-- 11 the flags SR5, SR4, SR3, SR1 a byte each from the lowest, the configuration register in bits 32 to 47, the supply
-- from bit 48;
-- 12 to 16 the protection words; 17 to 24 the buffer, four of its words to a word
unfoldable pub saved_of : State → List ℕ
saved_of s =
    part_number s.part ∷ (bank_words s.banks ++ (activity_words s.control.activity ++ (rest_of s ++ buffer_words s.buffer)))

-- the state that words say, whatever they are, field by field: a word that is missing is 0, and a number is reduced to
-- the bits that its field has, which for a protection word, and for a word of the buffer, are all
abbrev pub activity_of : List ℕ → Activity
activity_of ws =
    activity (setup_of (four_at ws 3)) (running_of (four_at ws 5)) (program_of (four_at ws 7)) (erase_of (four_at ws 9))

abbrev pub flags_in : ℕ → Flags
flags_in w = flags_of (flag_numbered w) (flag_numbered (from_byte 1 w)) (flag_numbered (from_byte 2 w)) (flag_numbered (from_byte 3 w))

abbrev pub protection_in : List ℕ → List ℕ
protection_in ws = get_or ws 12 0 ∷ get_or ws 13 0 ∷ get_or ws 14 0 ∷ get_or ws 15 0 ∷ get_or ws 16 0 ∷ []

-- the flags of the lower half of word 11, the register and the supply of its upper half
abbrev pub control_of : List ℕ → Control
control_of ws = record {
  activity = activity_of ws;
  flags = flags_in (get_or ws 11 0 % half);
  configuration = get_or ws 11 0 / half % 65536;
  supply = flag_numbered (get_or ws 11 0 / half / 65536);
}

unfoldable pub loaded_of : List ℕ → State
loaded_of ws = record { part = part_numbered (get_or ws 0 0); banks = banks_of ws; unprotected = protection_in ws; control = control_of ws; buffer = buffer_in ws }

-- two lists are the same, word by word
unfoldable pub same : List ℕ → List ℕ → Bool
same [] [] = true
same [] (y ∷ l) = false
same (x ∷ k) [] = false
same (x ∷ k) (y ∷ l) = eqb x y && same k l

-- words are a saved state where they are what the state that they say is saved as: so there are 25, and bits that are
-- not used are 0
unfoldable pub is_saved : List ℕ → Bool
is_saved ws = same ws (saved_of (loaded_of ws))

-- for words that are no saved state: power-up of the part that they name, not well formed by a spare bit of the
-- protection words, so that the device refuses every step, with 2 where the array has the part's length
unfoldable pub no_state : List ℕ → State
no_state ws = with_protection (power_up (part_numbered (get_or ws 0 0))) (0 ∷ 0 ∷ 0 ∷ 0 ∷ 8 ∷ [])

unfoldable pub state_of : List ℕ → State
state_of ws = cond (is_saved ws) (loaded_of ws) (no_state ws)

-- what the words are found to be: `Ok` where they are a saved state, and either way the state that they say
abbrev pub found_of : List ℕ → Result State State
found_of ws = cond (is_saved ws) (Ok (state_of ws)) (Err (state_of ws))

-- room for a saved state stays as it is where it has not 25 words
unfoldable pub put_into : List ℕ → List ℕ → List ℕ
put_into room ws = cond (eqb (length room) 25) ws room

-- ---- a saved state by the range of each word, but for those of what is under way, which are compared:
-- `is_saved_in_range` (Ranges) says that it is the same

-- the lowest n bytes, and what is above them, are each below m
unfoldable pub bytes_below : ℕ → ℕ → ℕ → Bool
bytes_below m zero w = ltb w m
bytes_below m (suc n) w = ltb (w % 256) m && bytes_below m n (w / 256)

-- the words of what is under way are those that this is saved as
unfoldable pub activity_same : List ℕ → Activity → Bool
activity_same ws a =
    holds ws 3 (setup_numbers a.setup)
    && (holds ws 5 (running_numbers a.running)
    && (holds ws 7 (program_numbers a.program)
    && holds ws 9 (erase_numbers a.erase)))

-- what is under way, where its words are so
abbrev pub decoded_of : List ℕ → Option Activity
decoded_of ws = cond (activity_same ws (activity_of ws)) (Some (activity_of ws)) None

-- nothing is pending, runs or is suspended
abbrev pub resting : Activity
resting = activity setup.Nothing running.Idle program.Nothing None

-- the four flags 0 or 1, and so the supply; the configuration register is any 16 bits, of which `well_formed` judges the
-- reserved ones
abbrev pub control_in_range : ℕ → Bool
control_in_range w = bytes_below 2 3 (w % half) && ltb (w / half / 65536) 2

-- 25 words; the part below 4, and each mode; the flags and the supply; a protection word is any number, and so is
-- one of the buffer
unfoldable pub rest_in_range : List ℕ → Bool
rest_in_range ws =
    eqb (length ws) 25
    && (ltb (get_or ws 0 0) 4
    && (bytes_below 4 7 (get_or ws 1 0)
    && (bytes_below 4 7 (get_or ws 2 0)
    && control_in_range (get_or ws 11 0))))

abbrev pub in_range : List ℕ → Bool
in_range ws = rest_in_range ws && activity_same ws (activity_of ws)
