-- Texts and their lines, and scripts and their transcripts, each as one table under one statement: the checker computes each through the definition.
-- Assumes nothing.
use Rattle.std.specs.Prelude.{ℕ, List, [], ◌∷◌, map, ◌≡◌, refl, replicate}
use Prim.Native.String.{String}
use Rattle.geometry.specs.Blocks.{mirror, block_from, block_of, bank_of, size_of, start_from, start_of, bank_start, block_offset, bank_offset, bank_of_block, lookup_of}
use Rattle.protection.specs.Words.{bit, bit_at, is_unprotected, with_unprotected, spare_zero, all_protected}
use Rattle.line.specs.Forms.{hex_value, digits as line_digits, number, begins, is_read, is_write, is_work, is_supply, is_reset, step_of_line}
use Rattle.printing.specs.Text.{text, digit_of, digits, decimal, hex4, answer_text, line_text, end_text}
use Rattle.semantics.specs.Tabulate.{tabulate}
use Rattle.semantics.specs.State.{empty_buffer, power_up}
use Rattle.semantics.specs.Register.{without_reserved, reserved_zero}
use Rattle.semantics.specs.Supply.{end_flags, ended, ended_if_unsupplied, switched}
use Rattle.semantics.specs.WellFormed.{running_alone, program_alone, erase_alone, erase_fits, words_fit, buffer_fits, setup_fits, running_fits, program_fits, suspended_erase_fits, all_fit, running_apart, program_apart, apart, activity_formed, setup_places, running_places, program_places, places_used, zero_from, runs_supplied, well_formed}
use Rattle.semantics.specs.Reading.{runs_in, status_word, signature_word, query_word, shown, shows_by, read_in, read_word}
use Rattle.semantics.specs.Writing.{command_of, resume, accepts, set_up, clear_status, first_cycle, program_runs, erase_cycle, lock_command_of, lock_cycle, settle, loads, count_right, first_right, later_right, confirm_right, confirm_cycle, words_cycle, cycle, kept_if, first_loaded, words_loaded, held_after, loaded, written_at, written}
use Rattle.semantics.specs.Working.{units_left, units_done, running_after, word_after, array_after, buffer_after, worked_on, worked, worked_array}
use Rattle.semantics.specs.Card.{given, card}
use Rattle.semantics.specs.Steps.{switched_to, accepted, accepted_array}
use Rattle.wear.specs.Counts.{row_of, place_in, count_at, count_of, shared_zero, no_counts, put_at, with_count, one_more, counts_after}
use Rattle.wear.specs.Steps.{formed_with, refusal_with, accepted_counts, step_with, array_with, counts_with}
use Rattle.lines.specs.Lines.{lines}
use Rattle.script.specs.Script.{script_of, line_refusal, machine_at_end, transcript_of}

infix 20 ◌⟶◌
-- a text, and its lines
pub data Case : Type 0 where
  ◌⟶◌ : String → List String → Case

abbrev pub found : Case → List (List ℕ)
found (t ⟶ ls) = lines (text t)

abbrev pub expected : Case → List (List ℕ)
expected (t ⟶ ls) = map text ls

abbrev pub cases : List Case
cases =
    ("" ⟶ [])
    ∷ ("Z" ⟶ "Z" ∷ [])
    ∷ ("Z\n" ⟶ "Z" ∷ [])
    ∷ ("\n" ⟶ "" ∷ [])
    ∷ ("\n\n" ⟶ "" ∷ "" ∷ [])
    ∷ ("V 1\nZ" ⟶ "V 1" ∷ "Z" ∷ [])
    ∷ ("V 1\n\nZ\n" ⟶ "V 1" ∷ "" ∷ "Z" ∷ [])
    ∷ ("V 1\r\nZ\r" ⟶ "V 1\r" ∷ "Z\r" ∷ [])
    ∷ []

pub cases_hold : map found cases ≡ map expected cases
unfolding lines
cases_hold = refl

-- ---- scripts and their transcripts

-- an array, a script on it, and what is printed
pub data Play : Type 0 where
  play : List ℕ → String → String → Play

abbrev pub printed : Play → List ℕ
printed (play xs t o) = transcript_of xs (text t)

abbrev pub output : Play → List ℕ
output (play xs t o) = text o

-- document 02, item 6: erases of blocks 0 and 4, one of them suspended before its last word, and one broken off by a reset; erases of blocks 19 and 1, and one of 19 that the supply cuts
abbrev wear_reset : String
wear_reset = "V 1\nW 000000 0060\nW 000000 00D0\nW 000040 0060\nW 000040 00D0\nW 000000 0020\nW 000000 00D0\nK 16\nW 000040 0020\nW 000040 00D0\nK 63\nW 000040 00B0\nW 000040 00D0\nK 1\nW 000040 0020\nW 000040 00D0\nK 64\nZ\nW 000040 0060\nW 000040 00D0\nW 000040 0020\nW 000040 00D0\nK 10\nZ\n"

abbrev wear_supply : String
wear_supply = "V 1\nW 000400 0060\nW 000400 00D0\nW 000010 0060\nW 000010 00D0\nW 000400 0020\nW 000400 00D0\nK 64\nW 000010 0020\nW 000010 00D0\nK 16\nW 000400 0020\nW 000400 00D0\nK 30\nV 0\nK 34\n"

abbrev pub plays : List Play
plays =
    -- "Input: .. Whole output: ..", on 16,384 words that "start as FFFFh"
    play (replicate 16384 0xFFFF)
    "V 1\nW 000040 0060\nW 000040 00D0\nW 000041 0040\nW 000041 1234\nR 000041\nK 5\nR 000041\nW 000000 00FF\nR 000041\nR 004041\nK 99999\n"
    "1 ok\n2 ok\n3 ok\n4 ok\n5 ok\n6 0000\n7 1\n8 0080\n9 ok\n10 1234\n11 1234\n12 refused 4\nend 12\n"
    -- "A line over 16 bytes, or empty, is refused 6." and changes nothing
    ∷ play (replicate 16384 0xFFFF) "\nV 1\nW 000040 0060 00\nZ 1\nR 000040" "1 refused 6\n2 ok\n3 refused 6\n4 refused 6\n5 FFFF\nend 5\n"
    -- "array length is not 256u": every line is refused 1, one without a form too
    ∷ play (replicate 3 0xFFFF) "X" "1 refused 1\nend 1\n"
    ∷ play (replicate 3 0xFFFF) "V 1\n\nK 00\nR 000000\nK 99999\n" "1 refused 1\n2 refused 1\n3 refused 1\n4 refused 1\n5 refused 1\nend 5\n"
    ∷ play (replicate 16385 0xFFFF) "X\nZ\n" "1 refused 1\n2 refused 1\nend 2\n"
    -- document 02, item 4: the default register, and FFFFh stored as it; 5432h and 4030h stored without their reserved bits, and reset
    ∷ play (replicate 16384 0xFFFF)
    "W 000000 0090\nR 000005\nW 00FFFF 0060\nW 00FFFF 0003\nR 000005\nR 003C00\n"
    "1 ok\n2 BFCF\n3 ok\n4 ok\n5 BFCF\n6 0080\nend 6\n"
    ∷ play (replicate 16384 0xFFFF)
    "W 000000 0090\nW 005432 0060\nW 005432 0003\nR 000005\nW 004030 0060\nR 000005\nW 004030 0003\nW 000000 0090\nR 000005\nZ\nW 000000 0090\nR 000005\n"
    "1 ok\n2 ok\n3 ok\n4 1402\n5 ok\n6 0080\n7 ok\n8 ok\n9 0000\n10 ok\n11 ok\n12 BFCF\nend 12\n"
    -- document 02, item 5: an erase cut by the supply after 10 of 64 words
    ∷ play (replicate 16384 0xFFFF)
    "V 1\nW 000040 0060\nW 000040 00D0\nW 000040 0040\nW 000040 0000\nK 1\nW 00004A 0040\nW 00004A 0000\nK 1\nW 000040 0020\nW 000040 00D0\nK 10\nV 0\nR 000040\nK 5\nW 000040 0050\nV 1\nK 5\nR 000040\nW 000040 00FF\nR 000040\nR 00004A\n"
    "1 ok\n2 ok\n3 ok\n4 ok\n5 ok\n6 1\n7 ok\n8 ok\n9 1\n10 ok\n11 ok\n12 10\n13 ok\n14 00A8\n15 0\n16 ok\n17 ok\n18 0\n19 0080\n20 ok\n21 FFFF\n22 0000\nend 22\n"
    -- a program and an erase suspended, and ended by D0h without supply, one after the other
    ∷ play (replicate 16384 0xFFFF)
    "V 1\nW 000040 0060\nW 000040 00D0\nW 000080 0060\nW 000080 00D0\nW 000040 0020\nW 000040 00D0\nK 1\nW 000040 00B0\nW 000080 0040\nW 000080 1234\nW 000080 00B0\nR 000080\nV 0\nR 000080\nW 000080 00D0\nR 000080\nW 000080 00D0\nR 000080\nV 1\nK 5\nW 000080 00D0\nR 000080\nW 000080 00FF\nR 000080\n"
    "1 ok\n2 ok\n3 ok\n4 ok\n5 ok\n6 ok\n7 ok\n8 1\n9 ok\n10 ok\n11 ok\n12 ok\n13 00C4\n14 ok\n15 00C4\n16 ok\n17 00D8\n18 ok\n19 00B8\n20 ok\n21 0\n22 ok\n23 00B8\n24 ok\n25 FFFF\nend 25\n"
    -- a load over supply off and on, and its buffer program cut after one of two words
    ∷ play (replicate 16384 0xFFFF)
    "V 1\nW 000040 0060\nW 000040 00D0\nW 000040 00E8\nW 000040 0001\nW 000040 AAAA\nW 000041 BBBB\nV 0\nV 1\nW 000040 00D0\nK 1\nV 0\nR 000040\nW 000040 00FF\nR 000040\nR 000041\n"
    "1 ok\n2 ok\n3 ok\n4 ok\n5 ok\n6 ok\n7 ok\n8 ok\n9 ok\n10 ok\n11 1\n12 ok\n13 0098\n14 ok\n15 AAAA\n16 FFFF\nend 16\n"
    -- document 02, item 6
    ∷ play (replicate 16384 0xFFFF) wear_reset
    "1 ok\n2 ok\n3 ok\n4 ok\n5 ok\n6 ok\n7 ok\n8 16\n9 ok\n10 ok\n11 63\n12 ok\n13 ok\n14 1\n15 ok\n16 ok\n17 64\n18 ok\n19 ok\n20 ok\n21 ok\n22 ok\n23 10\n24 ok\nend 24\n"
    ∷ play (replicate 16384 0xFFFF) wear_supply
    "1 ok\n2 ok\n3 ok\n4 ok\n5 ok\n6 ok\n7 ok\n8 64\n9 ok\n10 ok\n11 16\n12 ok\n13 ok\n14 30\n15 ok\n16 0\nend 16\n"
    ∷ []

pub plays_hold : map printed plays ≡ map output plays
unfolding script_of lines line_refusal transcript_of digit_of digits decimal hex4 answer_text line_text end_text hex_value line_digits number begins is_read is_write is_work is_supply is_reset step_of_line mirror block_from block_of bank_of size_of start_from start_of bank_start block_offset bank_offset bank_of_block lookup_of bit bit_at is_unprotected with_unprotected spare_zero all_protected empty_buffer power_up running_alone program_alone erase_alone erase_fits words_fit buffer_fits setup_fits running_fits program_fits suspended_erase_fits all_fit running_apart program_apart apart activity_formed setup_places running_places program_places places_used zero_from reserved_zero runs_supplied well_formed runs_in status_word signature_word query_word shown shows_by read_in read_word command_of end_flags ended ended_if_unsupplied resume accepts set_up clear_status first_cycle program_runs erase_cycle lock_command_of without_reserved lock_cycle settle loads count_right first_right later_right confirm_right confirm_cycle words_cycle cycle kept_if first_loaded words_loaded held_after loaded written_at written units_left units_done running_after word_after tabulate array_after buffer_after worked_on worked worked_array given card switched switched_to accepted accepted_array row_of place_in count_at count_of shared_zero no_counts put_at with_count one_more counts_after formed_with refusal_with accepted_counts step_with array_with counts_with
plays_hold = refl

-- ---- the counts after a script, which no line of it shows

-- a script on 16,384 words of FFFFh, and the counts of blocks 0, 1, 4 and 19 after it
pub data Wear : Type 0 where
  wears : String → List ℕ → Wear

abbrev pub counted : Wear → List ℕ
counted (wears t ns) = map (count_of (machine_at_end (replicate 16384 0xFFFF) (text t)).counts) (0 ∷ 1 ∷ 4 ∷ 19 ∷ [])

abbrev pub counts : Wear → List ℕ
counts (wears t ns) = ns

-- document 02, item 6: the two scripts above
abbrev pub worn : List Wear
worn =
    wears wear_reset (1 ∷ 0 ∷ 2 ∷ 0 ∷ [])
    ∷ wears wear_supply (0 ∷ 1 ∷ 0 ∷ 1 ∷ [])
    ∷ []

pub worn_hold : map counted worn ≡ map counts worn
unfolding script_of lines line_refusal transcript_of machine_at_end digit_of digits decimal hex4 answer_text line_text end_text hex_value line_digits number begins is_read is_write is_work is_supply is_reset step_of_line mirror block_from block_of bank_of size_of start_from start_of bank_start block_offset bank_offset bank_of_block lookup_of bit bit_at is_unprotected with_unprotected spare_zero all_protected empty_buffer power_up running_alone program_alone erase_alone erase_fits words_fit buffer_fits setup_fits running_fits program_fits suspended_erase_fits all_fit running_apart program_apart apart activity_formed setup_places running_places program_places places_used zero_from reserved_zero runs_supplied well_formed runs_in status_word signature_word query_word shown shows_by read_in read_word command_of end_flags ended ended_if_unsupplied resume accepts set_up clear_status first_cycle program_runs erase_cycle lock_command_of without_reserved lock_cycle settle loads count_right first_right later_right confirm_right confirm_cycle words_cycle cycle kept_if first_loaded words_loaded held_after loaded written_at written units_left units_done running_after word_after tabulate array_after buffer_after worked_on worked worked_array given card switched switched_to accepted accepted_array row_of place_in count_at count_of shared_zero no_counts put_at with_count one_more counts_after formed_with refusal_with accepted_counts step_with array_with counts_with
worn_hold = refl
