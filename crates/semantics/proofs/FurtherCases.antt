-- Cases beside document 01's twelve, computed by the checker, for each rule of document 01 that the twelve leave open, and of document 02, items 1, 2, 4 and 5: a rule that is written down wrong makes a
-- case fail, and the error stands at the `tt` of its list.
-- Assumes nothing.
use Rattle.std.specs.Prelude.{T}
use Rattle.geometry.specs.Blocks.{mirror, block_from, block_of, bank_of, size_of, start_from, start_of, bank_start, block_offset, bank_offset, bank_of_block, lookup_of}
use Rattle.protection.specs.Words.{bit, bit_at, is_unprotected, with_unprotected, spare_zero, all_protected, count, least, unprotected_count, lowest_unprotected, report_of}
use Rattle.semantics.specs.Tabulate.{tabulate}
use Rattle.semantics.specs.State.{empty_buffer, power_up}
use Rattle.semantics.specs.Register.{without_reserved, reserved_zero}
use Rattle.semantics.specs.Supply.{end_flags, ended, ended_if_unsupplied, switched}
use Rattle.semantics.specs.WellFormed.{running_alone, program_alone, erase_alone, erase_fits, words_fit, buffer_fits, setup_fits, running_fits, program_fits, suspended_erase_fits, all_fit, running_apart, program_apart, apart, activity_formed, setup_places, running_places, program_places, places_used, zero_from, runs_supplied, well_formed}
use Rattle.semantics.specs.Reading.{runs_in, status_word, signature_word, query_word, shown, shows_by, read_in, read_word}
use Rattle.semantics.specs.Writing.{command_of, resume, accepts, set_up, clear_status, first_cycle, program_runs, erase_cycle, lock_command_of, lock_cycle, settle, loads, count_right, first_right, later_right, confirm_right, confirm_cycle, words_cycle, cycle, kept_if, first_loaded, words_loaded, held_after, loaded, written_at, written}
use Rattle.semantics.specs.Working.{units_left, units_done, running_after, word_after, array_after, buffer_after, worked_on, worked, worked_array}
use Rattle.semantics.specs.Card.{given, card}
use Rattle.semantics.specs.Steps.{refusal_of, switched_to, accepted, accepted_array, step_of, array_of, reported_of}
use Rattle.semantics.specs.Cases.{every}
use Rattle.semantics.proofs.WordByWord.{played}
use Rattle.semantics.specs.ReadingCases.{reading_cases}
use Rattle.semantics.specs.WritingCases.{writing_cases}
use Rattle.semantics.specs.OperationCases.{array_cases, operation_cases}
use Rattle.semantics.specs.RefusalCases.{refusal_cases}
use Rattle.semantics.specs.BufferCases.{buffer_cases}
use Rattle.semantics.specs.StatusCases.{status_cases}
use Rattle.semantics.specs.RegisterCases.{register_cases}
use Rattle.semantics.specs.SupplyCases.{supply_cases}

-- the refusals, and cases of the array, through the whole steps, their arrays counted
pub whole_hold : T (every refusal_cases) × T (every array_cases)
unfolding mirror block_from block_of bank_of size_of start_from start_of bank_start block_offset bank_offset bank_of_block lookup_of bit bit_at is_unprotected with_unprotected spare_zero all_protected count least unprotected_count lowest_unprotected report_of empty_buffer power_up running_alone program_alone erase_alone erase_fits words_fit buffer_fits setup_fits running_fits program_fits suspended_erase_fits all_fit running_apart program_apart apart activity_formed setup_places running_places program_places places_used zero_from reserved_zero runs_supplied well_formed runs_in status_word signature_word query_word shown shows_by read_in read_word command_of end_flags ended ended_if_unsupplied resume accepts set_up clear_status first_cycle program_runs erase_cycle lock_command_of without_reserved lock_cycle settle loads count_right first_right later_right confirm_right confirm_cycle words_cycle cycle kept_if first_loaded words_loaded held_after loaded written_at written units_left units_done running_after word_after tabulate array_after buffer_after worked_on worked worked_array given card refusal_of switched switched_to accepted accepted_array step_of array_of reported_of
whole_hold = (tt, tt)

-- the others with their arrays told word by word
pub further_hold : T (every reading_cases) × T (every writing_cases) × T (every operation_cases) × T (every refusal_cases) × T (every buffer_cases) × T (every status_cases) × T (every register_cases)
unfolding mirror block_from block_of bank_of size_of start_from start_of bank_start block_offset bank_offset bank_of_block lookup_of bit bit_at is_unprotected with_unprotected spare_zero all_protected count least unprotected_count lowest_unprotected report_of empty_buffer power_up running_alone program_alone erase_alone erase_fits words_fit buffer_fits setup_fits running_fits program_fits suspended_erase_fits all_fit running_apart program_apart apart activity_formed setup_places running_places program_places places_used zero_from reserved_zero runs_supplied well_formed runs_in status_word signature_word query_word shown shows_by read_in read_word command_of end_flags ended ended_if_unsupplied resume accepts set_up clear_status first_cycle program_runs erase_cycle lock_command_of without_reserved lock_cycle settle loads count_right first_right later_right confirm_right confirm_cycle words_cycle cycle kept_if first_loaded words_loaded held_after loaded written_at written units_left units_done running_after word_after tabulate array_after buffer_after worked_on worked worked_array given card refusal_of switched switched_to accepted accepted_array step_of array_of reported_of
further_hold = (played reading_cases tt, played writing_cases tt, played operation_cases tt, whole_hold.0, played buffer_cases tt, played status_cases tt, played register_cases tt)

-- and those of the supply
pub supply_hold : T (every supply_cases)
unfolding mirror block_from block_of bank_of size_of start_from start_of bank_start block_offset bank_offset bank_of_block lookup_of bit bit_at is_unprotected with_unprotected spare_zero all_protected count least unprotected_count lowest_unprotected report_of empty_buffer power_up running_alone program_alone erase_alone erase_fits words_fit buffer_fits setup_fits running_fits program_fits suspended_erase_fits all_fit running_apart program_apart apart activity_formed setup_places running_places program_places places_used zero_from reserved_zero runs_supplied well_formed runs_in status_word signature_word query_word shown shows_by read_in read_word command_of end_flags ended ended_if_unsupplied resume accepts set_up clear_status first_cycle program_runs erase_cycle lock_command_of without_reserved lock_cycle settle loads count_right first_right later_right confirm_right confirm_cycle words_cycle cycle kept_if first_loaded words_loaded held_after loaded written_at written units_left units_done running_after word_after tabulate array_after buffer_after worked_on worked worked_array given card refusal_of switched switched_to accepted accepted_array step_of array_of reported_of
supply_hold = played supply_cases tt
