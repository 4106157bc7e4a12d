-- Lists of steps of a device with its counts, and what each step answers and leaves: document 02, item 6. The checker computes each from the definitions of the steps: a rule that is
-- written down wrong makes a case fail.
-- Bench bottom: block 0 has the locations 0 to F, block 1 10 to 1F, block 4 40 to 7F, block 5 80 to BF, all in bank 0, block 19 400 to 43F, in bank 1, and block 258 3FC0 to 3FFF.
-- Assumes nothing.
use Rattle.std.specs.Prelude.{ℕ, true, false, List, [], ◌∷◌, ◌++◌, map, ◌≡◌, refl, replicate, Some, None}
use Rattle.refusal.specs.declared.Refusal.{Refusal}
use Rattle.refusal.specs.declared.Refusal.TheVariants as refusal
use Rattle.geometry.specs.declared.Part.{Part}
use Rattle.geometry.specs.declared.Part.TheVariants.{FullTop, BenchBottom, BenchTop}
use Rattle.geometry.specs.Blocks.{mirror, block_from, block_of, bank_of, size_of, start_from, start_of, bank_start, block_offset, bank_offset, bank_of_block, lookup_of}
use Rattle.protection.specs.Words.{bit, bit_at, is_unprotected, with_unprotected, spare_zero, all_protected}
use Rattle.semantics.specs.declared.Setup.TheVariants as setup
use Rattle.semantics.specs.declared.Running.TheVariants as running
use Rattle.semantics.specs.declared.SuspendedProgram.TheVariants as suspended_program
use Rattle.semantics.specs.declared.Step.{Step}
use Rattle.semantics.specs.declared.Step.TheVariants.{Read, Write, Work, Supply, Reset}
use Rattle.semantics.specs.declared.Answer.{Answer}
use Rattle.semantics.specs.declared.Answer.TheVariants.{Word, Units, Done, Refused}
use Rattle.semantics.specs.declared.State.{State}
use Rattle.semantics.specs.Tabulate.{tabulate}
use Rattle.semantics.specs.State.{empty_buffer, power_up, activity, with_activity, with_protection, with_supply, suspended_erase}
use Rattle.semantics.specs.Register.{without_reserved, reserved_zero}
use Rattle.semantics.specs.Supply.{end_flags, ended, ended_if_unsupplied, switched}
use Rattle.semantics.specs.WellFormed.{running_alone, program_alone, erase_alone, erase_fits, words_fit, buffer_fits, setup_fits, running_fits, program_fits, suspended_erase_fits, all_fit, running_apart, program_apart, apart, activity_formed, setup_places, running_places, program_places, places_used, zero_from, runs_supplied, well_formed}
use Rattle.semantics.specs.Reading.{runs_in, status_word, signature_word, query_word, shown, shows_by, read_in, read_word}
use Rattle.semantics.specs.Writing.{command_of, resume, accepts, set_up, clear_status, first_cycle, program_runs, erase_cycle, lock_command_of, lock_cycle, settle, loads, count_right, first_right, later_right, confirm_right, confirm_cycle, words_cycle, cycle, kept_if, first_loaded, words_loaded, held_after, loaded, written_at, written}
use Rattle.semantics.specs.Working.{units_left, units_done, running_after, word_after, array_after, buffer_after, worked_on, worked, worked_array}
use Rattle.semantics.specs.Card.{given, card}
use Rattle.semantics.specs.Steps.{switched_to, accepted, accepted_array}
use Rattle.wear.specs.Counts.{Counts, lent, row_of, place_in, count_at, count_of, shared_zero, no_counts, put_at, with_count, one_more, counts_after}
use Rattle.wear.specs.Steps.{formed_with, refusal_with, accepted_counts, step_with, array_with, counts_with, Counted, beside, answer_with, after_with, after_all_with, answers_with, fresh_with}
use Rattle.wear.specs.CountCases.{up, rows, at, smalls, spread}

-- ---- counts

-- those of 6a and 6b: blocks 0 and 4, and 1 and 19, all others 0
abbrev pub zero_four : ℕ → ℕ → Counts
zero_four a b = lent ((0 ∷ b ∷ replicate 14 0) ∷ replicate 15 (replicate 16 0)) (a ∷ 0 ∷ 0 ∷ 0 ∷ [])

abbrev pub one_nineteen : ℕ → ℕ → Counts
one_nineteen a b = lent (replicate 16 0 ∷ (b ∷ replicate 15 0) ∷ replicate 14 (replicate 16 0)) (0 ∷ a ∷ 0 ∷ 0 ∷ [])

abbrev pub none : Counts
none = smalls 0 0 0 0

-- block 4's count, all others 0
abbrev pub four : ℕ → Counts
four n = zero_four 0 n

-- ---- exchanges

infixl 20 ◌⟶◌
-- a step, and what it answers; or the counts as they stand
pub data Exchange : Type 0 where
  ◌⟶◌ : Step → Answer → Exchange
  counts : Counts → Exchange

pub data Seen : Type 0 where
  answered : Answer → Seen
  stood : Counts → Seen

abbrev pub played : Counted → List Exchange → List Seen
played c [] = []
played c ((x ⟶ a) ∷ l) = answered (answer_with c x) ∷ played (after_with c x) l
played c (counts k ∷ l) = stood c.counts ∷ played c l

abbrev pub told : List Exchange → List Seen
told [] = []
told ((x ⟶ a) ∷ l) = answered a ∷ told l
told (counts k ∷ l) = stood k ∷ told l

-- the steps alone
abbrev pub steps_of : List Exchange → List Step
steps_of [] = []
steps_of ((x ⟶ a) ∷ l) = x ∷ steps_of l
steps_of (counts k ∷ l) = steps_of l

-- the answers alone
abbrev pub answers_of : List Exchange → List Answer
answers_of [] = []
answers_of ((x ⟶ a) ∷ l) = a ∷ answers_of l
answers_of (counts k ∷ l) = answers_of l

-- from power-up of a part, on an array of 0; or from a state with its counts, on an array of so many words
pub data Case : Type 0 where
  plays : Part → List Exchange → Case
  starts : State → Counts → ℕ → List Exchange → Case

abbrev pub found : Case → List Seen
found (plays p l) = played (fresh_with p (replicate 16384 0)) l
found (starts s k n l) = played (beside s (replicate n 0) k) l

abbrev pub expected : Case → List Seen
expected (plays p l) = told l
expected (starts s k n l) = told l

abbrev write : ℕ → ℕ → List Exchange
write a w = (Write a w ⟶ Done) ∷ []

abbrev cycles : ℕ → ℕ → ℕ → List Exchange
cycles a c w = (Write a c ⟶ Done) ∷ (Write a w ⟶ Done) ∷ []

abbrev works : ℕ → ℕ → List Exchange
works n m = (Work n ⟶ Units m) ∷ []

abbrev stand : Counts → List Exchange
stand k = counts k ∷ []

abbrev on : List Exchange
on = (Supply true ⟶ Done) ∷ []

abbrev off : List Exchange
off = (Supply false ⟶ Done) ∷ []

abbrev reset : List Exchange
reset = (Reset ⟶ Done) ∷ []

abbrev unprotect : ℕ → List Exchange
unprotect a = cycles a 0x60 0xD0

abbrev erase : ℕ → List Exchange
erase a = cycles a 0x20 0xD0

abbrev program : ℕ → ℕ → List Exchange
program a w = cycles a 0x40 w

-- a buffer program of two words at 80h
abbrev two : List Exchange
two = cycles 0x80 0xE8 1 ++ write 0x80 0xAAAA ++ write 0x81 0xBBBB ++ write 0x80 0xD0

-- B0h and D0h
abbrev pause : List Exchange
pause = write 0x0 0xB0

abbrev goes_on : List Exchange
goes_on = write 0x0 0xD0

-- supply on, and blocks 0, 4 and 5 unprotected; and the erase of block 4 with all but one of its words done
abbrev ready : List Exchange
ready = on ++ unprotect 0x0 ++ unprotect 0x40 ++ unprotect 0x80

abbrev nearly : List Exchange
nearly = erase 0x40 ++ works 63 63

-- ---- 6a and 6b, with the counts where the most worn block is asked for: ReportCases has it of each of these counts

abbrev pub six_a : List Exchange
six_a =
    stand none ++ on ++ unprotect 0x0 ++ unprotect 0x40 ++ erase 0x0 ++ works 16 16 ++ stand (zero_four 1 0) ++ erase 0x40 ++ works 63 63 ++ write 0x40 0xB0 ++ stand (zero_four 1 0) ++ write 0x40 0xD0
    ++ works 1 1 ++ stand (zero_four 1 1) ++ erase 0x40 ++ works 64 64 ++ stand (zero_four 1 2) ++ reset ++ unprotect 0x40 ++ erase 0x40 ++ works 10 10 ++ reset ++ stand (zero_four 1 2)

abbrev pub six_b : List Exchange
six_b =
    on ++ unprotect 0x400 ++ unprotect 0x10 ++ erase 0x400 ++ works 64 64 ++ stand (one_nineteen 0 1) ++ erase 0x10 ++ works 16 16 ++ stand (one_nineteen 1 1) ++ erase 0x400 ++ works 30 30 ++ off ++ works 34 0
    ++ stand (one_nineteen 1 1)

-- ---- states that are handed in

-- an erase of block b that runs with n of its words done
abbrev pub erasing : Part → ℕ → ℕ → State
erasing p b n = with_supply (with_activity (power_up p) (activity setup.Nothing (running.Erase b n) suspended_program.Nothing None)) true

-- one that is suspended, with supply on
abbrev pub waiting : Part → ℕ → ℕ → State
waiting p b n = with_supply (with_activity (power_up p) (activity setup.Nothing running.Idle suspended_program.Nothing (Some (suspended_erase b n)))) true

-- one that runs without supply: not well formed
abbrev pub unsupplied : State
unsupplied = with_supply (erasing BenchBottom 4 63) false

-- blocks 1 and 258 unprotected
abbrev pub unprotected : State → State
unprotected s = with_protection s (2 ∷ 0 ∷ 0 ∷ 0 ∷ 4 ∷ [])

-- one of each kind of step that n words or the counts are refused for, with numbers that are right and numbers that are not; the counts stand after each
abbrev each : Refusal → Counts → List Exchange
each r k =
    (Read 0 ⟶ Refused r) ∷ counts k ∷ (Write 0 0xFF ⟶ Refused r) ∷ counts k ∷ (Work 1 ⟶ Refused r) ∷ counts k ∷ (Work 65535 ⟶ Refused r) ∷ counts k ∷ (Supply true ⟶ Refused r) ∷ counts k
    ∷ (Supply false ⟶ Refused r) ∷ counts k ∷ (Reset ⟶ Refused r) ∷ counts k ∷ (Read 0x1000000 ⟶ Refused r) ∷ (Write 0x1000000 0xFF ⟶ Refused r) ∷ (Work 65536 ⟶ Refused r) ∷ counts k ∷ []

abbrev pub wear_cases : List Case
wear_cases =
    plays BenchBottom six_a ∷ plays BenchBottom six_b
    -- "power-up starts them at 0"
    ∷ plays BenchTop (stand none)
    -- counted in the work step that does the last word, and in no other step: acceptance, work before the end, work of 0 units, reads and writes, the last word, work after it
    ∷ plays BenchBottom
    (ready ++ write 0x40 0x20 ++ stand none ++ write 0x40 0xD0 ++ stand none ++ works 0 0 ++ stand none ++ works 1 1 ++ stand none ++ works 62 62 ++ stand none ++ works 0 0 ++ stand none
    ++ (Read 0x40 ⟶ Word 0) ∷ write 0x40 0xFF ++ on ++ stand none ++ works 1 1 ++ stand (four 1) ++ works 0 0 ++ works 1 0 ++ works 65535 0 ++ stand (four 1) ++ off ++ on ++ goes_on ++ works 5 0 ++ stand (four 1))
    -- all its words in one step, with n left over, and with none
    ∷ plays BenchBottom (ready ++ erase 0x40 ++ works 65535 64 ++ stand (four 1) ++ erase 0x40 ++ works 64 64 ++ stand (four 2) ++ erase 0x40 ++ works 65 64 ++ stand (four 3))
    -- suspended and resumed: not counted at B0h, at D0h, nor while it waits; counted once at its end, however often it was resumed
    ∷ plays BenchBottom
    (ready ++ erase 0x40 ++ works 10 10 ++ pause ++ stand none ++ works 65535 0 ++ stand none ++ goes_on ++ stand none ++ pause ++ goes_on ++ works 53 53 ++ pause ++ stand none ++ goes_on ++ stand none ++ works 1 1
    ++ stand (four 1) ++ goes_on ++ pause ++ works 5 0 ++ stand (four 1))
    -- resumed with its last word left, and with none done
    ∷ plays BenchBottom (ready ++ nearly ++ pause ++ off ++ on ++ goes_on ++ works 65535 1 ++ stand (four 1) ++ erase 0x40 ++ pause ++ goes_on ++ works 64 64 ++ stand (four 2))
    -- a program between, and a buffer program: they finish, and nothing is counted; then the erase is
    ∷ plays BenchBottom (ready ++ nearly ++ pause ++ program 0x80 0x1234 ++ works 5 1 ++ stand none ++ goes_on ++ works 5 1 ++ stand (four 1))
    ∷ plays BenchBottom (ready ++ nearly ++ pause ++ two ++ works 1 1 ++ stand none ++ works 5 1 ++ stand none ++ goes_on ++ works 5 1 ++ stand (four 1))
    -- programs and buffer programs alone, at a location whose number is a block's
    ∷ plays BenchBottom (ready ++ program 0x4 0x4 ++ works 1 1 ++ program 0x40 0 ++ works 1 1 ++ two ++ works 2 2 ++ two ++ works 1 1 ++ works 1 1 ++ stand none)
    -- after an erase that was counted too: no count is lost
    ∷ plays BenchBottom (ready ++ erase 0x40 ++ works 64 64 ++ program 0x80 0 ++ works 0 0 ++ works 1 1 ++ stand (four 1) ++ two ++ works 1 1 ++ works 1 1 ++ stand (four 1) ++ erase 0x0 ++ works 15 15 ++ stand (four 1) ++ works 1 1 ++ stand (zero_four 1 1))
    -- erases of several blocks: each for its own
    ∷ plays BenchBottom
    (on ++ unprotect 0x10 ++ unprotect 0x400 ++ unprotect 0x3FC0 ++ erase 0x1F ++ works 65535 16 ++ erase 0x3FFF ++ works 65535 64 ++ erase 0x43F ++ works 65535 64 ++ erase 0x3FC0 ++ works 65535 64
    ++ stand (lent (replicate 16 0 ∷ (1 ∷ replicate 15 0) ∷ replicate 13 (replicate 16 0) ++ (replicate 15 0 ++ 2 ∷ []) ∷ []) (0 ∷ 1 ∷ 0 ∷ 0 ∷ [])))
    -- the array is as without the counts
    ∷ plays BenchBottom (ready ++ erase 0x40 ++ works 63 63 ++ works 65535 1 ++ write 0x40 0xFF ++ (Read 0x3F ⟶ Word 0) ∷ (Read 0x40 ⟶ Word 0xFFFF) ∷ (Read 0x7F ⟶ Word 0xFFFF) ∷ (Read 0x80 ⟶ Word 0) ∷ stand (four 1))
    -- an erase that is not accepted is not counted: block protected, no supply, a wrong second cycle
    ∷ plays BenchBottom (ready ++ erase 0xC0 ++ works 65535 0 ++ cycles 0x40 0x20 0xFF ++ works 65535 0 ++ off ++ erase 0x40 ++ works 65535 0 ++ on ++ works 65535 0 ++ stand none)
    -- "Broken off": one word before its end, by reset while it runs and while it is suspended, by supply off, and by D0h without supply; and nothing is left of it to finish
    ∷ plays BenchBottom (ready ++ nearly ++ reset ++ stand none ++ on ++ goes_on ++ works 65535 0 ++ stand none)
    ∷ plays BenchBottom (ready ++ nearly ++ pause ++ reset ++ stand none ++ goes_on ++ works 65535 0 ++ stand none)
    ∷ plays BenchBottom (ready ++ nearly ++ off ++ stand none ++ on ++ goes_on ++ works 65535 0 ++ stand none)
    ∷ plays BenchBottom (ready ++ nearly ++ pause ++ off ++ stand none ++ goes_on ++ stand none ++ on ++ goes_on ++ works 65535 0 ++ stand none)
    -- a new erase of the block is counted, once
    ∷ plays BenchBottom (ready ++ nearly ++ off ++ on ++ erase 0x40 ++ works 63 63 ++ stand none ++ works 1 1 ++ stand (four 1))
    -- "Reset keeps counts": of a small block and another, with supply and without it, again and again; and so does the supply
    ∷ plays BenchBottom
    (ready ++ erase 0x0 ++ works 16 16 ++ erase 0x40 ++ works 64 64 ++ reset ++ stand (zero_four 1 1) ++ reset ++ off ++ stand (zero_four 1 1) ++ reset ++ on ++ stand (zero_four 1 1) ++ ready ++ erase 0x0 ++ works 16 16
    ++ stand (zero_four 2 1))
    ∷ starts (power_up BenchBottom) (lent ((0 ∷ up 15 1004) ∷ rows 15 1019) (up 4 501)) 16384
    (reset ++ on ++ (Read 0 ⟶ Word 0) ∷ write 0 0x70 ++ works 5 0 ++ off ++ stand (lent ((0 ∷ up 15 1004) ∷ rows 15 1019) (up 4 501)))
    -- the top part, by block number as the bottom part: block 0 has the last 16 locations, 4 those from 3F80h, 258 the first 64
    ∷ plays BenchTop
    (on ++ unprotect 0x3FFF ++ unprotect 0x3F80 ++ unprotect 0x0 ++ erase 0x3FF0 ++ works 15 15 ++ stand none ++ works 1 1 ++ stand (zero_four 1 0) ++ erase 0x3FBF ++ works 65535 64 ++ stand (zero_four 1 1)
    ++ erase 0x3F ++ works 63 63 ++ stand (zero_four 1 1) ++ works 1 1 ++ stand (lent ((0 ∷ 1 ∷ replicate 14 0) ∷ replicate 14 (replicate 16 0) ++ (replicate 15 0 ++ 1 ∷ []) ∷ []) (1 ∷ 0 ∷ 0 ∷ 0 ∷ [])))
    -- "the lesser of 65,535 and the number": 65,534 goes to 65,535, which stays
    ∷ starts (erasing BenchBottom 258 63) (at 15 15 65534) 16384 (works 1 1 ++ stand (at 15 15 65535))
    ∷ starts (erasing BenchBottom 258 63) (at 15 15 65535) 16384 (works 1 1 ++ stand (at 15 15 65535))
    ∷ starts (erasing BenchBottom 2 15) (smalls 0 0 65534 0) 16384 (works 65535 1 ++ stand (smalls 0 0 65535 0) ++ on ++ unprotect 0x20 ++ erase 0x20 ++ works 65535 16 ++ stand (smalls 0 0 65535 0))
    -- "A refusal .. gives back the state it got and leaves all lent memory": an erase with its last word left is as it was after a count above 65,535 and an address past the limit
    ∷ starts (erasing BenchBottom 4 63) none 16384
    ((Work 65536 ⟶ Refused refusal.WorkCount) ∷ stand none ++ (Read 0x1000000 ⟶ Refused refusal.Address) ∷ (Write 0x1000000 0xB0 ⟶ Refused refusal.Address) ∷ stand none ++ (Work 99999 ⟶ Refused refusal.WorkCount) ∷ works 0 0 ++ stand none ++ works 65535 1 ++ stand (four 1)
    ++ (Work 65536 ⟶ Refused refusal.WorkCount) ∷ stand (four 1))
    -- a state that is not well formed: 2; an array of another length: 1, first
    ∷ starts unsupplied none 16384 (each refusal.Malformed none)
    ∷ starts unsupplied (four 3) 16384 (each refusal.Malformed (four 3))
    ∷ starts (erasing BenchBottom 4 63) (four 3) 16383 (each refusal.ArrayLength (four 3))
    ∷ starts (erasing BenchBottom 4 63) (four 3) 0 (each refusal.ArrayLength (four 3))
    ∷ starts unsupplied (four 3) 16385 (each refusal.ArrayLength (four 3))
    ∷ starts (erasing FullTop 4 65535) (four 3) 16384 (each refusal.ArrayLength (four 3))
    -- "also when the shared place is not 0": 2, whatever the state; 1 first
    ∷ starts (erasing BenchBottom 4 63) (at 0 0 1) 16384 (each refusal.Malformed (at 0 0 1))
    ∷ starts (power_up BenchTop) (at 0 0 65535) 16384 (each refusal.Malformed (at 0 0 65535))
    ∷ starts (power_up BenchBottom) (at 0 0 256) 16384 (each refusal.Malformed (at 0 0 256))
    ∷ starts (waiting BenchBottom 4 63) spread 16384 (each refusal.Malformed spread)
    ∷ starts unsupplied (at 0 0 1) 16384 (each refusal.Malformed (at 0 0 1))
    ∷ starts (erasing BenchBottom 4 63) (at 0 0 1) 16385 (each refusal.ArrayLength (at 0 0 1))
    ∷ starts unsupplied (at 0 0 1) 3 (each refusal.ArrayLength (at 0 0 1))
    -- no other place is looked at for it
    ∷ starts (erasing BenchBottom 4 63) (at 0 1 1) 16384 (works 1 1 ++ stand (at 0 1 2))
    ∷ starts (erasing BenchBottom 4 63) (at 1 0 7) 16384 (works 1 1 ++ stand (lent ((0 ∷ 1 ∷ replicate 14 0) ∷ (7 ∷ replicate 15 0) ∷ replicate 14 (replicate 16 0)) (replicate 4 0)))
    ∷ starts (erasing BenchBottom 0 15) (smalls 1 2 3 4) 16384 (works 1 1 ++ stand (smalls 2 2 3 4))
    ∷ []

pub wear_hold : map found wear_cases ≡ map expected wear_cases
unfolding mirror block_from block_of bank_of size_of start_from start_of bank_start block_offset bank_offset bank_of_block lookup_of bit bit_at is_unprotected with_unprotected spare_zero all_protected empty_buffer power_up running_alone program_alone erase_alone erase_fits words_fit buffer_fits setup_fits running_fits program_fits suspended_erase_fits all_fit running_apart program_apart apart activity_formed setup_places running_places program_places places_used zero_from reserved_zero runs_supplied well_formed runs_in status_word signature_word query_word shown shows_by read_in read_word command_of end_flags ended ended_if_unsupplied resume accepts set_up clear_status first_cycle program_runs erase_cycle lock_command_of without_reserved lock_cycle settle loads count_right first_right later_right confirm_right confirm_cycle words_cycle cycle kept_if first_loaded words_loaded held_after loaded written_at written units_left units_done running_after word_after tabulate array_after buffer_after worked_on worked worked_array given card switched switched_to accepted accepted_array row_of place_in count_at count_of shared_zero no_counts put_at with_count one_more counts_after formed_with refusal_with accepted_counts step_with array_with counts_with
wear_hold = refl

-- 6a and 6b as lists: what they leave, and what they answer
pub lists_hold : ((after_all_with (fresh_with BenchBottom (replicate 16384 0)) (steps_of six_a)).counts ≡ zero_four 1 2) × ((after_all_with (fresh_with BenchBottom (replicate 16384 0)) (steps_of six_b)).counts ≡ one_nineteen 1 1)
    × (answers_with (fresh_with BenchBottom (replicate 16384 0)) (steps_of six_a) ≡ answers_of six_a) × (answers_with (fresh_with BenchBottom (replicate 16384 0)) (steps_of six_b) ≡ answers_of six_b)
unfolding mirror block_from block_of bank_of size_of start_from start_of bank_start block_offset bank_offset bank_of_block lookup_of bit bit_at is_unprotected with_unprotected spare_zero all_protected empty_buffer power_up running_alone program_alone erase_alone erase_fits words_fit buffer_fits setup_fits running_fits program_fits suspended_erase_fits all_fit running_apart program_apart apart activity_formed setup_places running_places program_places places_used zero_from reserved_zero runs_supplied well_formed runs_in status_word signature_word query_word shown shows_by read_in read_word command_of end_flags ended ended_if_unsupplied resume accepts set_up clear_status first_cycle program_runs erase_cycle lock_command_of without_reserved lock_cycle settle loads count_right first_right later_right confirm_right confirm_cycle words_cycle cycle kept_if first_loaded words_loaded held_after loaded written_at written units_left units_done running_after word_after tabulate array_after buffer_after worked_on worked worked_array given card switched switched_to accepted accepted_array row_of place_in count_at count_of shared_zero no_counts put_at with_count one_more counts_after formed_with refusal_with accepted_counts step_with array_with counts_with
lists_hold = (refl, refl, refl, refl)
