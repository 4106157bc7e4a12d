-- Cases of the reports, of refused steps whole, and of the full parts: document 02, item 6. The checker computes them: a rule that is written down wrong makes a case fail.
-- Assumes nothing.
use Rattle.std.specs.Prelude.{ℕ, ◌<◌, true, false, List, [], ◌∷◌, ◌++◌, map, ◌≡◌, refl, replicate, Result, Ok, Err}
use Rattle.std.proofs.Common.{arith}
use Rattle.refusal.specs.declared.Refusal.{Refusal}
use Rattle.refusal.specs.declared.Refusal.TheVariants as refusal
use Rattle.geometry.specs.declared.Part.{Part}
use Rattle.geometry.specs.declared.Part.TheVariants.{FullBottom, FullTop, BenchBottom, BenchTop}
use Rattle.geometry.specs.Blocks.{geometry_of, blocks, mirror, block_from, block_of, bank_of, size_of, start_from, start_of}
use Rattle.protection.specs.declared.Report.{Report}
use Rattle.protection.specs.Words.{bit, bit_at, is_unprotected, with_unprotected, spare_zero, all_protected, count, least, unprotected_count, lowest_unprotected, report_of}
use Rattle.semantics.specs.declared.Step.{Step}
use Rattle.semantics.specs.declared.Step.TheVariants.{Read, Write, Work, Supply, Reset}
use Rattle.semantics.specs.declared.Answer.{Answer}
use Rattle.semantics.specs.declared.Answer.TheVariants.{Refused}
use Rattle.semantics.specs.declared.State.{State}
use Rattle.semantics.specs.State.{empty_buffer, power_up}
use Rattle.semantics.specs.Register.{without_reserved, reserved_zero}
use Rattle.semantics.specs.Supply.{end_flags, ended, ended_if_unsupplied, switched}
use Rattle.semantics.specs.WellFormed.{running_alone, program_alone, erase_alone, erase_fits, words_fit, buffer_fits, setup_fits, running_fits, program_fits, suspended_erase_fits, all_fit, running_apart, program_apart, apart, activity_formed, setup_places, running_places, program_places, places_used, zero_from, runs_supplied, well_formed}
use Rattle.semantics.specs.Writing.{command_of, resume, accepts, set_up, clear_status, first_cycle, program_runs, erase_cycle, lock_command_of, lock_cycle, settle, loads, count_right, first_right, later_right, confirm_right, confirm_cycle, words_cycle, cycle, kept_if, first_loaded, words_loaded, held_after, loaded, written_at, written}
use Rattle.semantics.specs.Working.{units_left, units_done, running_after, buffer_after, worked_on, worked}
use Rattle.semantics.specs.Card.{given, card}
use Rattle.semantics.specs.Steps.{switched_to, accepted}
use Rattle.semantics.specs.Recorder.{journal_of}
use Rattle.wear.specs.declared.Worn.{Worn}
use Rattle.wear.specs.Counts.{Counts, lent, row_of, place_in, count_at, count_of, shared_zero, no_counts, put_at, with_count, one_more, counts_after, greatest, most_worn}
use Rattle.wear.specs.Steps.{formed_with, refusal_with, accepted_counts, step_with, array_with, counts_with, reported_with, most_worn_with, erase_count_with, Counted, beside, answer_with, after_with}
use Rattle.wear.specs.Claim.{finished_erases, CountsStand}
use Rattle.wear.specs.CountCases.{up, rows, at, smalls, spread}
use Rattle.wear.specs.WearCases.{zero_four, one_nineteen, none, four, erasing, waiting, unsupplied, unprotected, steps_of, six_a, six_b}

-- ---- "It reports the most worn block, the lowest number on a tie"

-- counts, the most worn block, and its count
pub data Most : Type 0 where
  most : Counts → ℕ → ℕ → Most

abbrev pub kept : Most → Counts
kept (most k m n) = k

abbrev pub block : Most → ℕ
block (most k m n) = m

abbrev pub top : Most → ℕ
top (most k m n) = n

abbrev both : ℕ → ℕ → ℕ → ℕ → Counts
both b x c y = with_count (with_count none b x) c y

abbrev pub mosts : List Most
mosts =
    -- those of 6a and of 6b, stage by stage; all zero gives block 0
    most none 0 0 ∷ most (zero_four 1 0) 0 1 ∷ most (zero_four 1 1) 0 1 ∷ most (zero_four 1 2) 4 2
    ∷ most (one_nineteen 0 1) 19 1 ∷ most (one_nineteen 1 1) 1 1
    -- one block alone: the first, the last of the small ones, the first of the others, one in the middle, the last
    ∷ most (smalls 1 0 0 0) 0 1 ∷ most (smalls 0 0 0 1) 3 1 ∷ most (at 0 1 1) 4 1 ∷ most (at 7 9 65535) 124 65535 ∷ most (at 15 15 1) 258 1
    -- the greatest at the first, in the middle and at the last, among counts that all differ
    ∷ most (with_count spread 0 1259) 0 1259 ∷ most (with_count spread 130 1259) 130 1259 ∷ most spread 258 1258
    -- ties: of small blocks, of a small one with another, of several, of the last two
    ∷ most (smalls 1 2 3 3) 2 3 ∷ most (smalls 3 2 1 3) 0 3 ∷ most (both 3 1 4 1) 3 1 ∷ most (both 0 7 258 7) 0 7 ∷ most (with_count (both 19 2 35 2) 100 2) 19 2 ∷ most (both 257 1 258 1) 257 1
    -- one less on either side
    ∷ most (both 3 1 4 2) 4 2 ∷ most (both 3 2 4 1) 3 2 ∷ most (both 0 65534 5 65535) 5 65535 ∷ most (both 0 65535 5 65534) 0 65535 ∷ most (both 18 2 19 3) 19 3
    -- what stands in the shared place is no block's
    ∷ most (at 0 0 9) 0 0
    ∷ []

pub mosts_hold : (map (λ c. most_worn (kept c)) mosts ≡ map block mosts) × (map (λ c. count_of (kept c) (block c)) mosts ≡ map top mosts)
unfolding row_of place_in count_at count_of put_at with_count greatest least most_worn
mosts_hold = (refl, refl)

-- ---- the reports

abbrev worn : ℕ → ℕ → Result Worn Refusal
worn b n = Ok (record { block = b; count = n })

abbrev reported : ℕ → ℕ → Result Report Refusal
reported n b = Ok (record { count = n; lowest = b })

-- the three reports are refused for what the state is
abbrev not_worn : Result Worn Refusal
not_worn = Err refusal.Malformed

abbrev not_reported : Result Report Refusal
not_reported = Err refusal.Malformed

-- an erase of block 4 with its last word left, blocks 1 and 258 unprotected
abbrev two_unprotected : State
two_unprotected = unprotected (erasing BenchBottom 4 63)

-- a state with its counts
pub data Told : Type 0 where
  by : State → Counts → Told

-- not well formed: for the state, for the shared place, and for both
abbrev pub refusals : List Told
refusals =
    by unsupplied none ∷ by unsupplied (four 3) ∷ by two_unprotected (at 0 0 1) ∷ by (power_up BenchBottom) (at 0 0 65535) ∷ by (power_up FullTop) spread ∷ by (waiting FullBottom 4 63) spread ∷ by unsupplied (at 0 0 1)
    ∷ by (erasing BenchBottom 4 64) none ∷ by (erasing FullBottom 259 0) none ∷ []

abbrev open_of : Told → Result Report Refusal
open_of (by s k) = reported_with s k

abbrev most_of : Told → Result Worn Refusal
most_of (by s k) = most_worn_with s k

abbrev counted_of : ℕ → Told → Result Worn Refusal
counted_of b (by s k) = erase_count_with s k b

-- the three reports are refused, of a state that is not well formed and "also when the shared place is not 0"
pub reports_refused : (map open_of refusals ≡ replicate 9 not_reported) × (map most_of refusals ≡ replicate 9 not_worn) × (map (counted_of 4) refusals ≡ replicate 9 not_worn)
unfolding mirror block_from block_of size_of start_from start_of bit spare_zero all_protected empty_buffer power_up running_alone program_alone erase_alone erase_fits words_fit buffer_fits setup_fits running_fits program_fits suspended_erase_fits all_fit running_apart program_apart apart activity_formed setup_places running_places program_places places_used zero_from reserved_zero runs_supplied well_formed count_at shared_zero no_counts formed_with reported_with most_worn_with erase_count_with
reports_refused = (refl, refl, refl)

-- else they report: the unprotected blocks and the lowest of them, 259 if none; the most worn block with its count; the count of the block that is asked for
pub reports_hold : (map open_of (by two_unprotected none ∷ by two_unprotected (four 9) ∷ by (power_up FullTop) (smalls 1 1 1 1) ∷ by (waiting BenchTop 4 63) (at 1 0 1) ∷ []) ≡ reported 2 1 ∷ reported 2 1 ∷ reported 0 259 ∷ reported 0 259 ∷ [])
    × (map most_of (by two_unprotected (four 9) ∷ by (power_up FullTop) (smalls 1 1 1 1) ∷ [])
    ≡ worn 4 9 ∷ worn 0 1 ∷ [])
unfolding mirror block_from block_of size_of start_from start_of bit bit_at spare_zero all_protected count least unprotected_count lowest_unprotected report_of empty_buffer power_up running_alone program_alone erase_alone erase_fits words_fit buffer_fits setup_fits running_fits program_fits suspended_erase_fits all_fit running_apart program_apart apart activity_formed setup_places running_places program_places places_used zero_from reserved_zero runs_supplied well_formed count_at shared_zero no_counts formed_with reported_with most_worn_with row_of place_in count_of greatest most_worn
reports_hold = (refl, refl)

-- 1000 + b of block b, and 0 of a number that is no block
abbrev spread_zero : Counts
spread_zero = lent ((0 ∷ up 15 1004) ∷ rows 15 1019) (up 4 1000)

pub asked_hold : map (erase_count_with two_unprotected spread_zero) (0 ∷ 3 ∷ 4 ∷ 18 ∷ 19 ∷ 258 ∷ 259 ∷ 1000 ∷ []) ≡ worn 0 1000 ∷ worn 3 1003 ∷ worn 4 1004 ∷ worn 18 1018 ∷ worn 19 1019 ∷ worn 258 1258 ∷ worn 259 0 ∷ worn 1000 0 ∷ []
unfolding mirror block_from block_of size_of start_from start_of bit spare_zero all_protected empty_buffer power_up running_alone program_alone erase_alone erase_fits words_fit buffer_fits setup_fits running_fits program_fits suspended_erase_fits all_fit running_apart program_apart apart activity_formed setup_places running_places program_places places_used zero_from reserved_zero runs_supplied well_formed row_of place_in count_at count_of shared_zero formed_with erase_count_with
asked_hold = refl

-- ---- "A refusal gives its number beside the answer 0, gives back the state it got and leaves all lent memory": the state, the array and the counts after each kind of step

pub data RefusedStep : Type 0 where
  refused : Refusal → Counted → Step → RefusedStep

abbrev pub answer_of : RefusedStep → Answer
answer_of (refused r c x) = answer_with c x

abbrev pub left_of : RefusedStep → Counted
left_of (refused r c x) = after_with c x

abbrev pub refusal_of : RefusedStep → Answer
refusal_of (refused r c x) = Refused r

abbrev pub given_of : RefusedStep → Counted
given_of (refused r c x) = c

-- each of the five kinds of step, those of one word or more on an erase that has one word left
abbrev each : Refusal → Counted → List RefusedStep
each r c = refused r c (Read 0) ∷ refused r c (Write 0 0xB0) ∷ refused r c (Work 1) ∷ refused r c (Work 65536) ∷ refused r c (Supply false) ∷ refused r c Reset ∷ refused r c (Write 0x1000000 0xB0) ∷ []

abbrev pub refusals_whole : List RefusedStep
refusals_whole =
    each refusal.Malformed (beside two_unprotected (replicate 16384 0x1234) (at 0 0 1)) ++ each refusal.Malformed (beside unsupplied (replicate 16384 0x1234) spread_zero) ++ each refusal.ArrayLength (beside two_unprotected (7 ∷ 8 ∷ 9 ∷ []) (at 0 0 1))
    ++ each refusal.ArrayLength (beside two_unprotected (replicate 16385 0x1234) spread_zero) ++ each refusal.ArrayLength (beside two_unprotected [] (four 1))
    ++ refused refusal.WorkCount (beside two_unprotected (replicate 16384 0x1234) spread_zero) (Work 65536) ∷ refused refusal.Address (beside two_unprotected (replicate 16384 0x1234) spread_zero) (Read 0x1000000)
    ∷ refused refusal.Address (beside two_unprotected (replicate 16384 0x1234) spread_zero) (Write 0x1000000 0xB0) ∷ []

pub refusals_hold : (map answer_of refusals_whole ≡ map refusal_of refusals_whole) × (map left_of refusals_whole ≡ map given_of refusals_whole)
unfolding mirror block_from block_of size_of start_from start_of bit spare_zero all_protected empty_buffer power_up running_alone program_alone erase_alone erase_fits words_fit buffer_fits setup_fits running_fits program_fits suspended_erase_fits all_fit running_apart program_apart apart activity_formed setup_places running_places program_places places_used zero_from reserved_zero runs_supplied well_formed given card count_at shared_zero formed_with refusal_with step_with array_with counts_with
refusals_hold = (refl, refl)

-- ---- the full parts: no array is needed for the counts of a step that is accepted

pub data Move : Type 0 where
  moves : State → Counts → Step → Counts → Move

abbrev pub after : Move → Counts
after (moves s k x m) = accepted_counts s k x

abbrev pub said : Move → Counts
said (moves s k x m) = m

-- an erase with its last word left: only work of a word or more counts it
abbrev last : Part → ℕ → ℕ → Counts → List Move
last p b n k =
    moves (erasing p b n) none (Work 1) k ∷ moves (erasing p b n) none (Work 65535) k ∷ moves (erasing p b n) none (Work 0) none ∷ moves (erasing p b n) none (Read 0) none
    ∷ moves (erasing p b n) none (Write 0 0xB0) none ∷ moves (erasing p b n) none (Supply false) none ∷ moves (erasing p b n) none (Supply true) none ∷ moves (erasing p b n) none Reset none
    ∷ moves (erasing p b n) spread (Read 0) spread ∷ moves (erasing p b n) spread (Write 0 0xB0) spread ∷ moves (erasing p b n) spread (Supply false) spread ∷ moves (erasing p b n) spread (Supply true) spread
    ∷ moves (erasing p b n) spread Reset spread
    ∷ moves (waiting p b n) none (Work 1) none ∷ moves (waiting p b n) none (Write 0 0xD0) none ∷ moves (waiting p b n) spread Reset spread ∷ []

abbrev pub fulls : List Move
fulls =
    last FullBottom 0 16383 (smalls 1 0 0 0) ++ last FullTop 3 16383 (smalls 0 0 0 1) ++ last FullBottom 4 65535 (at 0 1 1) ++ last FullTop 18 65535 (at 0 15 1) ++ last FullBottom 19 65535 (at 1 0 1)
    ++ last FullTop 258 65535 (at 15 15 1) ++ last BenchTop 258 63 (at 15 15 1) ++ last BenchBottom 1 15 (smalls 0 1 0 0)
    -- one word more left, and all of them: 65,536 are more than one work step does
    ++ moves (erasing FullBottom 4 65534) none (Work 1) none ∷ moves (erasing FullBottom 4 65534) none (Work 2) (at 0 1 1) ∷ moves (erasing FullTop 258 0) none (Work 65535) none ∷ moves (erasing FullTop 258 1) none (Work 65535) (at 15 15 1)
    ∷ moves (erasing FullBottom 2 0) none (Work 16383) none ∷ moves (erasing FullBottom 2 0) none (Work 16384) (smalls 0 0 1 0) ∷ moves (erasing BenchBottom 2 0) none (Work 15) none ∷ moves (erasing BenchTop 2 0) none (Work 16) (smalls 0 0 1 0)
    ∷ moves (erasing FullTop 258 65535) (at 15 15 65534) (Work 1) (at 15 15 65535) ∷ moves (erasing FullTop 258 65535) (at 15 15 65535) (Work 1) (at 15 15 65535)
    ∷ moves (power_up FullTop) spread (Work 65535) spread ∷ []

pub fulls_hold : map after fulls ≡ map said fulls
unfolding size_of all_protected empty_buffer power_up units_left units_done running_after row_of place_in count_at count_of put_at with_count one_more counts_after accepted_counts
fulls_hold = refl

-- steps that are accepted, from power-up with no array
abbrev goes : State → Counts → List Step → Counts
goes s k [] = k
goes s k (x ∷ l) = goes (accepted s [] x).state (accepted_counts s k x) l

-- supply on, and the block of an address unprotected and its erase accepted
abbrev erases : ℕ → List Step
erases a = Supply true ∷ Write a 0x60 ∷ Write a 0xD0 ∷ Write a 0x20 ∷ Write a 0xD0 ∷ []

pub goes_hold : (goes (power_up FullBottom) none (erases 0x100000 ++ Work 65535 ∷ []) ≡ none)
    × (goes (power_up FullBottom) none (erases 0x1FFFFF ++ Work 65535 ∷ Work 1 ∷ Work 1 ∷ []) ≡ at 1 15 1)
    × (goes (power_up FullTop) none (erases 0xFFFFFF ++ Work 16383 ∷ Write 0 0xB0 ∷ Write 0 0xD0 ∷ Work 65535 ∷ erases 0xFFFFFF ++ Work 65535 ∷ Reset ∷ []) ≡ smalls 2 0 0 0)
    × (goes (power_up FullTop) none (erases 0x0 ++ Work 65535 ∷ Reset ∷ Work 1 ∷ []) ≡ none)
    × (goes (power_up FullTop) none (erases 0x0 ++ Work 65535 ∷ Supply false ∷ Supply true ∷ Work 1 ∷ []) ≡ none)
unfolding mirror block_from block_of bank_of size_of start_from start_of bit bit_at is_unprotected with_unprotected all_protected empty_buffer power_up command_of end_flags ended ended_if_unsupplied resume accepts set_up clear_status first_cycle program_runs erase_cycle lock_command_of without_reserved lock_cycle settle loads count_right first_right later_right confirm_right confirm_cycle words_cycle cycle kept_if first_loaded words_loaded held_after loaded written_at written units_left units_done running_after buffer_after worked_on worked switched switched_to accepted row_of place_in count_at count_of put_at with_count one_more counts_after accepted_counts
goes_hold = (refl, refl, refl, refl, refl)

-- ---- the journals of 6a and 6b, and what the claim says of them

pub journals_hold : (map (λ b. finished_erases b (journal_of (geometry_of BenchBottom) (steps_of six_a))) (0 ∷ 1 ∷ 3 ∷ 4 ∷ 5 ∷ 258 ∷ []) ≡ 1 ∷ 0 ∷ 0 ∷ 2 ∷ 0 ∷ 0 ∷ [])
    × (map (λ b. finished_erases b (journal_of (geometry_of BenchBottom) (steps_of six_b))) (0 ∷ 1 ∷ 4 ∷ 18 ∷ 19 ∷ 258 ∷ []) ≡ 0 ∷ 1 ∷ 0 ∷ 0 ∷ 1 ∷ 0 ∷ [])
unfolding mirror block_from block_of size_of start_from start_of
journals_hold = (refl, refl)

-- "each count is the lesser of 65,535 and the number of finished erases of that block in the journal", and the shared place is 0
pub claim_says : (k : Counts) → CountsStand BenchBottom (steps_of six_a) k → (count_of k 0 ≡ 1) × (count_of k 3 ≡ 0) × (count_of k 4 ≡ 2) × (count_of k 258 ≡ 0) × (shared_zero k.main ≡ true)
unfolding mirror block_from block_of size_of start_from start_of
claim_says k c = (c.count 0 (omega arith), c.count 3 (omega arith), c.count 4 (omega arith), c.count 258 (omega arith), c.shared)

-- at 65,534, 65,535, 65,536 and 100,000 finished erases in the journal
pub claim_limit : (p : Part) (l : List Step) (k : Counts) (b : ℕ) → b < blocks (geometry_of p) → CountsStand p l k
    → (finished_erases b (journal_of (geometry_of p) l) ≡ 65534 → count_of k b ≡ 65534) × (finished_erases b (journal_of (geometry_of p) l) ≡ 65535 → count_of k b ≡ 65535)
    × (finished_erases b (journal_of (geometry_of p) l) ≡ 65536 → count_of k b ≡ 65535) × (finished_erases b (journal_of (geometry_of p) l) ≡ 100000 → count_of k b ≡ 65535)
claim_limit p l k b h c = (λ e. rw e at (c.count b h), λ e. rw e at (c.count b h), λ e. rw e at (c.count b h), λ e. rw e at (c.count b h))
