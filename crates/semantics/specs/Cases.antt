-- Document 01's table of proved cases, as one table under one statement: the checker computes each through the definitions of the steps and of the lookup,
-- from power-up with real commands. A wrong number in the table is refused.
-- Assumes nothing.
use Rattle.std.specs.Prelude.{ℕ, zero, suc, ◌+◌, ◌*◌, Bool, true, false, ◌&&◌, List, [], ◌∷◌, ◌++◌, T, eqb, replicate, Ok, Err}
use Rattle.refusal.specs.declared.Refusal.{Refusal}
use Rattle.refusal.specs.Numbers.{number}
use Rattle.geometry.specs.declared.Part.{Part}
use Rattle.geometry.specs.declared.Part.TheVariants.{BenchBottom}
use Rattle.geometry.specs.Blocks.{mirror, block_from, block_of, bank_of, size_of, start_from, start_of, bank_start, block_offset, bank_offset, bank_of_block, lookup_of, number_in, block_in, bank_in}
use Rattle.protection.specs.Words.{bit, bit_at, is_unprotected, with_unprotected, spare_zero, all_protected}
use Rattle.semantics.specs.declared.Step.{Step}
use Rattle.semantics.specs.declared.Step.TheVariants.{Read, Write, Work, Supply, Reset}
use Rattle.semantics.specs.declared.Answer.{Answer}
use Rattle.semantics.specs.declared.State.{State}
use Rattle.semantics.specs.declared.Answer.TheVariants.{Word, Units, Done, Refused}
use Rattle.semantics.specs.Tabulate.{tabulate}
use Rattle.semantics.specs.State.{empty_buffer, power_up}
use Rattle.semantics.specs.Register.{without_reserved, reserved_zero}
use Rattle.semantics.specs.Supply.{end_flags, ended, ended_if_unsupplied, switched}
use Rattle.semantics.specs.WellFormed.{running_alone, program_alone, erase_alone, erase_fits, words_fit, buffer_fits, setup_fits, running_fits, program_fits, suspended_erase_fits, all_fit, running_apart, program_apart, apart, activity_formed, setup_places, running_places, program_places, places_used, zero_from, runs_supplied, well_formed}
use Rattle.semantics.specs.Reading.{runs_in, status_word, signature_word, query_word, shown, shows_by, read_in, read_word}
use Rattle.semantics.specs.Writing.{command_of, resume, accepts, set_up, clear_status, first_cycle, program_runs, erase_cycle, lock_command_of, lock_cycle, settle, loads, count_right, first_right, later_right, confirm_right, confirm_cycle, words_cycle, cycle, kept_if, first_loaded, words_loaded, held_after, loaded, written_at, written}
use Rattle.semantics.specs.Working.{units_left, units_done, running_after, word_after, array_after, buffer_after, worked_on, worked, worked_array}
use Rattle.semantics.specs.Card.{given, card}
use Rattle.semantics.specs.Steps.{refusal_of, switched_to, accepted, accepted_array, step_of, array_of, reported_of, Machine, after, fresh}

infixl 20 ◌⟶◌
-- a step, and what it answers
pub data Exchange : Type 0 where
  ◌⟶◌ : Step → Answer → Exchange

-- an array, as so many words w
pub data Words : Type 0 where
  words : ℕ → ℕ → Words

abbrev pub array_in : Words → List ℕ
array_in (words n w) = replicate n w

-- an address of a part, by its number, lies in a block and a bank; or: from power-up, on an array, each step answers so; or: from a state, which need not be one
-- that steps lead to; or: after such steps from power-up, so many blocks are reported unprotected, and this as the lowest; or: the report on a state says so, or is refused
pub data Case : Type 0 where
  lies : ℕ → ℕ → ℕ → ℕ → Case
  plays : Part → Words → List Exchange → Case
  starts : State → Words → List Exchange → Case
  reports : Part → Words → List Exchange → ℕ → ℕ → Case
  counted : State → ℕ → ℕ → Case
  unreported : State → Refusal → Case

-- answers apart by their kind and number, a refusal by the number that it gives
abbrev pub code : Answer → ℕ
code (Word w) = 4 * w
code (Units n) = 4 * n + 1
code Done = 2
code (Refused e) = 4 * number e + 3

-- each step answers so, and what the last one leaves passes a test
abbrev pub plays_out : Machine → List Exchange → (State → Bool) → Bool
plays_out m [] f = f m.state
plays_out m ((x ⟶ a) ∷ l) f = eqb (code (step_of m.state m.array x).answer) (code a) && plays_out (after m x) l f

-- the report on a state says so; or is refused so
abbrev pub reported : ℕ → ℕ → State → Bool
reported n b s = elim (reported_of s) [ Ok r ↦ eqb r.count n && eqb r.lowest b | Err e ↦ false ]

abbrev pub refused_report : Refusal → State → Bool
refused_report d s = elim (reported_of s) [ Ok r ↦ false | Err e ↦ eqb (number e) (number d) ]

abbrev pub holds : Case → Bool
holds (lies p a b k) = eqb (number_in (lookup_of p a)) 0 && (eqb (block_in (lookup_of p a)) b && eqb (bank_in (lookup_of p a)) k)
holds (plays p m l) = plays_out (fresh p (array_in m)) l (λ s. true)
holds (starts s m l) = plays_out (record { state = s; array = array_in m }) l (λ s. true)
holds (reports p m l n b) = plays_out (fresh p (array_in m)) l (reported n b)
holds (counted s n b) = reported n b s
holds (unreported s e) = refused_report e s

abbrev pub every : List Case → Bool
every [] = true
every (c ∷ l) = holds c && every l

-- ---- exchanges, as lists that are joined

-- a write; the two cycles of a command at one address; a read that shows a word; work on n units that does m
abbrev pub write : ℕ → ℕ → List Exchange
write a w = (Write a w ⟶ Done) ∷ []

abbrev pub cycles : ℕ → ℕ → ℕ → List Exchange
cycles a c w = (Write a c ⟶ Done) ∷ (Write a w ⟶ Done) ∷ []

abbrev pub shows : ℕ → ℕ → List Exchange
shows a w = (Read a ⟶ Word w) ∷ []

abbrev pub works : ℕ → ℕ → List Exchange
works n m = (Work n ⟶ Units m) ∷ []

abbrev pub supply : Bool → List Exchange
supply b = (Supply b ⟶ Done) ∷ []

abbrev pub reset : List Exchange
reset = (Reset ⟶ Done) ∷ []

-- the commands of two cycles
abbrev pub unprotect : ℕ → List Exchange
unprotect a = cycles a 0x60 0xD0

abbrev pub protect : ℕ → List Exchange
protect a = cycles a 0x60 0x01

abbrev pub program : ℕ → ℕ → List Exchange
program a w = cycles a 0x40 w

abbrev pub erase : ℕ → List Exchange
erase a = cycles a 0x20 0xD0

-- n words from address a on read w
abbrev pub reads : ℕ → ℕ → ℕ → List Exchange
reads a zero w = []
reads a (suc n) w = (Read a ⟶ Word w) ∷ reads (suc a) n w

-- supply on, and the block of an address unprotected
abbrev pub prepared : ℕ → List Exchange
prepared a = (Supply true ⟶ Done) ∷ (Write a 0x60 ⟶ Done) ∷ (Write a 0xD0 ⟶ Done) ∷ []

-- an array of a bench part that has the word w everywhere
abbrev pub bench : ℕ → Words
bench w = words 16384 w

-- an exchange at the lowest address of each of n banks of the bench bottom part, from address a on
abbrev pub in_banks : ℕ → ℕ → (ℕ → Exchange) → List Exchange
in_banks a zero f = []
in_banks a (suc n) f = f a ∷ in_banks (a + 0x400) n f

abbrev pub cases : List Case
cases =
    -- (1) to (4), full bottom, is part 0
    lies 0 0x003FFF 0 0 ∷ lies 0 0x004000 1 0
    ∷ lies 0 0x00FFFF 3 0 ∷ lies 0 0x010000 4 0
    ∷ lies 0 0x0FFFFF 18 0 ∷ lies 0 0x100000 19 1
    ∷ lies 0 0xFFFFFF 258 15
    -- (5) and (6), full top, is part 1
    ∷ lies 1 0xFF0000 3 0 ∷ lies 1 0xFEFFFF 4 0
    ∷ lies 1 0x000000 258 15
    -- (7) a program refused for protection shows 92h, for supply 98h
    ∷ plays BenchBottom (bench 0xFFFF)
    ((Supply true ⟶ Done) ∷ (Write 0x40 0x40 ⟶ Done) ∷ (Write 0x40 0x1234 ⟶ Done) ∷ (Read 0x40 ⟶ Word 0x92) ∷ [])
    ∷ plays BenchBottom (bench 0xFFFF)
    ((Write 0x40 0x60 ⟶ Done) ∷ (Write 0x40 0xD0 ⟶ Done) ∷ (Write 0x40 0x40 ⟶ Done) ∷ (Write 0x40 0x1234 ⟶ Done) ∷ (Read 0x40 ⟶ Word 0x98) ∷ [])
    -- (8) an erase refused for protection shows A2h, a wrong second cycle B0h
    ∷ plays BenchBottom (bench 0xFFFF)
    ((Supply true ⟶ Done) ∷ (Write 0x40 0x20 ⟶ Done) ∷ (Write 0x40 0xD0 ⟶ Done) ∷ (Read 0x40 ⟶ Word 0xA2) ∷ [])
    ∷ plays BenchBottom (bench 0xFFFF) ((Write 0x40 0x20 ⟶ Done) ∷ (Write 0x40 0xFF ⟶ Done) ∷ (Read 0x40 ⟶ Word 0xB0) ∷ [])
    -- (9) an erase suspended shows C0h, a program suspended in it C4h
    ∷ plays BenchBottom (bench 0xFFFF)
    (prepared 0x40 ++ (Write 0x80 0x60 ⟶ Done) ∷ (Write 0x80 0xD0 ⟶ Done) ∷ (Write 0x40 0x20 ⟶ Done) ∷ (Write 0x40 0xD0 ⟶ Done) ∷ (Write 0x40 0xB0 ⟶ Done)
    ∷ (Read 0x40 ⟶ Word 0xC0) ∷ (Write 0x80 0x40 ⟶ Done) ∷ (Write 0x80 0x1234 ⟶ Done) ∷ (Write 0x80 0xB0 ⟶ Done) ∷ (Read 0x80 ⟶ Word 0xC4) ∷ [])
    -- (10) 00F0 programmed on 0FF0 gives 00F0, and FFFF after it changes nothing
    ∷ plays BenchBottom (bench 0x0FF0)
    (prepared 0x41 ++ (Write 0x41 0x40 ⟶ Done) ∷ (Write 0x41 0x00F0 ⟶ Done) ∷ (Work 1 ⟶ Units 1) ∷ (Write 0x41 0xFF ⟶ Done) ∷ (Read 0x41 ⟶ Word 0x00F0)
    ∷ (Write 0x41 0x40 ⟶ Done) ∷ (Write 0x41 0xFFFF ⟶ Done) ∷ (Work 1 ⟶ Units 1) ∷ (Write 0x41 0xFF ⟶ Done) ∷ (Read 0x41 ⟶ Word 0x00F0) ∷ (Read 0x42 ⟶ Word 0x0FF0) ∷ [])
    -- (11) bench bottom, block 4 all 0000, erase, work 10, reset: ten words FFFF, 54 words 0000
    ∷ plays BenchBottom (bench 0x0000)
    (prepared 0x40 ++ (Write 0x40 0x20 ⟶ Done) ∷ (Write 0x40 0xD0 ⟶ Done) ∷ (Work 10 ⟶ Units 10) ∷ (Reset ⟶ Done) ∷ (reads 0x40 10 0xFFFF ++ reads 0x4A 54 0x0000))
    -- (12) set-up 40h, then FFh to an unprotected block, with all 16 banks in status mode before: after the program's one unit every bank still shows the
    -- status word, so that no mode went to array; and the word is 00FF
    ∷ plays BenchBottom (bench 0xFFFF)
    (prepared 0x40 ++ (in_banks 0 16 (λ a. Write a 0x70 ⟶ Done)) ++ (Write 0x40 0x40 ⟶ Done) ∷ (Write 0x40 0x00FF ⟶ Done) ∷ (Work 1 ⟶ Units 1)
    ∷ (in_banks 0 16 (λ a. Read a ⟶ Word 0x80)) ++ (Write 0x40 0xFF ⟶ Done) ∷ (Read 0x40 ⟶ Word 0x00FF) ∷ [])
    ∷ []

pub cases_hold : T (every cases)
unfolding mirror block_from block_of bank_of size_of start_from start_of bank_start block_offset bank_offset bank_of_block lookup_of bit bit_at is_unprotected with_unprotected spare_zero all_protected empty_buffer power_up running_alone program_alone erase_alone erase_fits words_fit buffer_fits setup_fits running_fits program_fits suspended_erase_fits all_fit running_apart program_apart apart activity_formed setup_places running_places program_places places_used zero_from reserved_zero runs_supplied well_formed runs_in status_word signature_word query_word shown shows_by read_in read_word command_of end_flags ended ended_if_unsupplied resume accepts set_up clear_status first_cycle program_runs erase_cycle lock_command_of without_reserved lock_cycle settle loads count_right first_right later_right confirm_right confirm_cycle words_cycle cycle kept_if first_loaded words_loaded held_after loaded written_at written units_left units_done running_after word_after tabulate array_after buffer_after worked_on worked worked_array given card refusal_of switched switched_to accepted accepted_array step_of array_of
cases_hold = tt
