-- Whole states of document 02, item 5, on every part, with mixed modes, another register than the default, all blocks protected or unprotected, and several flags: what a step that is accepted leaves, and
-- which are well formed. No array is needed. The checker computes them.
-- Assumes nothing.
use Rattle.std.specs.Prelude.{ℕ, Bool, true, false, cond, List, [], ◌∷◌, ◌++◌, map, ◌≡◌, refl, replicate, Option, Some, None}
use Rattle.geometry.specs.Blocks.{mirror, block_from, block_of, bank_of, size_of, start_from, start_of}
use Rattle.protection.specs.Words.{bit, bit_at, is_unprotected, with_unprotected, spare_zero, all_protected}
use Rattle.geometry.specs.declared.Part.{Part}
use Rattle.geometry.specs.declared.Part.TheVariants.{FullBottom, FullTop, BenchBottom, BenchTop}
use Rattle.semantics.specs.declared.Setup.{Setup}
use Rattle.semantics.specs.declared.Setup.TheVariants as setup
use Rattle.semantics.specs.declared.Running.{Running}
use Rattle.semantics.specs.declared.Running.TheVariants as running
use Rattle.semantics.specs.declared.SuspendedProgram.{SuspendedProgram}
use Rattle.semantics.specs.declared.SuspendedProgram.TheVariants as suspended_program
use Rattle.semantics.specs.declared.SuspendedErase.{SuspendedErase}
use Rattle.semantics.specs.declared.Activity.{Activity}
use Rattle.semantics.specs.declared.Flags.{Flags}
use Rattle.semantics.specs.declared.Mode.TheVariants.{Array, Status, Signature, Query}
use Rattle.semantics.specs.declared.Bank.{Bank}
use Rattle.semantics.specs.declared.Step.{Step}
use Rattle.semantics.specs.declared.Step.TheVariants.{Write, Supply, Reset}
use Rattle.semantics.specs.declared.State.{State}
use Rattle.semantics.specs.State.{with_supply, activity, flags_of, no_flags, empty_buffer, power_up, suspended_erase}
use Rattle.semantics.specs.Register.{reserved_zero}
use Rattle.semantics.specs.WellFormed.{running_alone, program_alone, erase_alone, erase_fits, words_fit, buffer_fits, setup_fits, running_fits, program_fits, suspended_erase_fits, all_fit, running_apart, program_apart, apart, activity_formed, setup_places, running_places, program_places, places_used, zero_from, runs_supplied, well_formed}
use Rattle.semantics.specs.Supply.{end_flags, ended, ended_if_unsupplied, switched}
use Rattle.semantics.specs.Writing.{command_of, resume, accepts, set_up, clear_status, first_cycle, cycle, kept_if, held_after, loaded, written_at, written}
use Rattle.semantics.specs.Working.{buffer_after}
use Rattle.semantics.specs.Steps.{switched_to, accepted}

abbrev none : Option SuspendedErase
none = None

-- the erase of block 4, with three words done, suspended
abbrev three : Option SuspendedErase
three = Some (suspended_erase 4 3)

-- ---- a step that is accepted leaves just this state

pub data Move : Type 0 where
  leaves : State → Step → State → Move

abbrev pub left : Move → State
left (leaves s x t) = (accepted s [] x).state

abbrev pub told : Move → State
told (leaves s x t) = t

-- the four modes in turn, and in another turn
abbrev turned : Bool → List Bank
turned true = record { mode = Array } ∷ record { mode = Status } ∷ record { mode = Signature } ∷ record { mode = Query } ∷ []
turned false = record { mode = Status } ∷ record { mode = Query } ∷ record { mode = Array } ∷ record { mode = Signature } ∷ []

-- a state with other modes and another register than at power-up, and with all blocks protected (o false) or all unprotected
abbrev stands : Part → Bool → Activity → Flags → Bool → List ℕ → State
stands p o a f t bs = record {
  part = p;
  banks = turned o ++ turned o ++ turned o ++ turned o;
  unprotected = cond o (replicate 4 0xFFFFFFFFFFFFFFFF ++ 7 ∷ []) (replicate 5 0);
  control = record { activity = a; flags = f; configuration = 0x1204; supply = t };
  buffer = bs;
}

abbrev words : List ℕ
words = 0xAAAA ∷ 0xBBBB ∷ 0xCCCC ∷ replicate 29 0

abbrev empty : List ℕ
empty = replicate 32 0

-- the flags where a program ended, and where an erase did, beside those that were
abbrev program_ended : Flags → Flags
program_ended f = flags_of f.sr5 true true f.sr1

abbrev erase_ended : Flags → Flags
erase_ended f = flags_of true f.sr4 true f.sr1

-- supply off ends what runs, and supply on leaves it
abbrev cut : Part → Bool → Running → Option SuspendedErase → Flags → Flags → List ℕ → List Move
cut p o r e f h bs =
    leaves (stands p o (activity setup.Nothing r suspended_program.Nothing e) f true bs) (Supply false) (stands p o (activity setup.Nothing running.Idle suspended_program.Nothing e) h false empty)
    ∷ leaves (stands p o (activity setup.Nothing r suspended_program.Nothing e) f true bs) (Supply true) (stands p o (activity setup.Nothing r suspended_program.Nothing e) f true bs)
    ∷ leaves (stands p o (activity setup.Nothing r suspended_program.Nothing e) f true bs) Reset (with_supply (power_up p) true)
    ∷ []

-- from a state that stands without supply and one that stands with it, supply off and supply on are noted, and no more
abbrev noted : Part → Bool → Activity → Flags → List ℕ → List Move
noted p o a f bs =
    leaves (stands p o a f true bs) (Supply false) (stands p o a f false bs) ∷ leaves (stands p o a f false bs) (Supply false) (stands p o a f false bs)
    ∷ leaves (stands p o a f false bs) (Supply true) (stands p o a f true bs) ∷ leaves (stands p o a f true bs) (Supply true) (stands p o a f true bs)
    ∷ leaves (stands p o a f false bs) Reset (with_supply (power_up p) false)
    ∷ []

-- without supply a write leaves b of a, with the flags h and the buffer cs: D0h in three places, with several upper bytes
abbrev ends : Part → Bool → Activity → Activity → Flags → Flags → List ℕ → List ℕ → List Move
ends p o a b f h bs cs =
    leaves (stands p o a f false bs) (Write 0x40 0xD0) (stands p o b h false cs) ∷ leaves (stands p o a f false bs) (Write 0x480 0x12D0) (stands p o b h false cs)
    ∷ leaves (stands p o a f false bs) (Write 0xFFFFFF 0xFFD0) (stands p o b h false cs)
    ∷ []

-- D0h with supply sets it running: r
abbrev resumes : Part → Bool → Activity → Activity → Flags → List ℕ → List Move
resumes p o a b f bs = leaves (stands p o a f true bs) (Write 0x480 0xD0) (stands p o b f true bs) ∷ []

-- without supply B0h and, where a program is suspended, 10h, 40h, 60h, 20h and E8h are ignored, and 50h clears the flags alone
abbrev ignored : Part → Bool → Activity → Flags → List ℕ → List Move
ignored p o a f bs =
    leaves (stands p o a f false bs) (Write 0x40 0xB0) (stands p o a f false bs) ∷ leaves (stands p o a f false bs) (Write 0x40 0x10) (stands p o a f false bs)
    ∷ leaves (stands p o a f false bs) (Write 0x40 0x40) (stands p o a f false bs) ∷ leaves (stands p o a f false bs) (Write 0x40 0x60) (stands p o a f false bs)
    ∷ leaves (stands p o a f false bs) (Write 0x40 0x20) (stands p o a f false bs) ∷ leaves (stands p o a f false bs) (Write 0x40 0xE8) (stands p o a f false bs)
    ∷ leaves (stands p o a f false bs) (Write 0x40 0x50) (stands p o a no_flags false bs)
    ∷ []

-- what is under way: a set-up beside a suspended erase; a suspended program, or none, and a suspended erase, or none
abbrev pending_beside : Setup → Option SuspendedErase → Activity
pending_beside c e = activity c running.Idle suspended_program.Nothing e

abbrev waiting : SuspendedProgram → Option SuspendedErase → Activity
waiting q e = activity setup.Nothing running.Idle q e

abbrev one : SuspendedProgram
one = suspended_program.Program 0x80 0x1234

abbrev both : ℕ → SuspendedProgram
both d = suspended_program.Buffer 0x80 3 d

abbrev no_program : SuspendedProgram
no_program = suspended_program.Nothing

abbrev beside : Part → Bool → Flags → Option SuspendedErase → List Move
beside p o f e =
    cut p o (running.Program 0x80 0x1234) e f (program_ended f) empty ++ cut p o (running.Buffer 0x80 3 0) e f (program_ended f) words ++ cut p o (running.Buffer 0x80 3 2) e f (program_ended f) words
    ++ noted p o (pending_beside setup.Nothing e) f empty ++ noted p o (pending_beside setup.Program e) f empty ++ noted p o (pending_beside setup.Lock e) f empty
    ++ noted p o (pending_beside (setup.BufferCount 4) e) f empty ++ noted p o (pending_beside (setup.BufferFirst 4 3) e) f empty ++ noted p o (pending_beside (setup.BufferWords 0x80 3 2) e) f words
    ++ noted p o (pending_beside (setup.BufferWords 0x80 3 0) e) f words
    ++ noted p o (waiting one e) f empty ++ noted p o (waiting (both 0) e) f words ++ noted p o (waiting (both 2) e) f words
    ++ ends p o (waiting one e) (waiting no_program e) f (program_ended f) empty empty ++ ends p o (waiting (both 0) e) (waiting no_program e) f (program_ended f) words empty
    ++ ends p o (waiting (both 2) e) (waiting no_program e) f (program_ended f) words empty
    ++ resumes p o (waiting one e) (activity setup.Nothing (running.Program 0x80 0x1234) no_program e) f empty
    ++ resumes p o (waiting (both 0) e) (activity setup.Nothing (running.Buffer 0x80 3 0) no_program e) f words
    ++ resumes p o (waiting (both 2) e) (activity setup.Nothing (running.Buffer 0x80 3 2) no_program e) f words
    ++ ignored p o (waiting one e) f empty ++ ignored p o (waiting (both 2) e) f words

abbrev moves_of : Part → Bool → Flags → List Move
moves_of p o f =
    beside p o f none ++ beside p o f three
    ++ cut p o (running.Erase 4 1) none f (erase_ended f) empty ++ cut p o (running.Erase 4 3) none f (erase_ended f) empty
    ++ noted p o (pending_beside setup.Erase none) f empty
    ++ ends p o (waiting no_program three) (waiting no_program none) f (erase_ended f) empty empty ++ ends p o (waiting no_program (Some (suspended_erase 0 0))) (waiting no_program none) f (erase_ended f) empty empty
    ++ ends p o (waiting no_program none) (waiting no_program none) f f empty empty
    ++ resumes p o (waiting no_program three) (activity setup.Nothing (running.Erase 4 3) no_program none) f empty
    ++ resumes p o (waiting no_program (Some (suspended_erase 0 0))) (activity setup.Nothing (running.Erase 0 0) no_program none) f empty
    ++ resumes p o (waiting no_program none) (waiting no_program none) f empty
    ++ leaves (stands p o (waiting no_program three) f false empty) (Write 0x40 0xB0) (stands p o (waiting no_program three) f false empty) ∷ []

abbrev all_flags : Flags
all_flags = flags_of true true true true

abbrev pub moves : List Move
moves =
    moves_of FullBottom false no_flags ++ moves_of FullTop true no_flags ++ moves_of BenchTop false no_flags
    ++ moves_of BenchBottom true no_flags ++ moves_of BenchBottom false no_flags ++ moves_of BenchBottom true all_flags ++ moves_of BenchBottom false (flags_of false false false true)
    -- a whole buffer
    ++ cut BenchBottom true (running.Buffer 0x80 32 0) none no_flags (program_ended no_flags) (replicate 32 1)
    ++ ends BenchBottom true (waiting (suspended_program.Buffer 0x80 32 0) none) (waiting no_program none) no_flags (program_ended no_flags) (replicate 32 1) empty

pub moves_hold : map left moves ≡ map told moves
unfolding mirror block_from block_of bank_of bit bit_at is_unprotected with_unprotected all_protected empty_buffer power_up end_flags ended ended_if_unsupplied switched command_of resume accepts set_up clear_status first_cycle cycle kept_if held_after loaded written_at written buffer_after switched_to accepted
moves_hold = refl

-- ---- states that are well formed, on every part: what stands where nothing runs, with supply or without it (t); what runs, with it

abbrev standing : Bool → Part → Bool → Flags → Option SuspendedErase → List State
standing t p o f e =
    stands p o (pending_beside setup.Nothing e) f t empty ∷ stands p o (pending_beside setup.Program e) f t empty ∷ stands p o (pending_beside setup.Lock e) f t empty
    ∷ stands p o (pending_beside (setup.BufferCount 4) e) f t empty ∷ stands p o (pending_beside (setup.BufferFirst 4 3) e) f t empty ∷ stands p o (pending_beside (setup.BufferWords 0x80 3 2) e) f t words
    ∷ stands p o (pending_beside (setup.BufferWords 0x80 3 0) e) f t words ∷ stands p o (waiting one e) f t empty ∷ stands p o (waiting (both 0) e) f t words ∷ stands p o (waiting (both 2) e) f t words
    ∷ []

abbrev running_beside : Bool → Part → Bool → Flags → Option SuspendedErase → List State
running_beside t p o f e =
    stands p o (activity setup.Nothing (running.Program 0x80 0x1234) no_program e) f t empty ∷ stands p o (activity setup.Nothing (running.Buffer 0x80 3 0) no_program e) f t words
    ∷ stands p o (activity setup.Nothing (running.Buffer 0x80 3 2) no_program e) f t words
    ∷ []

abbrev all_running : Bool → Part → Bool → Flags → List State
all_running t p o f =
    running_beside t p o f none ++ running_beside t p o f three
    ++ stands p o (activity setup.Nothing (running.Erase 4 1) no_program none) f t empty ∷ stands p o (activity setup.Nothing (running.Erase 4 3) no_program none) f t empty ∷ []

abbrev all_standing : Bool → Part → Bool → Flags → List State
all_standing t p o f = standing t p o f none ++ standing t p o f three ++ stands p o (pending_beside setup.Erase none) f t empty ∷ []

-- of each part, with no flag, and with all
abbrev of_each : (Part → Bool → Flags → List State) → List State
of_each f =
    f FullBottom true no_flags ++ f FullTop false no_flags ++ f BenchBottom true no_flags ++ f BenchTop false no_flags ++ f BenchBottom false all_flags

abbrev pub formed : List State
formed = of_each (all_running true) ++ of_each (all_standing true) ++ of_each (all_standing false)

abbrev pub unsupplied : List State
unsupplied = of_each (all_running false)

pub formed_hold : (map well_formed formed ≡ map (λ s. true) formed) × (map well_formed unsupplied ≡ map (λ s. false) unsupplied)
unfolding mirror block_from block_of size_of start_from start_of bit spare_zero running_alone program_alone erase_alone erase_fits words_fit buffer_fits setup_fits running_fits program_fits suspended_erase_fits all_fit running_apart program_apart apart activity_formed setup_places running_places program_places places_used zero_from reserved_zero runs_supplied well_formed
formed_hold = (refl, refl)
