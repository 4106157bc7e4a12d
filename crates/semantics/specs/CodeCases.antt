-- Every code as a command of the device: document 01, "Write, address, data.", and document 02, item 1. One cycle is
-- computed over what it sees at its place, with no array and no other bank or block. Bench bottom: 80h is the lowest
-- location of block 5.
-- Assumes nothing.
use Rattle.std.specs.Prelude.{ℕ, ◌+◌, ◌*◌, Bool, true, false, not, ◌&&◌, List, [], ◌∷◌, T, eqb, Option, Some, None}
use Rattle.geometry.specs.declared.Part.TheVariants.{BenchBottom}
use Rattle.geometry.specs.Blocks.{geometry_of, mirror, block_from, block_of, size_of, start_from, start_of}
use Rattle.semantics.specs.declared.Mode.{Mode}
use Rattle.semantics.specs.declared.Mode.TheVariants.{Array, Status, Signature, Query}
use Rattle.semantics.specs.declared.Setup.{Setup}
use Rattle.semantics.specs.declared.Setup.TheVariants as setup
use Rattle.semantics.specs.declared.Running.{Running}
use Rattle.semantics.specs.declared.Running.TheVariants as running
use Rattle.semantics.specs.declared.SuspendedProgram.TheVariants as suspended_program
use Rattle.semantics.specs.declared.SuspendedErase.{SuspendedErase}
use Rattle.semantics.specs.declared.Flags.{Flags}
use Rattle.semantics.specs.declared.Place.{Place}
use Rattle.semantics.specs.declared.View.{View}
use Rattle.semantics.specs.State.{activity, flags_of, no_flags, suspended_erase}
use Rattle.semantics.specs.Register.{without_reserved}
use Rattle.semantics.specs.Supply.{end_flags, ended, ended_if_unsupplied}
use Rattle.semantics.specs.Writing.{command_of, resume, accepts, set_up, clear_status, first_cycle, program_runs, erase_cycle, lock_command_of, lock_cycle, settle, loads, count_right, first_right, later_right, confirm_right, confirm_cycle, words_cycle, cycle}
use Rattle.semantics.specs.Exactly.{exactly}

-- the place of the address 80h
abbrev at80 : Place
at80 = record { address = 0x80; location = 0x80; bank = 0; block = 5 }

-- the view there: with supply on, such flags, the block unprotected or not, a set-up, and what runs or is suspended;
-- signature mode, and a register of 1204h
abbrev seen : Flags → Bool → Setup → Running → Option SuspendedErase → View
seen f o s r e = record { mode = Signature; unprotected = o; control = record { activity = activity s r suspended_program.Nothing e; flags = f; configuration = 0x1204; supply = true } }

abbrev idle : Bool → Setup → View
idle o s = seen no_flags o s running.Idle None

-- after a cycle of the word w on it
abbrev after : View → ℕ → View
after v w = cycle (geometry_of BenchBottom) v v.control.activity.setup at80 w

-- ---- what is seen then, as numbers: the mode, the set-up, and what runs

abbrev mode : Mode → ℕ
mode Array = 0
mode Status = 1
mode Signature = 2
mode Query = 3

abbrev pending : Setup → ℕ
pending setup.Nothing = 0
pending setup.Program = 1
pending setup.Erase = 2
pending setup.Lock = 3
pending (setup.BufferCount b) = 4
pending (setup.BufferFirst b n) = 5
pending (setup.BufferWords l n k) = 6

abbrev working : Running → ℕ
working running.Idle = 0
working (running.Program l w) = 1
working (running.Erase b n) = 2
working (running.Buffer l n d) = 3

abbrev shows : ℕ → View → Bool
shows n v = eqb (mode v.mode) n

abbrev pends : ℕ → View → Bool
pends n v = eqb (pending v.control.activity.setup) n

abbrev works : ℕ → View → Bool
works n v = eqb (working v.control.activity.running) n

-- SR5 and SR4, and no other flag; and none of the four
abbrev wrong : View → Bool
wrong v = (v.control.flags.sr5 && v.control.flags.sr4) && (not v.control.flags.sr3 && not v.control.flags.sr1)

abbrev clear : View → Bool
clear v = (not v.control.flags.sr5 && not v.control.flags.sr4) && (not v.control.flags.sr3 && not v.control.flags.sr1)

abbrev every : List Bool → Bool
every [] = true
every (b ∷ l) = b && every l

-- one word loaded at 80h, and its confirming cycle due
abbrev loaded : Setup
loaded = setup.BufferWords 0x80 1 0

abbrev pub code_cases : List Bool
code_cases =
    -- no set-up: 10h and 40h are of a program, 20h of an erase, 60h of a lock command and E8h of a load, whatever the
    -- upper byte
    exactly (λ c. pends 1 (after (idle false setup.Nothing) c)) (0x10 ∷ 0x40 ∷ [])
    ∷ exactly (λ c. pends 2 (after (idle false setup.Nothing) c)) (0x20 ∷ [])
    ∷ exactly (λ c. pends 3 (after (idle false setup.Nothing) c)) (0x60 ∷ [])
    ∷ exactly (λ c. pends 4 (after (idle false setup.Nothing) c)) (0xE8 ∷ [])
    ∷ exactly (λ c. not (pends 0 (after (idle false setup.Nothing) (c + 0xAB00)))) (0x10 ∷ 0x20 ∷ 0x40 ∷ 0x60 ∷ 0xE8 ∷ [])
    -- FFh, 70h, 90h and 98h are the modes; a set-up shows the status too, and every other code leaves the mode
    ∷ exactly (λ c. shows 0 (after (idle false setup.Nothing) c)) (0xFF ∷ [])
    ∷ exactly (λ c. shows 1 (after (idle false setup.Nothing) c)) (0x10 ∷ 0x20 ∷ 0x40 ∷ 0x60 ∷ 0x70 ∷ 0xE8 ∷ [])
    ∷ exactly (λ c. shows 3 (after (idle false setup.Nothing) c)) (0x98 ∷ [])
    ∷ exactly (λ c. not (shows 2 (after (idle false setup.Nothing) c))) (0x10 ∷ 0x20 ∷ 0x40 ∷ 0x60 ∷ 0x70 ∷ 0x98 ∷ 0xE8 ∷ 0xFF ∷ [])
    -- 50h clears the flags, and no code sets one
    ∷ exactly (λ c. clear (after (seen (flags_of true true true true) false setup.Nothing running.Idle None) c)) (0x50 ∷ [])
    ∷ exactly (λ c. not (clear (after (idle false setup.Nothing) c))) []
    -- B0h suspends an erase, and D0h resumes it
    ∷ exactly (λ c. works 0 (after (seen no_flags true setup.Nothing (running.Erase 4 3) None) c)) (0xB0 ∷ [])
    ∷ exactly (λ c. works 2 (after (seen no_flags true setup.Nothing running.Idle (Some (suspended_erase 4 3))) c)) (0xD0 ∷ [])
    -- after 60h: 01h alone protects, D0h alone unprotects, 03h alone sets the register, to 0080h, and every other
    -- code is wrong
    ∷ exactly (λ c. not (after (idle true setup.Lock) c).unprotected) (0x01 ∷ [])
    ∷ exactly (λ c. (after (idle false setup.Lock) c).unprotected) (0xD0 ∷ [])
    ∷ exactly (λ c. eqb (after (idle true setup.Lock) c).control.configuration 0x0080) (0x03 ∷ [])
    ∷ exactly (λ c. not (eqb (after (idle true setup.Lock) c).control.configuration 0x1204)) (0x03 ∷ [])
    ∷ exactly (λ c. not (wrong (after (idle true setup.Lock) c))) (0x01 ∷ 0x03 ∷ 0xD0 ∷ [])
    ∷ exactly (λ c. clear (after (idle true setup.Lock) (c + 0xAB00))) (0x01 ∷ 0x03 ∷ 0xD0 ∷ [])
    -- after 20h: D0h alone confirms, and every other code is wrong
    ∷ exactly (λ c. works 2 (after (idle true setup.Erase) c)) (0xD0 ∷ [])
    ∷ exactly (λ c. not (wrong (after (idle true setup.Erase) c))) (0xD0 ∷ [])
    ∷ exactly (λ c. works 2 (after (idle true setup.Erase) (c + 0xAB00))) (0xD0 ∷ [])
    -- after 40h every code is data: a program runs, and no flag is set
    ∷ exactly (λ c. not (works 1 (after (idle true setup.Program) c) && clear (after (idle true setup.Program) c))) []
    -- after a load: D0h alone confirms, and every other code is wrong
    ∷ exactly (λ c. works 3 (after (idle true loaded) c)) (0xD0 ∷ [])
    ∷ exactly (λ c. not (wrong (after (idle true loaded) c))) (0xD0 ∷ [])
    -- after E8h: a count up to 31 is right, of the whole word, and every other one is wrong
    ∷ exactly (λ n. pends 5 (after (idle true (setup.BufferCount 5)) n))
    (0 ∷ 1 ∷ 2 ∷ 3 ∷ 4 ∷ 5 ∷ 6 ∷ 7 ∷ 8 ∷ 9 ∷ 10 ∷ 11 ∷ 12 ∷ 13 ∷ 14 ∷ 15 ∷ 16 ∷ 17 ∷ 18 ∷ 19 ∷ 20 ∷ 21 ∷ 22 ∷ 23 ∷ 24 ∷ 25 ∷ 26 ∷ 27 ∷ 28 ∷ 29 ∷ 30 ∷ 31 ∷ [])
    ∷ exactly (λ n. pends 5 (after (idle true (setup.BufferCount 5)) (n * 256))) (0 ∷ [])
    ∷ exactly (λ n. pends 5 (after (idle true (setup.BufferCount 5)) (n * 256 + 31))) (0 ∷ [])
    ∷ exactly (λ n. not (wrong (after (idle true (setup.BufferCount 5)) (n * 256 + 1)))) (0 ∷ [])
    ∷ []

pub codes_hold : T (every code_cases)
unfolding mirror block_from block_of size_of start_from start_of command_of end_flags ended ended_if_unsupplied resume accepts set_up clear_status first_cycle program_runs erase_cycle lock_command_of without_reserved lock_cycle settle loads count_right first_right later_right confirm_right confirm_cycle words_cycle cycle
codes_hold = tt
