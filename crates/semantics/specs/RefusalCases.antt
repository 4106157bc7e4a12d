-- Cases of the refusal card: each number at its limits, the lowest where several apply, nothing changed by a step that is refused; and of each part of document
-- 01's sentence on states that are well formed, a state that breaks this part alone and one at its edge. FurtherCases computes them.
-- Assumes nothing.
use Rattle.std.specs.Prelude.{ℕ, true, false, List, [], ◌∷◌, ◌++◌, replicate, Option, Some, None}
use Rattle.refusal.specs.declared.Refusal.{Refusal}
use Rattle.refusal.specs.declared.Refusal.TheVariants as refusal
use Rattle.geometry.specs.declared.Part.{Part}
use Rattle.geometry.specs.declared.Part.TheVariants.{BenchBottom, BenchTop}
use Rattle.semantics.specs.declared.Step.TheVariants.{Read, Write, Work, Supply, Reset}
use Rattle.semantics.specs.declared.Answer.TheVariants.{Word, Units, Done, Refused}
use Rattle.semantics.specs.declared.State.{State}
use Rattle.semantics.specs.declared.Setup.{Setup}
use Rattle.semantics.specs.declared.Setup.TheVariants as setup
use Rattle.semantics.specs.declared.Running.{Running}
use Rattle.semantics.specs.declared.Running.TheVariants as running
use Rattle.semantics.specs.declared.SuspendedProgram.{SuspendedProgram}
use Rattle.semantics.specs.declared.SuspendedProgram.TheVariants as suspended_program
use Rattle.semantics.specs.declared.SuspendedErase.{SuspendedErase}
use Rattle.semantics.specs.State.{power_up, activity, runs, with_activity, with_protection, with_supply, suspended_erase}
use Rattle.semantics.specs.Cases.{◌⟶◌, Exchange, words, Case, plays, starts, unreported, write, shows, works, program, prepared, bench}

-- ---- states that differ from power-up in what is under way, with supply on where something runs, or in the last of the protection words

abbrev pub under_way : Part → Setup → Running → SuspendedProgram → Option SuspendedErase → State
under_way p s r q e = with_supply (with_activity (power_up p) (activity s r q e)) (runs r)

abbrev pub last_word : ℕ → State
last_word w = with_protection (power_up BenchBottom) (replicate 4 0 ++ w ∷ [])

-- a program and an erase that run: at location l; of block b, with n words done
abbrev program_runs : ℕ → State
program_runs l = under_way BenchBottom setup.Nothing (running.Program l 0x1234) suspended_program.Nothing None

abbrev erase_runs : ℕ → ℕ → State
erase_runs b n = under_way BenchBottom setup.Nothing (running.Erase b n) suspended_program.Nothing None

-- suspended ones
abbrev program_waits : ℕ → State
program_waits l = under_way BenchBottom setup.Nothing running.Idle (suspended_program.Program l 0x1234) None

abbrev erase_waits : ℕ → ℕ → State
erase_waits b n = under_way BenchBottom setup.Nothing running.Idle suspended_program.Nothing (Some (suspended_erase b n))

-- ---- a state that is not well formed, by the refusal of a step on it; and one that is

abbrev pub bad : State → Case
bad s = starts s (bench 0) ((Reset ⟶ Refused refusal.Malformed) ∷ [])

abbrev pub good : State → Case
good s = starts s (bench 0) ((Supply true ⟶ Done) ∷ [])

-- every step refused for r, whatever its own numbers
abbrev pub all : Refusal → List Exchange
all r =
    (Read 0 ⟶ Refused r) ∷ (Write 0 0xFF ⟶ Refused r) ∷ (Work 1 ⟶ Refused r) ∷ (Supply true ⟶ Refused r) ∷ (Supply false ⟶ Refused r) ∷ (Reset ⟶ Refused r) ∷ (Read 0x1000000 ⟶ Refused r)
    ∷ (Write 0x1000000 0xFF ⟶ Refused r) ∷ (Work 65536 ⟶ Refused r) ∷ []

abbrev pub refusal_cases : List Case
refusal_cases =
    -- document 01's script; an address of 16,777,216 is refused 3, a count of 99,999 is refused 4
    plays BenchBottom (bench 0xFFFF)
    (prepared 0x40 ++ program 0x41 0x1234 ++ shows 0x41 0x0000 ++ works 5 1 ++ shows 0x41 0x0080 ++ write 0x0 0xFF ++ shows 0x41 0x1234 ++ shows 0x4041 0x1234
    ++ (Read 0x1000000 ⟶ Refused refusal.Address) ∷ (Work 99999 ⟶ Refused refusal.WorkCount) ∷ [])
    -- on an array of another length every step is refused 1, whatever else is wrong with it
    ∷ plays BenchBottom (words 3 0) (all refusal.ArrayLength)
    ∷ plays BenchBottom (words 0 0) (all refusal.ArrayLength)
    ∷ plays BenchTop (words 16383 0) ((Reset ⟶ Refused refusal.ArrayLength) ∷ [])
    ∷ plays BenchTop (words 16385 0) ((Reset ⟶ Refused refusal.ArrayLength) ∷ [])
    ∷ starts (program_runs 0x4000) (words 3 0) (all refusal.ArrayLength)
    -- a state that is not well formed: every step, whatever its own numbers, and the report
    ∷ starts (program_runs 0x4000) (bench 0) (all refusal.Malformed)
    ∷ unreported (program_runs 0x4000) refusal.Malformed
    -- 3 and 4 at their limits
    ∷ plays BenchBottom (bench 0xFFFF)
    ((Read 0xFFFFFF ⟶ Word 0xFFFF) ∷ (Read 0x1000000 ⟶ Refused refusal.Address) ∷ (Write 0xFFFFFF 0x70 ⟶ Done) ∷ (Write 0x1000000 0x70 ⟶ Refused refusal.Address) ∷ (Work 65535 ⟶ Units 0) ∷ (Work 65536 ⟶ Refused refusal.WorkCount) ∷ [])
    -- a refused step changes nothing: neither a pending set-up, nor a mode, nor what runs, nor the array
    ∷ plays BenchBottom (bench 0xFFFF)
    (prepared 0x40 ++ write 0x40 0x40 ++ (Write 0x1000040 0xFF ⟶ Refused refusal.Address) ∷ (Work 65536 ⟶ Refused refusal.WorkCount) ∷ write 0x40 0x1234 ++ (Work 65536 ⟶ Refused refusal.WorkCount) ∷ (Write 0x1000040 0xB0 ⟶ Refused refusal.Address)
    ∷ shows 0x40 0x00 ++ write 0x40 0xB0 ++ shows 0x40 0x84 ++ write 0x40 0xFF ++ shows 0x40 0xFFFF ++ (Write 0x1000040 0x70 ⟶ Refused refusal.Address) ∷ (Read 0x1000040 ⟶ Refused refusal.Address) ∷ shows 0x40 0xFFFF)
    -- "a running operation means no set-up pending"
    ∷ bad (under_way BenchBottom setup.Program (running.Program 0x40 0) suspended_program.Nothing None)
    ∷ bad (under_way BenchBottom setup.Erase (running.Program 0x40 0) suspended_program.Nothing None)
    ∷ bad (under_way BenchBottom setup.Lock (running.Erase 4 0) suspended_program.Nothing None)
    ∷ good (under_way BenchBottom setup.Program running.Idle suspended_program.Nothing None)
    ∷ good (under_way BenchBottom setup.Erase running.Idle suspended_program.Nothing None)
    ∷ good (under_way BenchBottom setup.Lock running.Idle suspended_program.Nothing None)
    -- "and no suspended program"
    ∷ bad (under_way BenchBottom setup.Nothing (running.Program 0x40 0) (suspended_program.Program 0x80 0) None)
    ∷ bad (under_way BenchBottom setup.Nothing (running.Erase 4 0) (suspended_program.Program 0x80 0) None)
    -- "a suspended program means no set-up pending"
    ∷ bad (under_way BenchBottom setup.Program running.Idle (suspended_program.Program 0x80 0) None)
    ∷ bad (under_way BenchBottom setup.Erase running.Idle (suspended_program.Program 0x80 0) None)
    ∷ bad (under_way BenchBottom setup.Lock running.Idle (suspended_program.Program 0x80 0) None)
    ∷ good (under_way BenchBottom setup.Nothing running.Idle (suspended_program.Program 0x80 0) (Some (suspended_erase 4 0)))
    -- "a suspended erase means no running erase and no erase set-up pending"
    ∷ bad (under_way BenchBottom setup.Nothing (running.Erase 5 0) suspended_program.Nothing (Some (suspended_erase 4 0)))
    ∷ bad (under_way BenchBottom setup.Erase running.Idle suspended_program.Nothing (Some (suspended_erase 4 0)))
    ∷ good (under_way BenchBottom setup.Nothing (running.Program 0x80 0) suspended_program.Nothing (Some (suspended_erase 4 0)))
    ∷ good (under_way BenchBottom setup.Program running.Idle suspended_program.Nothing (Some (suspended_erase 4 0)))
    ∷ good (under_way BenchBottom setup.Lock running.Idle suspended_program.Nothing (Some (suspended_erase 4 0)))
    -- "locations and blocks are of the part"
    ∷ good (program_runs 0x3FFF)
    ∷ bad (program_runs 0x4000)
    ∷ good (program_waits 0x3FFF)
    ∷ bad (program_waits 0x4000)
    ∷ bad (erase_runs 259 0)
    ∷ bad (erase_waits 259 0)
    -- "an erase has done fewer words than its block has"
    ∷ starts (erase_runs 258 63) (bench 0) (works 65535 1 ++ shows 0x3FFF 0xFFFF ++ shows 0x3FFE 0)
    ∷ bad (erase_runs 258 64)
    ∷ starts (erase_runs 0 15) (bench 0) (works 65535 1 ++ shows 0xF 0xFFFF ++ shows 0xE 0)
    ∷ bad (erase_runs 0 16)
    ∷ good (erase_waits 4 63)
    ∷ bad (erase_waits 4 64)
    ∷ good (erase_waits 3 15)
    ∷ bad (erase_waits 3 16)
    -- "a program that runs or is suspended beside a suspended erase lies in another block"
    ∷ bad (under_way BenchBottom setup.Nothing (running.Program 0x7F 0) suspended_program.Nothing (Some (suspended_erase 4 0)))
    ∷ bad (under_way BenchBottom setup.Nothing running.Idle (suspended_program.Program 0x40 0) (Some (suspended_erase 4 0)))
    ∷ good (under_way BenchTop setup.Nothing (running.Program 0x7F 0) suspended_program.Nothing (Some (suspended_erase 4 0)))
    ∷ bad (under_way BenchTop setup.Nothing running.Idle (suspended_program.Program 0x3F80 0) (Some (suspended_erase 4 0)))
    -- "spare storage, if any, is zero": blocks 256 to 258 are the last word's three lowest digits
    ∷ good (last_word 7)
    ∷ bad (last_word 8)
    ∷ unreported (last_word 8) refusal.Malformed
    ∷ []
