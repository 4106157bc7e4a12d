-- Cases of the status word (document 01, "Status word."; document 02, item 2): each line alone, several at once, and in which bank SR0 stands. FurtherCases computes them.
-- Bench bottom: block 4 at 40h is in bank 0, block 19 at 400h in bank 1.
-- Assumes nothing.
use Rattle.std.specs.Prelude.{ℕ, Bool, true, false, List, [], ◌∷◌, ◌++◌, Option, Some, None}
use Rattle.geometry.specs.declared.Part.TheVariants.{BenchBottom}
use Rattle.semantics.specs.declared.Flags.{Flags}
use Rattle.semantics.specs.declared.Setup.TheVariants as setup
use Rattle.semantics.specs.declared.Running.{Running}
use Rattle.semantics.specs.declared.Running.TheVariants as running
use Rattle.semantics.specs.declared.SuspendedProgram.{SuspendedProgram}
use Rattle.semantics.specs.declared.SuspendedProgram.TheVariants as suspended_program
use Rattle.semantics.specs.declared.SuspendedErase.{SuspendedErase}
use Rattle.semantics.specs.State.{with_flags, flags_of, no_flags, suspended_erase}
use Rattle.semantics.specs.Cases.{Case, plays, starts, write, cycles, shows, supply, unprotect, program, erase, bench}
use Rattle.semantics.specs.RefusalCases.{under_way}

-- with such flags, and this running and suspended, the status word is w in bank 0 and v in bank 1. The state need not be one that steps lead to
abbrev status : Flags → Running → SuspendedProgram → Option SuspendedErase → ℕ → ℕ → Case
status f r q e w v = starts (with_flags (under_way BenchBottom setup.Nothing r q e) f) (bench 0xFFFF) (write 0x40 0x70 ++ shows 0x40 w ++ write 0x400 0x70 ++ shows 0x400 v)

-- nothing runs, and nothing is suspended: SR7, and the flags SR5, SR4, SR3, SR1
abbrev ready : Bool → Bool → Bool → Bool → ℕ → Case
ready a b c d w = status (flags_of a b c d) running.Idle suspended_program.Nothing None w w

-- a suspended program of location 40h, and an erase of block 5
abbrev one_program : SuspendedProgram
one_program = suspended_program.Program 0x40 0x1234

abbrev one_erase : Option SuspendedErase
one_erase = Some (suspended_erase 5 3)

abbrev pub status_cases : List Case
status_cases =
    -- SR7 alone, and with one line more, from SR6 down to SR1
    ready false false false false 0x80
    ∷ status no_flags running.Idle suspended_program.Nothing one_erase 0xC0 0xC0
    ∷ ready true false false false 0xA0
    ∷ ready false true false false 0x90
    ∷ ready false false true false 0x88
    ∷ status no_flags running.Idle one_program None 0x84 0x84
    ∷ ready false false false true 0x82
    -- SR0 alone, in the banks where nothing runs
    ∷ status no_flags (running.Program 0x40 0x1234) suspended_program.Nothing None 0x00 0x01
    ∷ status no_flags (running.Program 0x400 0x1234) suspended_program.Nothing None 0x01 0x00
    ∷ status no_flags (running.Erase 4 0) suspended_program.Nothing None 0x00 0x01
    ∷ status no_flags (running.Erase 19 0) suspended_program.Nothing None 0x01 0x00
    -- all lines that can stand together: all but SR0; all but SR7 and SR2; with an erase that runs, all but SR7, SR6 and SR2
    ∷ status (flags_of true true true true) running.Idle one_program one_erase 0xFE 0xFE
    ∷ status (flags_of true true true true) (running.Program 0x40 0x1234) suspended_program.Nothing one_erase 0x7A 0x7B
    ∷ status (flags_of true true true true) (running.Erase 19 0) suspended_program.Nothing None 0x3B 0x3A
    -- some of them
    ∷ status (flags_of false false true true) running.Idle one_program one_erase 0xCE 0xCE
    ∷ status (flags_of true true true true) (running.Program 0x40 0x1234) suspended_program.Nothing None 0x3A 0x3B
    ∷ ready true false true false 0xA8
    ∷ ready false true false true 0x92
    -- from power-up: a program refused by protection, beside an erase in bank 0 that runs and is suspended, and then a wrong lock code
    ∷ plays BenchBottom (bench 0xFFFF)
    (supply true ++ program 0x400 0x0000 ++ unprotect 0x40 ++ erase 0x40 ++ shows 0x400 0x13 ++ shows 0x40 0x12 ++ write 0x0 0xB0 ++ shows 0x400 0xD2 ++ cycles 0x400 0x60 0x99
    ++ shows 0x400 0xF2)
    ∷ []
