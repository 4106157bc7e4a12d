-- Cases of the supply that goes off, and of D0h without it: document 02, item 5. FurtherCases computes them.
-- Bench bottom: block 0 has the locations 0 to F, block 4 40 to 7F, block 5 80 to BF, all in bank 0, and block 19 400 to 43F, in bank 1.
-- Assumes nothing.
use Rattle.std.specs.Prelude.{ℕ, Bool, true, false, List, [], ◌∷◌, ◌++◌, replicate, Option, Some, None}
use Rattle.refusal.specs.declared.Refusal.TheVariants as refusal
use Rattle.geometry.specs.declared.Part.{Part}
use Rattle.geometry.specs.declared.Part.TheVariants.{FullBottom, FullTop, BenchBottom, BenchTop}
use Rattle.semantics.specs.declared.Setup.{Setup}
use Rattle.semantics.specs.declared.Setup.TheVariants as setup
use Rattle.semantics.specs.declared.Running.{Running}
use Rattle.semantics.specs.declared.Running.TheVariants as running
use Rattle.semantics.specs.declared.SuspendedProgram.{SuspendedProgram}
use Rattle.semantics.specs.declared.SuspendedProgram.TheVariants as suspended_program
use Rattle.semantics.specs.declared.SuspendedErase.{SuspendedErase}
use Rattle.semantics.specs.declared.State.{State}
use Rattle.semantics.specs.State.{with_buffer, with_supply, suspended_erase}
use Rattle.semantics.specs.Steps.{switched_to}
use Rattle.semantics.specs.Cases.{Exchange, words, Case, plays, starts, reports, counted, unreported, write, cycles, shows, works, supply, reset, unprotect, program, erase, reads, prepared, bench}
use Rattle.semantics.specs.RefusalCases.{under_way, bad, good, all}

-- ---- exchanges

abbrev from : ℕ → List Exchange → Case
from w l = plays BenchBottom (bench w) l

-- supply off
abbrev off : List Exchange
off = supply false

abbrev on : List Exchange
on = supply true

-- E8h and the count at 80h; a load of the words AAAAh and BBBBh at 80h and 81h; and its buffer program
abbrev counted_two : List Exchange
counted_two = cycles 0x80 0xE8 1

abbrev loaded_two : List Exchange
loaded_two = counted_two ++ write 0x80 0xAAAA ++ write 0x81 0xBBBB

abbrev two : List Exchange
two = loaded_two ++ write 0x80 0xD0

-- supply on, and blocks 4 and 5 unprotected
abbrev ready : List Exchange
ready = prepared 0x40 ++ unprotect 0x80

-- the erase of block 4, with n of its words done, suspended
abbrev erase_waits : ℕ → List Exchange
erase_waits n = erase 0x40 ++ works n n ++ write 0x40 0xB0

-- array mode, and the word at an address
abbrev holds : ℕ → ℕ → List Exchange
holds a w = write a 0xFF ++ shows a w

-- ---- states

-- something runs, with supply on or off; a buffer of two words where it is a buffer program
abbrev runs : Part → Running → Option SuspendedErase → Bool → State
runs p r e t = with_supply (under_way p setup.Nothing r suspended_program.Nothing e) t

abbrev runs_two : Option SuspendedErase → Bool → State
runs_two e t = with_buffer (runs BenchBottom (running.Buffer 0x80 2 0) e t) (0xAAAA ∷ 0xBBBB ∷ replicate 30 0)

-- something is suspended or pending, with supply off or on
abbrev waits : SuspendedProgram → Option SuspendedErase → Bool → State
waits q e t = with_supply (under_way BenchBottom setup.Nothing running.Idle q e) t

abbrev waits_two : Option SuspendedErase → Bool → State
waits_two e t = with_buffer (waits (suspended_program.Buffer 0x80 2 0) e t) (0xAAAA ∷ 0xBBBB ∷ replicate 30 0)

abbrev pends : Setup → Bool → State
pends c t = with_supply (under_way BenchBottom c running.Idle suspended_program.Nothing None) t

abbrev none : Option SuspendedErase
none = None

-- the erase of block 4, with three words done, suspended
abbrev three : Option SuspendedErase
three = Some (suspended_erase 4 3)

-- a state that is not well formed: every step is refused 2, and on an array of another length 1, and the report is refused 2
abbrev refused : State → List Case
refused s = starts s (bench 0) (all refusal.Malformed) ∷ starts s (words 3 0) (all refusal.ArrayLength) ∷ unreported s refusal.Malformed ∷ []

abbrev pub supply_cases : List Case
supply_cases =
    -- an erase cut after 10 of 64 words shows A8h; nothing is left to work on, with supply on again too; 50h clears; exactly ten words are FFFFh
    from 0x0000 (prepared 0x40 ++ erase 0x40 ++ works 10 10 ++ off ++ shows 0x40 0xA8 ++ works 5 0 ++ write 0x40 0x50 ++ on ++ works 5 0 ++ shows 0x40 0x80 ++ write 0x40 0xFF ++ reads 0x40 10 0xFFFF ++ reads 0x4A 54 0x0000)
    ∷ from 0xFFFF
    (prepared 0x40 ++ program 0x40 0x0000 ++ works 1 1 ++ program 0x4A 0x0000 ++ works 1 1 ++ erase 0x40 ++ works 10 10 ++ off ++ shows 0x40 0xA8 ++ works 5 0 ++ write 0x40 0x50 ++ on ++ works 5 0
    ++ shows 0x40 0x80 ++ write 0x40 0xFF ++ shows 0x40 0xFFFF ++ shows 0x4A 0x0000)
    -- both suspended, C4h, stay at supply off; D0h ends the program, D8h, and a second one the erase, B8h; nothing is left to resume
    ∷ from 0xFFFF
    (ready ++ erase_waits 1 ++ program 0x80 0x1234 ++ write 0x80 0xB0 ++ shows 0x80 0xC4 ++ off ++ shows 0x80 0xC4 ++ write 0x80 0xD0 ++ shows 0x80 0xD8 ++ write 0x80 0xD0 ++ shows 0x80 0xB8 ++ on
    ++ works 5 0 ++ write 0x80 0xD0 ++ shows 0x80 0xB8 ++ works 5 0 ++ holds 0x80 0xFFFF)
    -- supply off and on leave a load; a buffer program cut after one of two words shows 98h, and the first word is in
    ∷ from 0xFFFF (ready ++ loaded_two ++ off ++ on ++ write 0x80 0xD0 ++ works 1 1 ++ off ++ shows 0x80 0x98 ++ write 0x80 0xFF ++ shows 0x80 0xAAAA ++ shows 0x81 0xFFFF ++ on ++ works 5 0 ++ shows 0x81 0xFFFF)
    -- a program that has had no unit leaves its word, and an erase and a buffer program theirs; D0h resumes none of them, and a new one is accepted
    ∷ from 0xFFFF (ready ++ program 0x80 0x1234 ++ off ++ shows 0x80 0x98 ++ on ++ write 0x80 0xD0 ++ shows 0x80 0x98 ++ works 5 0 ++ holds 0x80 0xFFFF ++ program 0x80 0x5678 ++ works 1 1 ++ holds 0x80 0x5678)
    ∷ from 0x0000 (ready ++ erase 0x40 ++ off ++ shows 0x40 0xA8 ++ on ++ write 0x40 0xD0 ++ shows 0x40 0xA8 ++ works 5 0 ++ holds 0x40 0x0000 ++ erase 0x40 ++ works 65535 64 ++ holds 0x7F 0xFFFF)
    ∷ from 0xFFFF (ready ++ two ++ off ++ shows 0x80 0x98 ++ on ++ write 0x80 0xD0 ++ shows 0x80 0x98 ++ works 5 0 ++ holds 0x80 0xFFFF ++ two ++ works 5 2 ++ holds 0x81 0xBBBB)
    -- all but one of the words, and one of them; a small block; a top part, upward by location
    ∷ from 0x0000 (prepared 0x40 ++ erase 0x40 ++ works 63 63 ++ off ++ shows 0x40 0xA8 ++ write 0x40 0xFF ++ shows 0x7E 0xFFFF ++ shows 0x7F 0x0000 ++ shows 0x80 0x0000)
    ∷ from 0x0000 (prepared 0x40 ++ erase 0x40 ++ works 1 1 ++ off ++ write 0x40 0xFF ++ shows 0x3F 0x0000 ++ shows 0x40 0xFFFF ++ shows 0x41 0x0000)
    ∷ from 0x0000 (prepared 0x0 ++ erase 0x0 ++ works 15 15 ++ off ++ shows 0x0 0xA8 ++ write 0x0 0xFF ++ shows 0xE 0xFFFF ++ shows 0xF 0x0000 ++ shows 0x10 0x0000)
    ∷ plays BenchTop (bench 0x0000) (prepared 0x3F80 ++ erase 0x3FBF ++ works 10 10 ++ off ++ shows 0x3F80 0xA8 ++ write 0x3F80 0xFF ++ shows 0x3F7F 0x0000 ++ shows 0x3F80 0xFFFF ++ shows 0x3F89 0xFFFF ++ shows 0x3F8A 0x0000)
    -- a finished one is not cut: no flag
    ∷ from 0x0000 (prepared 0x40 ++ erase 0x40 ++ works 64 64 ++ off ++ shows 0x40 0x80 ++ holds 0x7F 0xFFFF)
    ∷ from 0xFFFF (ready ++ two ++ works 2 2 ++ off ++ shows 0x80 0x80 ++ holds 0x81 0xBBBB)
    -- with nothing running, and a second time, supply off ends nothing and sets no flag
    ∷ from 0xFFFF (write 0x40 0x70 ++ off ++ shows 0x40 0x80 ++ on ++ off ++ off ++ shows 0x40 0x80)
    ∷ from 0x0000 (prepared 0x40 ++ erase 0x40 ++ works 10 10 ++ off ++ write 0x40 0x50 ++ off ++ shows 0x40 0x80 ++ works 5 0)
    -- supply on while something runs, and while it is suspended, ends and resumes nothing, and clears no flag
    ∷ from 0x0000 (prepared 0x40 ++ erase 0x40 ++ works 10 10 ++ on ++ shows 0x40 0x00 ++ works 10 10 ++ write 0x40 0xB0 ++ on ++ shows 0x40 0xC0 ++ works 5 0 ++ write 0x40 0xD0 ++ works 65535 44 ++ shows 0x40 0x80)
    ∷ from 0xFFFF (ready ++ two ++ works 1 1 ++ on ++ works 5 1 ++ holds 0x81 0xBBBB)
    ∷ from 0xFFFF (ready ++ program 0x80 0x1234 ++ off ++ on ++ shows 0x80 0x98)
    -- and gives no unit
    ∷ from 0xFFFF (ready ++ program 0x80 0x1234 ++ on ++ write 0x80 0xB0 ++ holds 0x80 0xFFFF) ∷ from 0x0000 (ready ++ erase 0x40 ++ on ++ write 0x40 0xB0 ++ holds 0x40 0x0000)
    ∷ from 0xFFFF (ready ++ two ++ on ++ write 0x80 0xB0 ++ holds 0x80 0xFFFF)
    -- the flags come beside those that were, SR1 too; those of an erase beside those of a program
    ∷ from 0xFFFF (on ++ program 0x40 0x1234 ++ shows 0x40 0x92 ++ unprotect 0x40 ++ erase 0x40 ++ off ++ shows 0x40 0xBA)
    ∷ from 0xFFFF (on ++ erase 0x40 ++ shows 0x40 0xA2 ++ unprotect 0x40 ++ program 0x40 0x1234 ++ off ++ shows 0x40 0xBA)
    ∷ from 0xFFFF (ready ++ program 0x80 0x1234 ++ off ++ on ++ erase 0x40 ++ off ++ shows 0x40 0xB8)
    -- what is suspended stays at supply off, with its units and its words, and resumes with supply on: a program, an erase, a buffer program
    ∷ from 0xFFFF (ready ++ program 0x80 0x1234 ++ write 0x80 0xB0 ++ off ++ shows 0x80 0x84 ++ works 5 0 ++ on ++ write 0x80 0xD0 ++ shows 0x80 0x00 ++ works 5 1 ++ holds 0x80 0x1234)
    ∷ from 0x0000 (ready ++ erase_waits 3 ++ off ++ shows 0x40 0xC0 ++ works 5 0 ++ on ++ write 0x40 0xD0 ++ shows 0x40 0x00 ++ works 65535 61 ++ holds 0x7F 0xFFFF)
    ∷ from 0xFFFF (ready ++ two ++ works 1 1 ++ write 0x80 0xB0 ++ off ++ shows 0x80 0x84 ++ works 5 0 ++ on ++ write 0x80 0xD0 ++ shows 0x80 0x00 ++ works 5 1 ++ write 0x80 0xFF ++ shows 0x80 0xAAAA ++ shows 0x81 0xBBBB)
    -- a program, or a buffer program, that runs in a suspended erase ends alone, and the erase goes on when it is resumed
    ∷ from 0x0000 (ready ++ erase_waits 3 ++ program 0x80 0x1234 ++ shows 0x80 0x40 ++ off ++ shows 0x80 0xD8 ++ on ++ works 5 0 ++ write 0x80 0xD0 ++ shows 0x80 0x18 ++ shows 0x40 0x18 ++ works 65535 61 ++ holds 0x7F 0xFFFF)
    ∷ from 0x0000 (ready ++ erase_waits 3 ++ two ++ works 1 1 ++ off ++ shows 0x80 0xD8 ++ on ++ write 0x80 0xD0 ++ works 65535 61 ++ holds 0x7F 0xFFFF)
    -- D0h without supply ends what it would have resumed, with the same flags and no unit: a program, an erase, a buffer program; with supply on again nothing is left of it
    ∷ from 0xFFFF (ready ++ program 0x80 0x1234 ++ write 0x80 0xB0 ++ off ++ write 0x80 0xD0 ++ shows 0x80 0x98 ++ works 5 0 ++ on ++ write 0x80 0xD0 ++ shows 0x80 0x98 ++ works 5 0 ++ holds 0x80 0xFFFF)
    ∷ from 0x0000 (ready ++ erase_waits 3 ++ off ++ write 0x40 0xD0 ++ shows 0x40 0xA8 ++ works 5 0 ++ on ++ write 0x40 0xD0 ++ shows 0x40 0xA8 ++ works 5 0 ++ write 0x40 0xFF ++ shows 0x42 0xFFFF ++ shows 0x43 0x0000)
    ∷ from 0xFFFF
    (ready ++ two ++ works 1 1 ++ write 0x80 0xB0 ++ off ++ write 0x80 0xD0 ++ shows 0x80 0x98 ++ works 5 0 ++ on ++ write 0x80 0xD0 ++ shows 0x80 0x98 ++ works 5 0 ++ write 0x80 0xFF ++ shows 0x80 0xAAAA
    ++ shows 0x81 0xFFFF)
    -- the program first, and alone: the erase stays suspended, and goes on with supply on
    ∷ from 0x0000 (ready ++ erase_waits 3 ++ program 0x80 0x1234 ++ write 0x80 0xB0 ++ off ++ write 0x80 0xD0 ++ shows 0x80 0xD8 ++ on ++ write 0x80 0xD0 ++ shows 0x80 0x18 ++ works 65535 61 ++ holds 0x7F 0xFFFF)
    ∷ from 0x0000 (ready ++ erase_waits 3 ++ two ++ works 1 1 ++ write 0x80 0xB0 ++ shows 0x80 0xC4 ++ off ++ write 0x80 0xD0 ++ shows 0x80 0xD8 ++ write 0x80 0xD0 ++ shows 0x80 0xB8 ++ holds 0x43 0x0000)
    -- at any address, with any upper byte; with nothing suspended it sets no flag; it leaves the flags that were
    ∷ from 0xFFFF (ready ++ program 0x80 0x1234 ++ write 0x80 0xB0 ++ off ++ write 0x400 0x12D0 ++ shows 0x80 0x98)
    ∷ from 0xFFFF (write 0x40 0x70 ++ write 0x40 0xD0 ++ shows 0x40 0x80 ++ on ++ off ++ write 0x40 0xD0 ++ shows 0x40 0x80)
    ∷ from 0xFFFF (on ++ erase 0x40 ++ unprotect 0x80 ++ program 0x80 0x1234 ++ write 0x80 0xB0 ++ off ++ write 0x80 0xD0 ++ shows 0x80 0xBA)
    ∷ from 0xFFFF (on ++ program 0x80 0x1234 ++ unprotect 0x40 ++ erase 0x40 ++ write 0x40 0xB0 ++ off ++ write 0x40 0xD0 ++ shows 0x40 0xBA)
    -- no other first cycle without supply ends what is suspended
    ∷ from 0xFFFF (ready ++ erase 0x40 ++ write 0x40 0xB0 ++ off ++ write 0x40 0xFF ++ write 0x40 0x90 ++ write 0x40 0x98 ++ write 0x40 0x70 ++ shows 0x40 0xC0)
    ∷ from 0xFFFF (ready ++ program 0x80 0x1234 ++ write 0x80 0xB0 ++ off ++ write 0x80 0xFF ++ write 0x80 0x90 ++ write 0x80 0x98 ++ write 0x80 0x70 ++ shows 0x80 0x84)
    -- what it ended is no longer in the way: 20h, 40h, E8h and 60h are taken, as they are after a cut
    ∷ from 0xFFFF (ready ++ erase_waits 1 ++ off ++ write 0x400 0x20 ++ shows 0x400 0xFFFF ++ write 0x40 0xD0 ++ on ++ write 0x400 0x20 ++ shows 0x400 0xA8)
    ∷ from 0xFFFF (ready ++ program 0x80 0x1234 ++ write 0x80 0xB0 ++ off ++ write 0x400 0x40 ++ shows 0x400 0xFFFF ++ write 0x80 0xD0 ++ write 0x400 0x40 ++ shows 0x400 0x98)
    ∷ from 0xFFFF (ready ++ two ++ write 0x80 0xB0 ++ off ++ write 0x400 0xE8 ++ shows 0x400 0xFFFF ++ write 0x80 0xD0 ++ write 0x400 0xE8 ++ shows 0x400 0x98)
    ∷ from 0xFFFF (ready ++ two ++ write 0x400 0x60 ++ shows 0x400 0xFFFF ++ off ++ write 0x400 0x60 ++ shows 0x400 0x98)
    ∷ from 0xFFFF (ready ++ erase 0x40 ++ write 0x400 0x20 ++ shows 0x400 0xFFFF ++ off ++ write 0x400 0x20 ++ shows 0x400 0xA8)
    -- a program where the suspended erase was: its block is free once D0h ended that erase
    ∷ from 0xFFFF (ready ++ erase_waits 1 ++ off ++ write 0x40 0xD0 ++ on ++ program 0x50 0x1234 ++ works 5 1 ++ holds 0x50 0x1234)
    -- without supply a program in the suspended erase's block sets SR4 and SR3: the supply is tested first
    ∷ from 0xFFFF (ready ++ erase_waits 1 ++ off ++ program 0x50 0x1234 ++ shows 0x40 0xD8)
    -- D0h as a second cycle is no resume: after 60h it unprotects, after 20h SR5 and SR3
    ∷ from 0x0000 (ready ++ erase_waits 3 ++ off ++ unprotect 0xC0 ++ shows 0x40 0xC0 ++ write 0xC0 0x90 ++ shows 0xC2 0x0000 ++ on ++ write 0x40 0xD0 ++ works 65535 61)
    ∷ from 0xFFFF (ready ++ off ++ erase 0x40 ++ shows 0x40 0xA8 ++ on ++ works 5 0)
    -- a set-up that is pending stays, and meets the supply at its second cycle: off, and off and on
    ∷ from 0xFFFF (ready ++ write 0x80 0x40 ++ off ++ write 0x80 0x1234 ++ shows 0x80 0x98) ∷ from 0xFFFF (ready ++ write 0x80 0x40 ++ off ++ on ++ write 0x80 0x1234 ++ shows 0x80 0x00 ++ works 5 1)
    ∷ from 0xFFFF (ready ++ write 0x40 0x20 ++ off ++ write 0x40 0xD0 ++ shows 0x40 0xA8) ∷ from 0xFFFF (ready ++ write 0x40 0x20 ++ off ++ on ++ write 0x40 0xD0 ++ shows 0x40 0x00 ++ works 3 3)
    ∷ from 0xFFFF (on ++ write 0x40 0x60 ++ off ++ write 0x40 0xD0 ++ shows 0x40 0x80 ++ write 0x40 0x90 ++ shows 0x42 0x0000)
    -- a load too, at each of its stages; where D0h finds the supply off it is 98h, and no word changes
    ∷ from 0xFFFF (ready ++ write 0x80 0xE8 ++ off ++ on ++ write 0x80 1 ++ write 0x80 0xAAAA ++ write 0x81 0xBBBB ++ write 0x80 0xD0 ++ works 5 2 ++ holds 0x81 0xBBBB)
    ∷ from 0xFFFF (ready ++ counted_two ++ off ++ on ++ write 0x80 0xAAAA ++ write 0x81 0xBBBB ++ write 0x80 0xD0 ++ works 5 2 ++ holds 0x81 0xBBBB)
    ∷ from 0xFFFF (ready ++ counted_two ++ write 0x80 0xAAAA ++ off ++ on ++ write 0x81 0xBBBB ++ write 0x80 0xD0 ++ works 5 2 ++ write 0x80 0xFF ++ shows 0x80 0xAAAA ++ shows 0x81 0xBBBB)
    ∷ from 0xFFFF (ready ++ loaded_two ++ off ++ shows 0x80 0x80 ++ write 0x80 0xD0 ++ shows 0x80 0x98 ++ on ++ works 5 0 ++ holds 0x80 0xFFFF)
    ∷ from 0x0000 (ready ++ erase_waits 3 ++ loaded_two ++ off ++ shows 0x80 0xC0 ++ write 0x80 0xD0 ++ shows 0x80 0xD8 ++ on ++ write 0x80 0xD0 ++ works 65535 61)
    -- no mode changes: a bank in array mode shows its words as soon as what runs in it is cut, and D0h without supply leaves it so
    ∷ from 0x0000 (prepared 0x40 ++ erase 0x40 ++ works 3 3 ++ write 0x40 0xFF ++ shows 0x43 0x00 ++ off ++ shows 0x42 0xFFFF ++ shows 0x43 0x0000)
    ∷ from 0xFFFF (ready ++ program 0x80 0x1234 ++ write 0x80 0xFF ++ shows 0x80 0x00 ++ off ++ shows 0x80 0xFFFF)
    ∷ from 0xFFFF (ready ++ two ++ works 1 1 ++ write 0x80 0xFF ++ off ++ shows 0x80 0xAAAA ++ shows 0x400 0xFFFF)
    ∷ from 0x0000 (ready ++ erase_waits 3 ++ write 0x40 0xFF ++ write 0x400 0x90 ++ off ++ write 0x40 0xD0 ++ shows 0x42 0xFFFF ++ shows 0x43 0x0000 ++ shows 0x400 0x0020 ++ write 0x400 0xD0 ++ shows 0x400 0x0020)
    ∷ from 0xFFFF (ready ++ program 0x80 0x1234 ++ write 0x80 0xB0 ++ write 0x80 0xFF ++ off ++ write 0x80 0xD0 ++ shows 0x80 0xFFFF ++ write 0x400 0x70 ++ shows 0x400 0x98)
    ∷ from 0xFFFF (ready ++ two ++ write 0x80 0xB0 ++ write 0x80 0xFF ++ off ++ write 0x80 0xD0 ++ shows 0x80 0xFFFF ++ write 0x400 0x70 ++ shows 0x400 0x98)
    -- SR0 falls in the other banks
    ∷ from 0xFFFF (ready ++ erase 0x40 ++ write 0x400 0x70 ++ shows 0x400 0x01 ++ off ++ shows 0x400 0xA8)
    -- protection and the configuration register stay
    ∷ reports BenchBottom (bench 0xFFFF) (ready ++ erase 0x40 ++ off) 2 4 ∷ reports BenchBottom (bench 0xFFFF) (ready ++ erase_waits 1 ++ off ++ write 0x40 0xD0) 2 4
    ∷ from 0xFFFF (cycles 0x1204 0x60 0x03 ++ ready ++ two ++ works 1 1 ++ off ++ write 0x0 0x90 ++ shows 0x5 0x1204 ++ on ++ program 0x40 0x0 ++ write 0x40 0xB0 ++ off ++ write 0x40 0xD0 ++ write 0x0 0x90 ++ shows 0x5 0x1204)
    -- reset keeps the supply, and clears what was cut and what was suspended; B0h finds nothing to suspend
    ∷ from 0xFFFF (ready ++ erase 0x40 ++ off ++ reset ++ write 0x40 0x70 ++ shows 0x40 0x80 ++ unprotect 0x40 ++ program 0x40 0x1234 ++ shows 0x40 0x98)
    ∷ from 0xFFFF (ready ++ erase 0x40 ++ off ++ write 0x40 0xB0 ++ shows 0x40 0xA8 ++ on ++ write 0x40 0xD0 ++ works 5 0)
    ∷ from 0xFFFF (ready ++ erase_waits 1 ++ off ++ reset ++ write 0x40 0x70 ++ write 0x40 0xD0 ++ shows 0x40 0x80)
    -- a state is well formed only where supply is on if something runs: a program, an erase, a buffer program, alone and beside a suspended erase
    ∷ refused (runs BenchBottom (running.Program 0x80 0x1234) none false) ++ refused (runs BenchBottom (running.Erase 4 0) none false) ++ refused (runs_two none false)
    ++ bad (runs BenchBottom (running.Program 0x80 0x1234) three false) ∷ bad (runs_two three false) ∷ bad (runs BenchTop (running.Program 0x80 0x1234) none false) ∷ bad (runs BenchBottom (running.Erase 4 63) none false)
    ∷ unreported (runs FullBottom (running.Erase 4 65535) none false) refusal.Malformed ∷ unreported (runs FullTop (running.Program 0xFFFFFF 0x1234) none false) refusal.Malformed
    ∷ starts (runs BenchBottom (running.Program 0x80 0x1234) none true) (bench 0xFFFF) (works 5 1 ++ shows 0x80 0x1234)
    ∷ starts (runs BenchBottom (running.Erase 4 0) none true) (bench 0) (works 65535 64 ++ shows 0x7F 0xFFFF)
    ∷ starts (runs_two none true) (bench 0xFFFF) (works 5 2 ++ shows 0x81 0xBBBB)
    ∷ good (runs BenchBottom (running.Program 0x80 0x1234) three true) ∷ good (runs_two three true)
    ∷ counted (runs FullBottom (running.Erase 4 65535) none true) 0 259 ∷ counted (runs FullTop (running.Program 0xFFFFFF 0x1234) none true) 0 259
    -- what is suspended or pending may stand without supply
    ∷ good (waits (suspended_program.Program 0x80 0x1234) none false) ∷ good (waits suspended_program.Nothing three false) ∷ good (waits_two none false) ∷ good (waits (suspended_program.Program 0x80 0x1234) three false)
    ∷ good (waits_two three false) ∷ good (pends setup.Program false) ∷ good (pends setup.Erase false) ∷ good (pends setup.Lock false) ∷ good (pends (setup.BufferCount 4) false) ∷ good (pends (setup.BufferFirst 4 1) false)
    ∷ good (pends (setup.BufferWords 0x40 1 0) false) ∷ counted (waits (suspended_program.Program 0x80 0x1234) three false) 0 259
    -- on the full parts what runs ends alike: no longer does it run without supply
    ∷ counted (switched_to (runs FullBottom (running.Erase 4 65535) none true) false) 0 259 ∷ counted (switched_to (runs FullTop (running.Program 0xFFFFFF 0x1234) none true) false) 0 259
    ∷ []
