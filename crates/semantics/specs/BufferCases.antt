-- Cases of document 02, item 1, and section 4.9 of the data sheet: the load of the write buffer, its wrong cycles, a buffer program, and the states that are well formed.
-- FurtherCases computes them.
-- Assumes nothing.
use Rattle.std.specs.Prelude.{ℕ, ◌+◌, true, false, List, [], ◌∷◌, ◌++◌, replicate, Option, Some, None}
use Rattle.refusal.specs.declared.Refusal.TheVariants as refusal
use Rattle.geometry.specs.declared.Part.TheVariants.{BenchBottom, BenchTop}
use Rattle.semantics.specs.declared.Step.TheVariants.{Write}
use Rattle.semantics.specs.declared.Answer.TheVariants.{Refused}
use Rattle.semantics.specs.declared.State.{State}
use Rattle.semantics.specs.declared.Setup.{Setup}
use Rattle.semantics.specs.declared.Setup.TheVariants as setup
use Rattle.semantics.specs.declared.Running.TheVariants as running
use Rattle.semantics.specs.declared.SuspendedProgram.TheVariants as suspended_program
use Rattle.semantics.specs.declared.SuspendedErase.{SuspendedErase}
use Rattle.semantics.specs.State.{with_buffer, suspended_erase}
use Rattle.semantics.specs.Cases.{◌⟶◌, Exchange, Case, plays, starts, write, cycles, shows, works, supply, reset, unprotect, protect, program, erase, prepared, bench}
use Rattle.semantics.specs.RefusalCases.{under_way, bad, good}

-- ---- exchanges. Bench bottom: block 0 has the locations 0 to F, block 4 40 to 7F, block 5 80 to BF, all in bank 0, and block 19 400 to 43F, in bank 1

-- E8h and the count, the number of words less one, at one address
abbrev begun : ℕ → ℕ → List Exchange
begun a n = cycles a 0xE8 n

-- a whole load of one word, with its confirming cycle
abbrev load_one : ℕ → ℕ → List Exchange
load_one a w = begun a 0 ++ write a w ++ write a 0xD0

-- a load of the words 1, 2, 3 at 40 to 42, and its buffer program
abbrev three_words : List Exchange
three_words = begun 0x40 2 ++ write 0x40 1 ++ write 0x41 2 ++ write 0x42 3 ++ write 0x40 0xD0

-- words that are their own addresses, at twenty and at ten places from a on
abbrev ten : ℕ → List Exchange
ten a =
    write a a ++ write (a + 1) (a + 1) ++ write (a + 2) (a + 2) ++ write (a + 3) (a + 3) ++ write (a + 4) (a + 4) ++ write (a + 5) (a + 5) ++ write (a + 6) (a + 6) ++ write (a + 7) (a + 7)
    ++ write (a + 8) (a + 8) ++ write (a + 9) (a + 9)

abbrev twenty : ℕ → List Exchange
twenty a = ten a ++ ten (a + 10)

abbrev from : ℕ → List Exchange → Case
from w l = plays BenchBottom (bench w) l

-- ---- states with a load or a buffer program, and a buffer of n words w with 0 after them

abbrev filled : ℕ → ℕ → ℕ → List ℕ
filled n w rest = replicate n w ++ replicate rest 0

abbrev loading : Setup → Option SuspendedErase → List ℕ → State
loading c e bs = with_buffer (under_way BenchBottom c running.Idle suspended_program.Nothing e) bs

abbrev runs : ℕ → ℕ → ℕ → Option SuspendedErase → List ℕ → State
runs l n d e bs = with_buffer (under_way BenchBottom setup.Nothing (running.Buffer l n d) suspended_program.Nothing e) bs

abbrev waits : ℕ → ℕ → ℕ → Option SuspendedErase → List ℕ → State
waits l n d e bs = with_buffer (under_way BenchBottom setup.Nothing running.Idle (suspended_program.Buffer l n d) e) bs

abbrev none : Option SuspendedErase
none = None

abbrev pub buffer_cases : List Case
buffer_cases =
    -- E8h at any location of the block; the words in any order from the first on, of two for one word the later, FFFFh for a word given none, which costs its unit. While it
    -- runs its bank shows 00h, and another bank 01h
    from 0xFFFF
    (prepared 0x40 ++ write 0x7F 0xE8 ++ write 0x40 3 ++ write 0x50 0x1111 ++ write 0x52 0x2222 ++ write 0x52 0x3333 ++ write 0x50 0xF0F0 ++ shows 0x50 0x80 ++ write 0x40 0xD0 ++ shows 0x50 0x00
    ++ works 3 3 ++ shows 0x400 0xFFFF ++ write 0x400 0x70 ++ shows 0x400 0x01 ++ works 9 1 ++ shows 0x40 0x80 ++ write 0x40 0xFF ++ shows 0x4F 0xFFFF ++ shows 0x50 0xF0F0 ++ shows 0x51 0xFFFF
    ++ shows 0x52 0x3333 ++ shows 0x53 0xFFFF ++ shows 0x54 0xFFFF)
    -- wrong cycles in block 0, of 16 words: words that would leave it; one below the first; count 32; the count in another bank, which it puts in status mode. What follows is read as commands
    ∷ from 0xFFFF
    (prepared 0x0 ++ write 0x0 0xE8 ++ write 0x1 3 ++ write 0xE 0xAAAA ++ shows 0x0 0xB0 ++ write 0x0 0xD0 ++ shows 0x0 0xB0 ++ write 0x0 0x50 ++ begun 0x0 3 ++ write 0xC 0x1111 ++ write 0xB 0x2222
    ++ shows 0x0 0xB0 ++ write 0x0 0x50 ++ begun 0x0 0x20 ++ shows 0x0 0xB0 ++ write 0x0 0x50 ++ write 0x0 0xE8 ++ write 0x400 0 ++ shows 0x400 0xB0 ++ shows 0x0 0xB0 ++ write 0x0 0xFF
    ++ shows 0xC 0xFFFF)
    -- suspended after two of three words: SR2, and E8h is not taken; resumed at any address; cut by a reset: two words reached
    ∷ from 0xFFFF
    (prepared 0x40 ++ three_words ++ works 2 2 ++ write 0x0 0xB0 ++ shows 0x40 0x84 ++ write 0x40 0xE8 ++ write 0x40 0xFF ++ shows 0x41 0x0002 ++ shows 0x42 0xFFFF ++ write 0x400 0xD0 ++ shows 0x40 0x00
    ++ reset ++ works 5 0 ++ shows 0x40 0x0001 ++ shows 0x41 0x0002 ++ shows 0x42 0xFFFF)
    -- at D0h: supply off 98h, the block protected 92h; and the whole count word counts: 0100h is wrong
    ∷ from 0xFFFF
    (load_one 0x40 0x1234 ++ shows 0x40 0x98 ++ write 0x40 0x50 ++ supply true ++ load_one 0x40 0x1234 ++ shows 0x40 0x92 ++ write 0x40 0x50 ++ begun 0x40 0x100 ++ shows 0x40 0xB0)
    -- in the block of the suspended erase SR4, and in another block it runs there: suspended in it C4h, resumed before the erase
    ∷ from 0x0000
    (prepared 0x40 ++ unprotect 0x80 ++ erase 0x40 ++ works 3 3 ++ write 0x40 0xB0 ++ load_one 0x41 0x1234 ++ shows 0x40 0xD0 ++ write 0x40 0x50 ++ begun 0x80 1 ++ write 0x80 0xF0 ++ write 0x81 0xF1
    ++ write 0x80 0xD0 ++ shows 0x80 0x40 ++ works 1 1 ++ write 0x80 0xB0 ++ shows 0x80 0xC4 ++ write 0x80 0xD0 ++ works 9 1 ++ shows 0x80 0xC0 ++ write 0x80 0xD0 ++ works 65535 61 ++ write 0x40 0xFF
    ++ shows 0x40 0xFFFF ++ shows 0x7F 0xFFFF ++ shows 0x80 0x0000)
    -- a unit ands, and does one word, the lowest first; work of 0 does none
    ∷ from 0x0FF0
    (prepared 0x40 ++ begun 0x40 2 ++ write 0x40 0xF0F0 ++ write 0x42 0x3333 ++ write 0x41 0x00FF ++ write 0x40 0xD0 ++ works 0 0 ++ works 1 1 ++ write 0x40 0xB0 ++ write 0x40 0xFF ++ shows 0x40 0x00F0
    ++ shows 0x41 0x0FF0 ++ shows 0x42 0x0FF0 ++ write 0x40 0xD0 ++ works 1 1 ++ write 0x40 0xB0 ++ shows 0x41 0x00F0 ++ shows 0x42 0x0FF0 ++ write 0x40 0xD0 ++ works 65535 1 ++ shows 0x42 0x0330
    ++ shows 0x43 0x0FF0 ++ works 5 0)
    -- 32 words, the whole buffer, at a place that is no multiple of 32
    ∷ from 0xFFFF
    (prepared 0x40 ++ begun 0x60 0x1F ++ write 0x45 0x4545 ++ write 0x64 0x6464 ++ twenty 0x46 ++ ten 0x5A ++ write 0x40 0xD0 ++ works 31 31 ++ shows 0x40 0x00 ++ works 65535 1 ++ write 0x40 0xFF
    ++ shows 0x44 0xFFFF ++ shows 0x45 0x4545 ++ shows 0x46 0x0046 ++ shows 0x63 0x0063 ++ shows 0x64 0x6464 ++ shows 0x65 0xFFFF)
    -- as many words as the block has left, at its end, and one more
    ∷ from 0xFFFF (prepared 0x0 ++ begun 0x0 15 ++ write 0x0 0x1111 ++ shows 0x0 0x80)
    ∷ from 0xFFFF (prepared 0x0 ++ begun 0x0 16 ++ shows 0x0 0x80 ++ write 0x0 0x1111 ++ shows 0x0 0xB0)
    ∷ plays BenchTop (bench 0xFFFF) (begun 0x3FF0 15 ++ write 0x3FF0 0x1111 ++ shows 0x3FF0 0x80 ++ reset ++ begun 0x3FF0 15 ++ write 0x3FF1 0x1111 ++ shows 0x3FF0 0xB0)
    -- the block is that of E8h: the count, the first word and D0h in another block of the bank are wrong, and so is a word past the last
    ∷ from 0xFFFF (prepared 0x40 ++ unprotect 0x80 ++ write 0x40 0xE8 ++ write 0x80 0 ++ shows 0x40 0xB0)
    ∷ from 0xFFFF (prepared 0x40 ++ unprotect 0x80 ++ begun 0x40 0 ++ write 0x80 0x1234 ++ shows 0x40 0xB0)
    ∷ from 0xFFFF (prepared 0x40 ++ unprotect 0x80 ++ begun 0x40 0 ++ write 0x40 0x1234 ++ write 0x80 0xD0 ++ shows 0x40 0xB0 ++ works 1 0)
    ∷ from 0xFFFF (prepared 0x40 ++ begun 0x40 1 ++ write 0x40 1 ++ write 0x42 2 ++ shows 0x40 0xB0)
    ∷ from 0xFFFF (prepared 0x40 ++ begun 0x40 1 ++ write 0x40 1 ++ write 0x41 2 ++ shows 0x40 0x80 ++ write 0x7F 0xD0 ++ shows 0x40 0x00)
    -- the confirming cycle is D0h, with any upper byte, and comes after exactly so many data cycles; each cycle puts the bank of its own address in status mode, a wrong one too
    ∷ from 0xFFFF (prepared 0x40 ++ begun 0x40 0 ++ write 0x40 0x1234 ++ write 0x40 0x20 ++ shows 0x40 0xB0 ++ write 0x40 0xFF ++ shows 0x40 0xFFFF)
    ∷ from 0xFFFF (prepared 0x40 ++ write 0x40 0x12E8 ++ write 0x40 0 ++ write 0x40 0x1234 ++ write 0x40 0x56D0 ++ shows 0x40 0x00 ++ works 1 1 ++ write 0x40 0xFF ++ shows 0x40 0x1234)
    ∷ from 0xFFFF (prepared 0x40 ++ begun 0x40 1 ++ write 0x40 0x1234 ++ write 0x41 0xD0 ++ shows 0x40 0x80 ++ write 0x40 0xD0 ++ works 9 2 ++ write 0x40 0xFF ++ shows 0x41 0x00D0)
    ∷ from 0xFFFF (begun 0x40 0 ++ write 0x40 0x1234 ++ write 0x800 0xD0 ++ shows 0x800 0xB0 ++ shows 0x0 0xB0 ++ shows 0x400 0xFFFF)
    ∷ from 0xFFFF (begun 0x40 0 ++ write 0x400 0x1234 ++ shows 0x400 0xB0 ++ shows 0x800 0xFFFF)
    ∷ from 0xFFFF (begun 0x40 1 ++ write 0x40 0x1234 ++ write 0x400 0x1234 ++ shows 0x400 0xB0)
    -- every write is a cycle of the load: FFh, 50h, B0h, 60h and D0h are data, and change no mode
    ∷ from 0xFFFF
    (prepared 0x40 ++ begun 0x40 4 ++ write 0x40 0xFF ++ write 0x41 0x50 ++ write 0x42 0xB0 ++ write 0x43 0x60 ++ write 0x44 0xD0 ++ shows 0x40 0x80 ++ write 0x40 0xD0 ++ works 9 5 ++ write 0x40 0xFF
    ++ shows 0x40 0x00FF ++ shows 0x41 0x0050 ++ shows 0x42 0x00B0 ++ shows 0x43 0x0060 ++ shows 0x44 0x00D0)
    -- flags never block it, and stay
    ∷ from 0xFFFF (supply true ++ erase 0x40 ++ shows 0x40 0xA2 ++ unprotect 0x40 ++ load_one 0x40 0x1234 ++ shows 0x40 0x22 ++ works 1 1 ++ shows 0x40 0xA2)
    -- nothing but addresses and count is looked at before D0h; supply is looked at there, as it is then
    ∷ from 0xFFFF (unprotect 0x40 ++ begun 0x40 0 ++ write 0x40 0x1234 ++ shows 0x40 0x80 ++ supply true ++ write 0x40 0xD0 ++ shows 0x40 0x00)
    ∷ from 0xFFFF (prepared 0x40 ++ begun 0x40 0 ++ write 0x40 0x1234 ++ supply false ++ write 0x40 0xD0 ++ shows 0x40 0x98)
    -- work, reads and a write that is refused leave the load
    ∷ from 0xFFFF
    (prepared 0x40 ++ begun 0x40 1 ++ works 5 0 ++ write 0x40 1 ++ (Write 0x1000000 0x1234 ⟶ Refused refusal.Address) ∷ write 0x41 2 ++ shows 0x40 0x80 ++ write 0x40 0xD0 ++ works 5 2 ++ write 0x40 0xFF
    ++ shows 0x41 0x0002)
    -- reset drops it: what follows is read as commands
    ∷ from 0xFFFF (prepared 0x40 ++ begun 0x40 1 ++ write 0x40 0x1234 ++ reset ++ write 0x41 0x70 ++ shows 0x41 0x80 ++ write 0x40 0xD0 ++ works 9 0 ++ write 0x40 0xFF ++ shows 0x40 0xFFFF)
    -- E8h is not taken while something runs, nor while a program is suspended, and the next write is a first cycle; beside a suspended erase it is
    ∷ from 0xFFFF (prepared 0x40 ++ three_words ++ write 0x400 0xE8 ++ shows 0x400 0xFFFF ++ write 0x400 0x70 ++ shows 0x400 0x01)
    ∷ from 0xFFFF (prepared 0x40 ++ program 0x40 0x1234 ++ write 0x40 0xB0 ++ write 0x400 0xE8 ++ shows 0x400 0xFFFF ++ write 0x400 0x70 ++ shows 0x400 0x84)
    ∷ from 0xFFFF (prepared 0x40 ++ erase 0x40 ++ write 0x400 0xE8 ++ shows 0x400 0xFFFF ++ write 0x40 0xB0 ++ write 0x400 0xE8 ++ shows 0x400 0xC0)
    -- 40h, 60h and 20h are not taken while a buffer program is suspended, and 50h clears no SR2
    ∷ from 0xFFFF
    (prepared 0x40 ++ three_words ++ write 0x40 0xB0 ++ write 0x400 0x40 ++ shows 0x400 0xFFFF ++ write 0x400 0x60 ++ shows 0x400 0xFFFF ++ write 0x400 0x20 ++ shows 0x400 0xFFFF ++ write 0x40 0x50
    ++ shows 0x40 0x84)
    -- on the top part its bank is that of its words
    ∷ plays BenchTop (bench 0xFFFF) (prepared 0x0 ++ load_one 0x3F 0x1234 ++ shows 0x0 0x00 ++ shows 0x400 0xFFFF ++ works 9 1 ++ write 0x0 0xFF ++ shows 0x3F 0x1234)
    -- a load is well formed with a block of the part
    ∷ good (loading (setup.BufferCount 258) none (filled 0 0 32)) ∷ bad (loading (setup.BufferCount 259) none (filled 0 0 32))
    ∷ good (loading (setup.BufferFirst 258 1) none (filled 0 0 32)) ∷ bad (loading (setup.BufferFirst 259 1) none (filled 0 0 32))
    -- and a number of words that a count can name, whether they fit its block or not
    ∷ good (loading (setup.BufferFirst 0 32) none (filled 0 0 32)) ∷ bad (loading (setup.BufferFirst 0 33) none (filled 0 0 32)) ∷ bad (loading (setup.BufferFirst 0 0) none (filled 0 0 32))
    -- from the first word on they lie in one block of the part, and more of them than cycles are due
    ∷ good (loading (setup.BufferWords 0x7E 2 1) none (filled 2 1 30)) ∷ bad (loading (setup.BufferWords 0x7F 2 1) none (filled 2 1 30))
    ∷ good (loading (setup.BufferWords 0x3FFF 1 0) none (filled 1 1 31)) ∷ bad (loading (setup.BufferWords 0x4000 1 0) none (filled 1 1 31))
    ∷ good (loading (setup.BufferWords 0x40 32 31) none (filled 32 1 0)) ∷ bad (loading (setup.BufferWords 0x40 33 31) none (filled 32 1 0)) ∷ bad (loading (setup.BufferWords 0x40 2 2) none (filled 2 1 30))
    -- nothing runs beside it and no program is suspended; the suspended erase may be of its block
    ∷ bad (with_buffer (under_way BenchBottom (setup.BufferCount 4) (running.Program 0x40 1) suspended_program.Nothing none) (filled 0 0 32))
    ∷ bad (with_buffer (under_way BenchBottom (setup.BufferFirst 4 1) running.Idle (suspended_program.Program 0x40 1) none) (filled 0 0 32))
    ∷ bad (with_buffer (under_way BenchBottom (setup.BufferWords 0x40 1 0) (running.Erase 4 0) suspended_program.Nothing none) (filled 1 1 31))
    ∷ good (loading (setup.BufferWords 0x40 1 0) (Some (suspended_erase 4 0)) (filled 1 1 31)) ∷ good (loading (setup.BufferCount 4) (Some (suspended_erase 4 0)) (filled 0 0 32))
    -- a buffer program, running or suspended: its words lie in one block, and are more than it has done
    ∷ good (runs 0x7E 2 1 none (filled 2 1 30)) ∷ bad (runs 0x7F 2 1 none (filled 2 1 30)) ∷ bad (runs 0x7E 2 2 none (filled 2 1 30)) ∷ bad (runs 0x4000 1 0 none (filled 1 1 31))
    ∷ bad (runs 0x40 33 0 none (filled 32 1 0))
    ∷ good (waits 0x7E 2 1 none (filled 2 1 30)) ∷ bad (waits 0x7F 2 1 none (filled 2 1 30)) ∷ bad (waits 0x7E 2 2 none (filled 2 1 30)) ∷ bad (waits 0x4000 1 0 none (filled 1 1 31))
    ∷ bad (waits 0x40 33 0 none (filled 32 1 0))
    -- in another block than the suspended erase, and beside nothing else
    ∷ good (runs 0x80 1 0 (Some (suspended_erase 4 0)) (filled 1 1 31)) ∷ bad (runs 0x40 1 0 (Some (suspended_erase 4 0)) (filled 1 1 31))
    ∷ good (waits 0x80 1 0 (Some (suspended_erase 4 0)) (filled 1 1 31)) ∷ bad (waits 0x40 1 0 (Some (suspended_erase 4 0)) (filled 1 1 31))
    ∷ bad (with_buffer (under_way BenchBottom setup.Program (running.Buffer 0x40 1 0) suspended_program.Nothing none) (filled 1 1 31))
    ∷ bad (with_buffer (under_way BenchBottom setup.Nothing (running.Buffer 0x40 1 0) (suspended_program.Program 0x80 1) none) (filled 1 1 31))
    ∷ bad (with_buffer (under_way BenchBottom setup.Program running.Idle (suspended_program.Buffer 0x40 1 0) none) (filled 1 1 31))
    -- spare places are 0: all where no word is loaded, else those from the number of words on
    ∷ bad (loading setup.Nothing none (filled 1 1 31)) ∷ bad (loading setup.Program none (filled 1 1 31)) ∷ bad (loading (setup.BufferCount 4) none (filled 1 1 31)) ∷ bad (loading (setup.BufferFirst 4 2) none (filled 1 1 31))
    ∷ bad (loading (setup.BufferWords 0x40 2 0) none (filled 3 1 29)) ∷ bad (runs 0x40 2 0 none (filled 3 1 29)) ∷ bad (waits 0x40 2 0 none (filled 3 1 29)) ∷ bad (loading setup.Nothing none (replicate 31 0 ++ 1 ∷ []))
    ∷ good (loading (setup.BufferWords 0x40 2 0) none (filled 2 0 30))
    -- E8h with SR5 and SR4 set, which stay
    ∷ from 0xFFFF (prepared 0x40 ++ begun 0x40 0x20 ++ shows 0x40 0xB0 ++ load_one 0x40 0x1234 ++ shows 0x40 0x30 ++ works 1 1 ++ write 0x40 0xFF ++ shows 0x40 0x1234)
    -- the first word in a block below that of E8h
    ∷ from 0xFFFF (prepared 0x40 ++ unprotect 0x80 ++ begun 0x80 0 ++ write 0x40 0x1234 ++ shows 0x40 0xB0)
    -- at D0h supply and protection come before the suspended erase
    ∷ from 0xFFFF (prepared 0x40 ++ erase 0x40 ++ write 0x40 0xB0 ++ supply false ++ load_one 0x40 0x1234 ++ shows 0x40 0xD8)
    ∷ from 0xFFFF (prepared 0x40 ++ erase 0x40 ++ write 0x40 0xB0 ++ protect 0x40 ++ load_one 0x40 0x1234 ++ shows 0x40 0xD2)
    -- work, supply steps and refused steps leave the words of a load, and of a suspended buffer program
    ∷ from 0xFFFF
    (prepared 0x40 ++ begun 0x40 1 ++ write 0x40 1 ++ works 5 0 ++ (Write 0x1000000 0x1234 ⟶ Refused refusal.Address) ∷ supply false ++ supply true ++ write 0x41 2 ++ write 0x40 0xD0 ++ supply true ++ works 1 1
    ++ write 0x40 0xB0 ++ works 5 0 ++ supply false ++ supply true ++ write 0x40 0xD0 ++ works 5 1 ++ write 0x40 0xFF ++ shows 0x40 1 ++ shows 0x41 2)
    -- a wrong cycle's flags come beside those that were
    ∷ from 0xFFFF (supply true ++ program 0x40 0x1234 ++ begun 0x40 0x20 ++ shows 0x40 0xB2)
    ∷ from 0xFFFF (supply true ++ program 0x40 0x1234 ++ begun 0x40 0 ++ write 0x40 0 ++ write 0x40 0 ++ shows 0x40 0xB2)
    -- and it is spent: FFh is no command there, as the count, the first word or a later one
    ∷ from 0xFFFF (begun 0x40 0xFF ++ shows 0x40 0xB0)
    ∷ from 0xFFFF (begun 0x0 15 ++ write 0x1 0xFF ++ shows 0x0 0xB0)
    ∷ from 0xFFFF (begun 0x40 1 ++ write 0x40 1 ++ write 0x42 0xFF ++ shows 0x40 0xB0)
    -- each right cycle puts its bank in status mode: the count, the first word, a later one, D0h
    ∷ starts (loading (setup.BufferCount 4) none (filled 0 0 32)) (bench 0xFFFF) (write 0x40 0 ++ shows 0x40 0x80)
    ∷ starts (loading (setup.BufferFirst 4 2) none (filled 0 0 32)) (bench 0xFFFF) (write 0x40 1 ++ shows 0x40 0x80)
    ∷ starts (loading (setup.BufferWords 0x40 2 1) none (filled 2 1 30)) (bench 0xFFFF) (write 0x41 1 ++ shows 0x40 0x80)
    ∷ starts (loading (setup.BufferWords 0x40 1 0) none (filled 1 1 31)) (bench 0xFFFF) (write 0x40 0xD0 ++ shows 0x40 0x98)
    -- the location counts, and not the address: upper address lines are ignored in every cycle
    ∷ from 0xFFFF
    (prepared 0x40 ++ begun 0x8040 1 ++ write 0x4040 0x1111 ++ write 0xFFC041 0x2222 ++ write 0x4040 0xD0 ++ works 9 2 ++ write 0x40 0xFF ++ shows 0x40 0x1111 ++ shows 0x41 0x2222)
    -- the lowest location first on a top part too
    ∷ plays BenchTop (bench 0xFFFF)
    (prepared 0x0 ++ begun 0x0 1 ++ write 0x0 1 ++ write 0x1 2 ++ write 0x0 0xD0 ++ works 1 1 ++ write 0x0 0xB0 ++ write 0x0 0xFF ++ shows 0x0 1 ++ shows 0x1 0xFFFF)
    -- the bank of a buffer program at the end of its bank, and at the start of the next
    ∷ from 0xFFFF (prepared 0x3FF ++ load_one 0x3FF 0x1234 ++ shows 0x3FF 0x00)
    ∷ from 0xFFFF (prepared 0x400 ++ load_one 0x400 0x1234 ++ shows 0x400 0x00)
    -- a small block ends at its own size
    ∷ good (runs 0xE 2 0 none (filled 2 1 30)) ∷ bad (runs 0xF 2 0 none (filled 2 1 30))
    -- spare places are 0 beside everything else that may be pending, run or be suspended
    ∷ bad (loading setup.Erase none (filled 1 1 31)) ∷ bad (loading setup.Lock none (filled 1 1 31))
    ∷ bad (with_buffer (under_way BenchBottom setup.Nothing (running.Program 0x40 1) suspended_program.Nothing none) (filled 1 1 31))
    ∷ bad (with_buffer (under_way BenchBottom setup.Nothing (running.Erase 4 0) suspended_program.Nothing none) (filled 1 1 31))
    ∷ bad (with_buffer (under_way BenchBottom setup.Nothing running.Idle (suspended_program.Program 0x40 1) none) (filled 1 1 31))
    ∷ []
