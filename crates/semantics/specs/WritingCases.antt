-- Cases of the write step: which command is accepted when, what it changes and what it leaves, and which flags a second cycle sets. FurtherCases computes them.
-- Bench bottom: bank 0 from 0h, bank 1 from 400h, bank 2 from 800h; block 4 at 40h, block 5 at 80h.
-- Assumes nothing.
use Rattle.std.specs.Prelude.{ℕ, zero, suc, true, false, List, [], ◌∷◌, ◌++◌}
use Rattle.geometry.specs.declared.Part.TheVariants.{BenchBottom, BenchTop}
use Rattle.semantics.specs.Cases.{Exchange, Case, plays, reports, write, cycles, shows, works, supply, unprotect, protect, program, erase, prepared, bench}

-- writes to address a of the n codes from c on
abbrev codes : ℕ → ℕ → ℕ → List Exchange
codes a c zero = []
codes a c (suc n) = write a c ++ codes a (suc c) n

-- of every code that is no command
abbrev unknown : ℕ → List Exchange
unknown a =
    codes a 0x00 16 ++ codes a 0x11 15 ++ codes a 0x21 31 ++ codes a 0x41 15 ++ codes a 0x51 15 ++ codes a 0x61 15 ++ codes a 0x71 31 ++ codes a 0x91 7 ++ codes a 0x99 23
    ++ codes a 0xB1 31 ++ codes a 0xD1 23 ++ codes a 0xE9 22

-- all four flags: an erase refused for supply, then a program refused for protection
abbrev all_flags : List Exchange
all_flags = erase 0x40 ++ supply true ++ program 0x40 0x1234

-- the block of address 40h unprotected, and its erase suspended before its first unit
abbrev suspended_erase : List Exchange
suspended_erase = prepared 0x40 ++ erase 0x40 ++ write 0x40 0xB0

-- a program in block 5 suspended beside it
abbrev suspended_both : List Exchange
suspended_both = suspended_erase ++ unprotect 0x80 ++ program 0x80 0x1234 ++ write 0x80 0xB0

-- three blocks unprotected: 4, 5 and 258
abbrev three : List Exchange
three = prepared 0x3FFF ++ unprotect 0x80 ++ unprotect 0x40

-- 70h, 90h, 98h and FFh in bank 1: the status word is w there, and an array word FFFFh; the upper byte of the data is ignored
abbrev modes : ℕ → List Exchange
modes w =
    write 0x400 0xAB70 ++ shows 0x400 w ++ write 0x400 0xAB90 ++ shows 0x400 0x0020 ++ write 0x400 0xAB98 ++ shows 0x410 0x51 ++ write 0x400 0xABFF ++ shows 0x400 0xFFFF

-- a set-up that is ignored, in bank 1, which is in array mode: it stays so, and the next write is a first cycle
abbrev ignored : ℕ → ℕ → List Exchange
ignored c w = write 0x400 c ++ shows 0x400 0xFFFF ++ write 0x400 0x70 ++ shows 0x400 w ++ write 0x400 0xFF

abbrev pub writing_cases : List Case
writing_cases =
    -- the four modes, of the addressed bank alone, always: when nothing runs, while something runs, while a program or an erase is suspended
    plays BenchBottom (bench 0xFFFF) (write 0x0 0x70 ++ modes 0x80 ++ shows 0x0 0x80 ++ shows 0x800 0xFFFF)
    ∷ plays BenchBottom (bench 0xFFFF) (prepared 0x40 ++ program 0x40 0x1234 ++ modes 0x01 ++ shows 0x40 0x00)
    ∷ plays BenchBottom (bench 0xFFFF) (suspended_erase ++ modes 0xC0 ++ shows 0x40 0xC0 ++ unprotect 0x80 ++ program 0x80 0x1234 ++ write 0x80 0xB0 ++ modes 0xC4 ++ shows 0x40 0xC4)
    -- a set-up puts the bank of its own address in status mode, and no other
    ∷ plays BenchBottom (bench 0xFFFF) (write 0x400 0x10 ++ shows 0x400 0x80 ++ shows 0x0 0xFFFF)
    ∷ plays BenchBottom (bench 0xFFFF) (write 0x400 0x40 ++ shows 0x400 0x80 ++ shows 0x0 0xFFFF)
    ∷ plays BenchBottom (bench 0xFFFF) (write 0x400 0x60 ++ shows 0x400 0x80 ++ shows 0x0 0xFFFF)
    ∷ plays BenchBottom (bench 0xFFFF) (write 0x400 0x20 ++ shows 0x400 0x80 ++ shows 0x0 0xFFFF)
    -- and so does a second cycle, whatever comes of it: a program that is refused, one that runs, an erase with a wrong code, a lock command, right and wrong
    ∷ plays BenchBottom (bench 0xFFFF) (write 0x400 0x40 ++ write 0x800 0x1234 ++ shows 0x800 0x98 ++ shows 0x400 0x98 ++ shows 0x0 0xFFFF)
    ∷ plays BenchBottom (bench 0xFFFF)
    (prepared 0x800 ++ write 0x800 0xFF ++ write 0x400 0x40 ++ write 0x800 0x1234 ++ works 1 1 ++ shows 0x800 0x80 ++ shows 0x400 0x80 ++ shows 0x0 0xFFFF)
    ∷ plays BenchBottom (bench 0xFFFF) (write 0x400 0x20 ++ write 0x800 0x70 ++ shows 0x800 0xB0 ++ shows 0x400 0xB0 ++ shows 0x0 0xFFFF)
    ∷ plays BenchBottom (bench 0xFFFF) (write 0x400 0x60 ++ write 0x800 0x01 ++ shows 0x800 0x80 ++ shows 0x400 0x80 ++ shows 0x0 0xFFFF)
    ∷ plays BenchBottom (bench 0xFFFF) (write 0x400 0x60 ++ write 0x800 0xD0 ++ shows 0x800 0x80 ++ write 0x400 0x60 ++ write 0xC00 0x03 ++ shows 0xC00 0x80 ++ shows 0x0 0xFFFF)
    ∷ plays BenchBottom (bench 0xFFFF) (write 0x400 0x60 ++ write 0x800 0xFF ++ shows 0x800 0xB0 ++ shows 0x400 0xB0 ++ shows 0x0 0xFFFF)
    -- the second cycle's address alone names the word or the block: set-ups in block 4, which is protected, second cycles in block 5
    ∷ plays BenchBottom (bench 0x00FF)
    (supply true ++ write 0x40 0x60 ++ write 0x80 0xD0 ++ write 0x40 0x40 ++ write 0x81 0xFF0F ++ works 1 1 ++ write 0x80 0xFF ++ shows 0x81 0x000F ++ shows 0x41 0x00FF
    ++ write 0x40 0x20 ++ write 0x80 0xD0 ++ works 65535 64 ++ write 0x80 0xFF ++ shows 0x7F 0x00FF ++ shows 0x80 0xFFFF ++ shows 0xBF 0xFFFF ++ shows 0xC0 0x00FF)
    -- the upper byte of the data is ignored in every command, and is data of a program
    ∷ plays BenchBottom (bench 0xFFFF)
    (supply true ++ cycles 0x40 0x1260 0x34D0 ++ cycles 0x40 0x1220 0x34D0 ++ write 0x40 0x56B0 ++ shows 0x40 0xC0 ++ write 0x40 0x78D0 ++ works 65535 64
    ++ cycles 0x40 0x1210 0x34D0 ++ works 1 1 ++ cycles 0x40 0x1240 0xF0FF ++ works 1 1 ++ write 0x40 0xABFF ++ shows 0x40 0x30D0 ++ cycles 0x40 0x1260 0x3401
    ++ program 0x40 0x1234 ++ shows 0x40 0x92 ++ write 0x40 0x1250 ++ shows 0x40 0x80 ++ cycles 0x5678 0x1260 0x3403 ++ write 0x0 0xAB90 ++ shows 0x5 0x1648)
    -- with a set-up pending the next write is the second cycle, whatever its code: 50h and B0h are a program's data
    ∷ plays BenchBottom (bench 0xFFFF)
    (prepared 0x40 ++ program 0x40 0x50 ++ works 1 1 ++ write 0x40 0xFF ++ shows 0x40 0x0050 ++ program 0x41 0xB0 ++ shows 0x40 0x00)
    -- 10h is as 40h
    ∷ plays BenchBottom (bench 0xFFFF) (prepared 0x40 ++ cycles 0x40 0x10 0x1234 ++ shows 0x40 0x00 ++ works 1 1 ++ write 0x40 0xFF ++ shows 0x40 0x1234)
    -- 50h clears every flag and leaves the mode; flags stay until then, each beside later ones
    ∷ plays BenchBottom (bench 0xFFFF)
    (all_flags ++ shows 0x40 0xBA ++ write 0x40 0xFF ++ shows 0x40 0xFFFF ++ write 0x40 0x70 ++ shows 0x40 0xBA ++ write 0x40 0xFF ++ write 0x40 0x50 ++ shows 0x40 0xFFFF
    ++ write 0x40 0x70 ++ shows 0x40 0x80)
    ∷ plays BenchBottom (bench 0xFFFF) (supply true ++ program 0x40 0x1234 ++ shows 0x40 0x92 ++ supply false ++ erase 0x40 ++ shows 0x40 0xBA)
    -- flags never block: with all of them set a block is unprotected, programmed and erased. 50h is ignored while something runs, and clears them after
    ∷ plays BenchBottom (bench 0x00FF)
    (all_flags ++ unprotect 0x40 ++ program 0x40 0x0F0F ++ shows 0x40 0x3A ++ write 0x40 0x50 ++ shows 0x40 0x3A ++ works 1 1 ++ shows 0x40 0xBA ++ write 0x40 0xFF ++ shows 0x40 0x000F
    ++ erase 0x40 ++ shows 0x40 0x3A ++ works 65535 64 ++ write 0x40 0x50 ++ shows 0x40 0x80)
    -- 50h in a suspend clears the flags, and SR6 and SR2 stay
    ∷ plays BenchBottom (bench 0xFFFF) (suspended_erase ++ program 0x40 0x1234 ++ shows 0x40 0xD0 ++ write 0x40 0x50 ++ shows 0x40 0xC0)
    ∷ plays BenchBottom (bench 0xFFFF) (suspended_erase ++ program 0x40 0x1234 ++ unprotect 0x80 ++ program 0x80 0x1234 ++ write 0x80 0xB0 ++ shows 0x80 0xD4 ++ write 0x80 0x50 ++ shows 0x80 0xC4)
    -- every other code is ignored: it leaves the mode, which is array, and the flags, and is no set-up
    ∷ plays BenchBottom (bench 0xFFFF) (all_flags ++ write 0x40 0xFF ++ unknown 0x40 ++ shows 0x40 0xFFFF ++ write 0x40 0x70 ++ shows 0x40 0xBA)
    -- nor does it suspend what runs, or resume what is suspended
    ∷ plays BenchBottom (bench 0xFFFF) (prepared 0x40 ++ erase 0x40 ++ unknown 0x40 ++ shows 0x40 0x00 ++ write 0x40 0xB0 ++ unknown 0x40 ++ shows 0x40 0xC0)
    -- B0h where nothing runs is ignored, and D0h where nothing is suspended
    ∷ plays BenchBottom (bench 0xFFFF) (write 0x40 0xB0 ++ shows 0x40 0xFFFF ++ write 0x40 0xD0 ++ shows 0x40 0xFFFF ++ write 0x40 0x70 ++ shows 0x40 0x80)
    ∷ plays BenchBottom (bench 0xFFFF) (suspended_erase ++ write 0x40 0xB0 ++ shows 0x40 0xC0 ++ write 0x40 0xD0 ++ shows 0x40 0x00)
    ∷ plays BenchBottom (bench 0xFFFF) (suspended_both ++ write 0x40 0xB0 ++ shows 0x40 0xC4)
    -- D0h resumes the program before the erase, each as it was; while something runs it is ignored. Any address will do, and no mode changes
    ∷ plays BenchBottom (bench 0x0FF0)
    (prepared 0x40 ++ unprotect 0x80 ++ erase 0x40 ++ works 10 10 ++ write 0x800 0xB0 ++ shows 0x40 0xC0 ++ program 0x80 0x00F0 ++ write 0x800 0xD0 ++ shows 0x80 0x40 ++ write 0x800 0xB0
    ++ shows 0x80 0xC4 ++ write 0x800 0xD0 ++ shows 0x80 0x40 ++ shows 0x800 0x0FF0 ++ works 65535 1 ++ shows 0x80 0xC0 ++ write 0x800 0xD0 ++ shows 0x40 0x00 ++ write 0x800 0xD0
    ++ shows 0x40 0x00 ++ works 65535 54 ++ shows 0x40 0x80 ++ shows 0x800 0x0FF0 ++ write 0x40 0xFF ++ shows 0x40 0xFFFF ++ shows 0x7F 0xFFFF ++ shows 0x80 0x00F0 ++ shows 0x81 0x0FF0)
    -- every set-up is ignored while something runs, and while a program is suspended; beside a suspended erase that of an erase alone
    ∷ plays BenchBottom (bench 0xFFFF) (prepared 0x40 ++ program 0x40 0x1234 ++ ignored 0x10 0x01 ++ ignored 0x40 0x01 ++ ignored 0x60 0x01 ++ ignored 0x20 0x01 ++ shows 0x40 0x00)
    ∷ plays BenchBottom (bench 0xFFFF) (prepared 0x40 ++ erase 0x40 ++ ignored 0x10 0x01 ++ ignored 0x40 0x01 ++ ignored 0x60 0x01 ++ ignored 0x20 0x01 ++ shows 0x40 0x00)
    ∷ plays BenchBottom (bench 0xFFFF)
    (prepared 0x40 ++ program 0x40 0x1234 ++ write 0x40 0xB0 ++ ignored 0x10 0x84 ++ ignored 0x40 0x84 ++ ignored 0x60 0x84 ++ ignored 0x20 0x84 ++ write 0x40 0xD0
    ++ shows 0x40 0x00)
    ∷ plays BenchBottom (bench 0xFFFF)
    (suspended_erase ++ ignored 0x20 0xC0 ++ cycles 0x400 0x60 0xD0 ++ shows 0x400 0xC0 ++ cycles 0x400 0x10 0x1234 ++ shows 0x400 0x40 ++ works 1 1 ++ write 0x400 0xFF
    ++ shows 0x400 0x1234 ++ cycles 0x400 0x40 0x0234 ++ shows 0x400 0x40)
    -- a program is refused for supply before protection, and nothing runs
    ∷ plays BenchBottom (bench 0xFFFF) (program 0x40 0x1234 ++ shows 0x40 0x98)
    -- in the block of the suspended erase: for supply first, for protection next, and for the erase alone last
    ∷ plays BenchBottom (bench 0xFFFF) (suspended_erase ++ supply false ++ program 0x40 0x1234 ++ shows 0x40 0xD8)
    ∷ plays BenchBottom (bench 0xFFFF) (suspended_erase ++ protect 0x40 ++ program 0x40 0x1234 ++ shows 0x40 0xD2)
    ∷ plays BenchBottom (bench 0xFFFF) (suspended_erase ++ program 0x7F 0x1234 ++ shows 0x40 0xD0)
    -- an erase refused: for supply, before protection; for a wrong code, although it might run, and then nothing runs
    ∷ plays BenchBottom (bench 0xFFFF) (unprotect 0x40 ++ erase 0x40 ++ shows 0x40 0xA8)
    ∷ plays BenchBottom (bench 0xFFFF) (erase 0x40 ++ shows 0x40 0xA8)
    ∷ plays BenchBottom (bench 0xFFFF) (prepared 0x40 ++ cycles 0x40 0x20 0x20 ++ shows 0x40 0xB0 ++ write 0x40 0xFF ++ shows 0x40 0xFFFF)
    -- for a wrong code also where the block is protected and supply is on: the code comes before both
    ∷ plays BenchBottom (bench 0xFFFF) (supply true ++ cycles 0x40 0x20 0x20 ++ shows 0x40 0xB0)
    -- a wrong lock code sets SR5 and SR4 and changes neither protection nor configuration
    ∷ reports BenchBottom (bench 0xFFFF)
    (unprotect 0x40 ++ cycles 0x40 0x60 0x60 ++ shows 0x40 0xB0 ++ write 0x40 0x50 ++ cycles 0x80 0x60 0x02 ++ shows 0x80 0xB0 ++ write 0x80 0x90 ++ shows 0x5 0xBFCF) 1 4
    -- 03h sets the register to the address, whatever the part, and leaves protection and flags; 01h protects its block alone
    ∷ reports BenchTop (bench 0xFFFF)
    (unprotect 0x3F80 ++ cycles 0xABBF80 0x60 0x03 ++ shows 0x3F80 0x80 ++ write 0x3F80 0x90 ++ shows 0x3C05 0xBF80 ++ shows 0x3F82 0x0000 ++ protect 0x0 ++ shows 0x0 0x80) 1 4
    ∷ plays BenchBottom (bench 0xFFFF) (prepared 0x40 ++ unprotect 0x80 ++ protect 0x40 ++ program 0x40 0x1234 ++ shows 0x40 0x92 ++ program 0x80 0x1234 ++ shows 0x80 0x12)
    -- 01h does not look at supply either, and leaves the flags
    ∷ reports BenchBottom (bench 0xFFFF) (unprotect 0x40 ++ protect 0x40) 0 259
    ∷ plays BenchBottom (bench 0xFFFF) (all_flags ++ protect 0x40 ++ shows 0x40 0xBA)
    -- the report of unprotected blocks: none at power-up; three, with supply off too; two once block 4 is protected again; none after reset
    ∷ reports BenchBottom (bench 0xFFFF) [] 0 259
    ∷ reports BenchBottom (bench 0xFFFF) three 3 4
    ∷ reports BenchBottom (bench 0xFFFF) (unprotect 0x3FFF ++ unprotect 0x0) 2 0
    ∷ reports BenchBottom (bench 0xFFFF) (three ++ protect 0x40) 2 5
    ∷ []
