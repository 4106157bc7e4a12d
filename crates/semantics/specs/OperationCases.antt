-- Cases of work, supply and reset. FurtherCases computes them.
-- Bench bottom: block 0 has 16 words from 0h, block 4 has 64 from 40h, block 258 those from 3FC0h. Bench top: block 0 from 3FF0h, block 4 from 3F80h.
-- Assumes nothing.
use Rattle.std.specs.Prelude.{true, false, List, [], ◌∷◌, ◌++◌}
use Rattle.geometry.specs.declared.Part.TheVariants.{BenchBottom, BenchTop}
use Rattle.semantics.specs.declared.Step.TheVariants.{Read, Write}
use Rattle.semantics.specs.declared.Answer.TheVariants.{Word, Done}
use Rattle.semantics.specs.Cases.{◌⟶◌, Case, plays, reports, write, cycles, shows, works, supply, reset, unprotect, protect, program, erase, prepared, bench, in_banks}

-- what a step makes of the array, where it depends on the state: FurtherCases computes these through the whole steps too
abbrev pub array_cases : List Case
array_cases =
    -- what is suspended does not go on
    plays BenchBottom (bench 0x0FF0)
    (prepared 0x40 ++ unprotect 0x80 ++ erase 0x40 ++ works 1 1 ++ write 0x40 0xB0 ++ program 0x80 0x1234 ++ write 0x80 0xB0 ++ works 65535 0 ++ shows 0x40 0xC4 ++ write 0x40 0xFF
    ++ shows 0x40 0xFFFF ++ shows 0x41 0x0FF0 ++ shows 0x80 0x0FF0)
    -- protection is looked at only when an operation is accepted: a block that is protected during its suspended erase is still erased, and its neighbour is not. B0h and D0h leave the mode, which is array
    ∷ plays BenchBottom (bench 0x0000)
    (prepared 0x40 ++ erase 0x40 ++ works 10 10 ++ write 0x40 0xFF ++ write 0x40 0xB0 ++ shows 0x4A 0x0000 ++ protect 0x40 ++ write 0x40 0xFF ++ write 0x40 0xD0 ++ works 65535 54
    ++ shows 0x7F 0xFFFF ++ shows 0x80 0x0000)
    -- reset leaves the words as an erase and a program, both suspended, had reached them, and D0h resumes nothing
    ∷ plays BenchBottom (bench 0x0000)
    (prepared 0x40 ++ unprotect 0x80 ++ erase 0x40 ++ works 3 3 ++ write 0x40 0xB0 ++ program 0x80 0x1234 ++ write 0x80 0xB0 ++ shows 0x40 0xC4 ++ reset ++ shows 0x42 0xFFFF ++ shows 0x43 0x0000
    ++ write 0x40 0x70 ++ shows 0x40 0x80 ++ write 0x40 0xD0 ++ shows 0x40 0x80)
    ∷ []

abbrev pub operation_cases : List Case
operation_cases =
    array_cases
    -- work where nothing runs does nothing, and so does work on 0 units; a program ends at 1
    ++ plays BenchBottom (bench 0xFFFF)
    (works 65535 0 ++ prepared 0x40 ++ program 0x40 0x1234 ++ works 0 0 ++ shows 0x40 0x00 ++ works 65535 1 ++ shows 0x40 0x80 ++ write 0x40 0xFF ++ shows 0x3F 0xFFFF ++ shows 0x40 0x1234
    ++ shows 0x41 0xFFFF)
    -- an erase over several works ends at the size of its block, and not before
    ∷ plays BenchBottom (bench 0x0000)
    (prepared 0x40 ++ erase 0x40 ++ works 1 1 ++ works 62 62 ++ shows 0x40 0x00 ++ works 65535 1 ++ shows 0x40 0x80 ++ write 0x40 0xFF ++ shows 0x3F 0x0000 ++ shows 0x40 0xFFFF
    ++ shows 0x41 0xFFFF ++ shows 0x7F 0xFFFF ++ shows 0x80 0x0000)
    -- a small block and the last block
    ∷ plays BenchBottom (bench 0x0000)
    (prepared 0x0 ++ unprotect 0x3FFF ++ erase 0xF ++ works 65535 16 ++ write 0x0 0xFF ++ shows 0x0 0xFFFF ++ shows 0xF 0xFFFF ++ shows 0x10 0x0000 ++ erase 0x3FFF ++ works 65535 64
    ++ write 0x3FFF 0xFF ++ shows 0x3FBF 0x0000 ++ shows 0x3FC0 0xFFFF ++ shows 0x3FFF 0xFFFF)
    -- top part: an erase goes upward by location there too
    ∷ plays BenchTop (bench 0x0000)
    (prepared 0x3FBF ++ erase 0x3FBF ++ works 10 10 ++ write 0x3F80 0xB0 ++ write 0x3F80 0xFF ++ shows 0x3F7F 0x0000 ++ shows 0x3F80 0xFFFF ++ shows 0x3F89 0xFFFF ++ shows 0x3F8A 0x0000
    ++ write 0x3F80 0xD0 ++ works 65535 54 ++ shows 0x3FBF 0xFFFF ++ shows 0x3FC0 0x0000)
    ∷ plays BenchTop (bench 0x0000) (prepared 0x3FFF ++ erase 0x3FFF ++ works 65535 16 ++ write 0x3FFF 0xFF ++ shows 0x3FEF 0x0000 ++ shows 0x3FF0 0xFFFF ++ shows 0x3FFF 0xFFFF)
    ∷ plays BenchTop (bench 0xFFFF) (prepared 0x3F81 ++ program 0x3F81 0x1234 ++ works 1 1 ++ write 0x3F80 0xFF ++ shows 0x3F81 0x1234 ++ shows 0x7E 0xFFFF)
    -- the last supply step counts, between the cycles of a command too, and it ends no set-up
    ∷ plays BenchBottom (bench 0xFFFF)
    (prepared 0x40 ++ supply true ++ supply false ++ program 0x40 0x1234 ++ shows 0x40 0x98 ++ write 0x40 0x50 ++ write 0x40 0x40 ++ supply true ++ write 0x40 0x1234 ++ shows 0x40 0x00
    ++ works 1 1 ++ write 0x40 0x20 ++ supply false ++ write 0x40 0xD0 ++ shows 0x40 0xA8)
    -- reset keeps the supply, on or off
    ∷ plays BenchBottom (bench 0xFFFF) (supply true ++ reset ++ unprotect 0x40 ++ program 0x40 0x1234 ++ shows 0x40 0x00)
    ∷ plays BenchBottom (bench 0xFFFF) (supply true ++ supply false ++ reset ++ unprotect 0x40 ++ program 0x40 0x1234 ++ shows 0x40 0x98)
    -- it puts every bank in array mode
    ∷ plays BenchBottom (bench 0x1111)
    (in_banks 0 16 (λ a. Write a 0x70 ⟶ Done) ++ write 0x400 0x90 ++ write 0x800 0x98 ++ reset ++ in_banks 0 16 (λ a. Read a ⟶ Word 0x1111) ++ shows 0x410 0x1111 ++ shows 0x810 0x1111)
    -- it ends a set-up, clears the flags, sets the configuration register to BFCFh and protects every block
    ∷ plays BenchBottom (bench 0xFFFF) (prepared 0x40 ++ write 0x40 0x40 ++ reset ++ write 0x40 0x70 ++ shows 0x40 0x80)
    ∷ plays BenchBottom (bench 0xFFFF) (erase 0x40 ++ supply true ++ program 0x40 0x1234 ++ shows 0x40 0xBA ++ reset ++ write 0x40 0x70 ++ shows 0x40 0x80)
    ∷ plays BenchBottom (bench 0xFFFF) (cycles 0x1234 0x60 0x03 ++ reset ++ write 0x0 0x90 ++ shows 0x5 0xBFCF)
    ∷ plays BenchBottom (bench 0xFFFF) (prepared 0x40 ++ reset ++ program 0x40 0x1234 ++ shows 0x40 0x92)
    ∷ reports BenchBottom (bench 0xFFFF) (prepared 0x3FFF ++ unprotect 0x80 ++ unprotect 0x40 ++ reset) 0 259
    -- it breaks off what runs and what is suspended: D0h resumes nothing, and the words stay as they were reached
    ∷ plays BenchBottom (bench 0x0FF0) (prepared 0x40 ++ program 0x40 0x1234 ++ works 0 0 ++ reset ++ shows 0x40 0x0FF0 ++ works 1 0 ++ write 0x40 0x70 ++ shows 0x40 0x80 ++ write 0x40 0xFF ++ shows 0x40 0x0FF0)
    ∷ []
