-- Journals that the recorder draws up from steps alone: document 01, "The journal", and document 02, item 5. The checker computes each from the recorder's rules, with no device in it.
-- Assumes nothing.
use Rattle.std.specs.Prelude.{ℕ, true, false, List, [], ◌∷◌, ◌++◌, map, ◌≡◌, refl}
use Rattle.geometry.specs.declared.Part.{Part}
use Rattle.geometry.specs.declared.Part.TheVariants.{FullBottom, FullTop, BenchBottom, BenchTop}
use Rattle.geometry.specs.Blocks.{geometry_of, mirror, block_from, block_of, size_of, start_from, start_of}
use Rattle.semantics.specs.declared.Step.{Step}
use Rattle.semantics.specs.declared.Step.TheVariants.{Write, Work, Supply, Reset}
use Rattle.semantics.specs.Entries.{Entry, entry, running, suspended, finished, was_broken_off}
use Rattle.semantics.specs.Recorder.{Operation, program, erase, buffer, journal_of}

infix 20 ◌⟶◌
-- steps from power-up of the bench bottom part, and the journal of them, the latest entry first
pub data Case : Type 0 where
  ◌⟶◌ : List Step → List (Entry Operation) → Case

abbrev pub drawn : Case → List (Entry Operation)
drawn (l ⟶ j) = journal_of (geometry_of BenchBottom) l

abbrev pub expected : Case → List (Entry Operation)
expected (l ⟶ j) = j

-- ---- steps: supply on, and blocks 4 (40h to 7Fh) and 5 (80h to BFh) unprotected; an erase of block 4; a program, and a buffer program of two words, in block 5; what D0h, B0h and supply off are

abbrev pub cycles : ℕ → ℕ → ℕ → List Step
cycles a c w = Write a c ∷ Write a w ∷ []

abbrev pub ready : List Step
ready = Supply true ∷ cycles 0x40 0x60 0xD0 ++ cycles 0x80 0x60 0xD0

abbrev pub erases : List Step
erases = cycles 0x40 0x20 0xD0

abbrev pub programs : List Step
programs = cycles 0x80 0x40 0x1234

abbrev loads : List Step
loads = cycles 0x80 0xE8 1 ++ Write 0x80 0xAAAA ∷ Write 0x81 0xBBBB ∷ []

abbrev two : List Step
two = loads ++ Write 0x80 0xD0 ∷ []

abbrev words : List ℕ
words = 0xAAAA ∷ 0xBBBB ∷ []

abbrev pub pause : List Step
pause = Write 0x0 0xB0 ∷ []

abbrev resume : List Step
resume = Write 0x0 0xD0 ∷ []

abbrev on : List Step
on = Supply true ∷ []

abbrev off : List Step
off = Supply false ∷ []

abbrev pub work : ℕ → List Step
work n = Work n ∷ []

abbrev pub journals : List Case
journals =
    -- "the running entry .. gets the lesser of n and the units it lacks"; "Lacking none, it is finished"
    (ready ++ erases ++ work 10 ⟶ entry (erase 4) 10 running ∷ [])
    ∷ (ready ++ erases ++ work 10 ++ work 65535 ⟶ entry (erase 4) 64 finished ∷ [])
    ∷ (ready ++ programs ++ work 5 ++ two ++ work 5 ⟶ entry (buffer 0x80 words) 2 finished ∷ entry (program 0x80 0x1234) 1 finished ∷ [])
    -- units of several steps add up; a small block has 16 words
    ∷ (ready ++ erases ++ work 10 ++ work 5 ⟶ entry (erase 4) 15 running ∷ [])
    ∷ (ready ++ cycles 0x0 0x60 0xD0 ++ cycles 0x0 0x20 0xD0 ++ work 65535 ⟶ entry (erase 0) 16 finished ∷ [])
    -- "When supply goes off, a running operation ends then and there .. Demand 3 counts such an entry as unfinished": for good, and the units that it had stay
    ∷ (ready ++ erases ++ work 10 ++ off ⟶ entry (erase 4) 10 was_broken_off ∷ [])
    ∷ (ready ++ erases ++ work 10 ++ off ++ on ++ resume ++ work 65535 ⟶ entry (erase 4) 10 was_broken_off ∷ [])
    ∷ (ready ++ programs ++ off ++ on ++ resume ++ work 5 ⟶ entry (program 0x80 0x1234) 0 was_broken_off ∷ [])
    ∷ (ready ++ two ++ work 1 ++ off ++ on ++ resume ++ work 5 ⟶ entry (buffer 0x80 words) 1 was_broken_off ∷ [])
    -- a new one is a new entry
    ∷ (ready ++ programs ++ off ++ on ++ programs ++ work 1 ⟶ entry (program 0x80 0x1234) 1 finished ∷ entry (program 0x80 0x1234) 0 was_broken_off ∷ [])
    -- a finished one stays finished; supply off a second time, and supply on, break off nothing
    ∷ (ready ++ programs ++ work 1 ++ off ++ off ⟶ entry (program 0x80 0x1234) 1 finished ∷ [])
    ∷ (ready ++ erases ++ work 10 ++ on ⟶ entry (erase 4) 10 running ∷ [])
    ∷ (ready ++ erases ++ work 10 ++ pause ++ on ⟶ entry (erase 4) 10 suspended ∷ [])
    -- "Suspended ones stay", and go on where they are resumed with supply on
    ∷ (ready ++ erases ++ work 10 ++ pause ++ off ⟶ entry (erase 4) 10 suspended ∷ [])
    ∷ (ready ++ erases ++ work 10 ++ pause ++ off ++ on ++ resume ++ work 65535 ⟶ entry (erase 4) 64 finished ∷ [])
    ∷ (ready ++ programs ++ pause ++ off ++ on ++ resume ⟶ entry (program 0x80 0x1234) 0 running ∷ [])
    ∷ (ready ++ two ++ work 1 ++ pause ++ off ⟶ entry (buffer 0x80 words) 1 suspended ∷ [])
    -- "resumed without supply, they end": each alone, and the program before the erase
    ∷ (ready ++ erases ++ work 10 ++ pause ++ off ++ resume ⟶ entry (erase 4) 10 was_broken_off ∷ [])
    ∷ (ready ++ programs ++ pause ++ off ++ resume ++ on ++ resume ++ work 5 ⟶ entry (program 0x80 0x1234) 0 was_broken_off ∷ [])
    ∷ (ready ++ two ++ work 1 ++ pause ++ off ++ resume ++ on ++ resume ++ work 5 ⟶ entry (buffer 0x80 words) 1 was_broken_off ∷ [])
    ∷ (ready ++ erases ++ work 10 ++ pause ++ programs ++ pause ++ off ++ resume ⟶ entry (program 0x80 0x1234) 0 was_broken_off ∷ entry (erase 4) 10 suspended ∷ [])
    ∷ (ready ++ erases ++ work 10 ++ pause ++ programs ++ pause ++ off ++ resume ++ resume ⟶ entry (program 0x80 0x1234) 0 was_broken_off ∷ entry (erase 4) 10 was_broken_off ∷ [])
    ∷ (ready ++ erases ++ work 10 ++ pause ++ two ++ pause ++ off ++ resume ++ on ++ resume ++ work 65535 ⟶ entry (buffer 0x80 words) 0 was_broken_off ∷ entry (erase 4) 64 finished ∷ [])
    -- a program that runs beside a suspended erase is broken off alone
    ∷ (ready ++ erases ++ work 10 ++ pause ++ programs ++ off ⟶ entry (program 0x80 0x1234) 0 was_broken_off ∷ entry (erase 4) 10 suspended ∷ [])
    -- what D0h confirms or unprotects is no resume
    ∷ (ready ++ erases ++ work 10 ++ pause ++ off ++ cycles 0xC0 0x60 0xD0 ⟶ entry (erase 4) 10 suspended ∷ [])
    -- a set-up stays, and meets the supply at its second cycle, and so does a load
    ∷ (ready ++ Write 0x80 0x40 ∷ off ++ Write 0x80 0x1234 ∷ [] ⟶ [])
    ∷ (ready ++ Write 0x80 0x40 ∷ off ++ on ++ Write 0x80 0x1234 ∷ [] ⟶ entry (program 0x80 0x1234) 0 running ∷ [])
    ∷ (ready ++ Write 0x40 0x20 ∷ off ++ on ++ Write 0x40 0xD0 ∷ [] ⟶ entry (erase 4) 0 running ∷ [])
    ∷ (ready ++ loads ++ off ++ Write 0x80 0xD0 ∷ [] ⟶ [])
    ∷ (ready ++ loads ++ off ++ on ++ Write 0x80 0xD0 ∷ [] ⟶ entry (buffer 0x80 words) 0 running ∷ [])
    -- also with no unit done, with the last one left, and in a small block; a whole buffer, and one word
    ∷ (ready ++ erases ++ off ⟶ entry (erase 4) 0 was_broken_off ∷ [])
    ∷ (ready ++ erases ++ work 1 ++ off ⟶ entry (erase 4) 1 was_broken_off ∷ [])
    ∷ (ready ++ erases ++ work 63 ++ off ⟶ entry (erase 4) 63 was_broken_off ∷ [])
    ∷ (ready ++ cycles 0x0 0x60 0xD0 ++ cycles 0x0 0x20 0xD0 ++ work 3 ++ off ⟶ entry (erase 0) 3 was_broken_off ∷ [])
    ∷ (ready ++ cycles 0x3FC0 0x60 0xD0 ++ cycles 0x3FC0 0x20 0xD0 ++ work 3 ++ off ⟶ entry (erase 258) 3 was_broken_off ∷ [])
    ∷ (ready ++ two ++ off ⟶ entry (buffer 0x80 words) 0 was_broken_off ∷ [])
    ∷ (ready ++ cycles 0x80 0xE8 0 ++ Write 0x80 0xAAAA ∷ Write 0x80 0xD0 ∷ off ⟶ entry (buffer 0x80 (0xAAAA ∷ [])) 0 was_broken_off ∷ [])
    ∷ (ready ++ cycles 0x80 0xE8 2 ++ Write 0x80 0xAAAA ∷ Write 0x81 0xBBBB ∷ Write 0x82 0 ∷ Write 0x80 0xD0 ∷ work 2 ++ off ⟶ entry (buffer 0x80 (0xAAAA ∷ 0xBBBB ∷ 0 ∷ [])) 2 was_broken_off ∷ [])
    ∷ (ready ++ cycles 0x81 0x40 0 ++ off ⟶ entry (program 0x81 0) 0 was_broken_off ∷ [])
    ∷ (ready ++ cycles 0x81 0x40 0xFFFF ++ off ⟶ entry (program 0x81 0xFFFF) 0 was_broken_off ∷ [])
    -- a suspended one that has had no unit stays too; a buffer program beside a suspended erase ends alone
    ∷ (ready ++ erases ++ pause ++ off ⟶ entry (erase 4) 0 suspended ∷ [])
    ∷ (ready ++ erases ++ pause ++ two ++ work 1 ++ off ⟶ entry (buffer 0x80 words) 1 was_broken_off ∷ entry (erase 4) 0 suspended ∷ [])
    -- supply on leaves each kind, running and suspended, alone and beside a suspended erase; and both suspended stay at supply off and on
    ∷ (ready ++ programs ++ on ⟶ entry (program 0x80 0x1234) 0 running ∷ [])
    ∷ (ready ++ programs ++ pause ++ on ⟶ entry (program 0x80 0x1234) 0 suspended ∷ [])
    ∷ (ready ++ two ++ work 1 ++ on ⟶ entry (buffer 0x80 words) 1 running ∷ [])
    ∷ (ready ++ two ++ work 1 ++ pause ++ off ++ on ⟶ entry (buffer 0x80 words) 1 suspended ∷ [])
    ∷ (ready ++ erases ++ work 3 ++ pause ++ programs ++ on ⟶ entry (program 0x80 0x1234) 0 running ∷ entry (erase 4) 3 suspended ∷ [])
    ∷ (ready ++ erases ++ work 3 ++ pause ++ programs ++ pause ++ off ++ off ++ on ⟶ entry (program 0x80 0x1234) 0 suspended ∷ entry (erase 4) 3 suspended ∷ [])
    ∷ (ready ++ erases ++ work 3 ++ pause ++ two ++ work 1 ++ pause ++ off ++ on ⟶ entry (buffer 0x80 words) 1 suspended ∷ entry (erase 4) 3 suspended ∷ [])
    -- what was broken off or finished stays so, through later drops, resumes and operations
    ∷ (ready ++ erases ++ work 3 ++ off ++ off ++ on ++ resume ++ work 5 ++ programs ++ off ++ on ++ two ++ work 2 ++ off
    ⟶ entry (buffer 0x80 words) 2 finished ∷ entry (program 0x80 0x1234) 0 was_broken_off ∷ entry (erase 4) 3 was_broken_off ∷ [])
    ∷ (ready ++ programs ++ work 1 ++ programs ++ work 1 ++ erases ++ work 3 ++ off ⟶ entry (erase 4) 3 was_broken_off ∷ entry (program 0x80 0x1234) 1 finished ∷ entry (program 0x80 0x1234) 1 finished ∷ [])
    ∷ (ready ++ erases ++ work 64 ++ programs ++ work 1 ++ programs ++ pause ++ off ++ resume ++ on ++ erases ++ pause ++ off ++ resume
    ⟶ entry (erase 4) 0 was_broken_off ∷ entry (program 0x80 0x1234) 0 was_broken_off ∷ entry (program 0x80 0x1234) 1 finished ∷ entry (erase 4) 64 finished ∷ [])
    -- resumed without supply at any address and with any upper byte; a block that was protected meanwhile counts for nothing; the supply is off still, and the blocks are as they were
    ∷ (ready ++ programs ++ pause ++ off ++ Write 0x480 0x12D0 ∷ programs ++ on ++ cycles 0xC0 0x40 0 ++ programs ⟶ entry (program 0x80 0x1234) 0 running ∷ entry (program 0x80 0x1234) 0 was_broken_off ∷ [])
    ∷ (ready ++ erases ++ pause ++ cycles 0x40 0x60 0x01 ++ off ++ Write 0x480 0xFFD0 ∷ cycles 0x81 0x40 0 ++ on ++ erases ++ cycles 0xC0 0x40 0 ++ programs
    ⟶ entry (program 0x80 0x1234) 0 running ∷ entry (erase 4) 0 was_broken_off ∷ [])
    ∷ (ready ++ two ++ pause ++ off ++ Write 0x40 0xD0 ∷ two ++ on ++ erases ⟶ entry (erase 4) 0 running ∷ entry (buffer 0x80 words) 0 was_broken_off ∷ [])
    -- a resume with supply sets each kind running, and a resume changes nothing else: the supply is on still, no set-up is pending, and the blocks are as they were
    ∷ (ready ++ programs ++ pause ++ resume ++ work 1 ++ programs ++ work 1 ++ cycles 0xC0 0x40 0 ⟶ entry (program 0x80 0x1234) 1 finished ∷ entry (program 0x80 0x1234) 1 finished ∷ [])
    ∷ (ready ++ erases ++ pause ++ resume ++ work 64 ++ programs ++ work 1 ++ cycles 0xC0 0x40 0 ⟶ entry (program 0x80 0x1234) 1 finished ∷ entry (erase 4) 64 finished ∷ [])
    ∷ (ready ++ erases ++ pause ++ off ++ resume ++ on ++ programs ⟶ entry (program 0x80 0x1234) 0 running ∷ entry (erase 4) 0 was_broken_off ∷ [])
    ∷ (ready ++ erases ++ pause ++ programs ++ pause ++ resume ⟶ entry (program 0x80 0x1234) 0 running ∷ entry (erase 4) 0 suspended ∷ [])
    ∷ (ready ++ erases ++ pause ++ two ++ pause ++ resume ⟶ entry (buffer 0x80 words) 0 running ∷ entry (erase 4) 0 suspended ∷ [])
    ∷ (ready ++ two ++ pause ++ resume ⟶ entry (buffer 0x80 words) 0 running ∷ [])
    ∷ (ready ++ programs ++ pause ++ Write 0x480 0xD0 ∷ [] ⟶ entry (program 0x80 0x1234) 0 running ∷ [])
    ∷ (ready ++ erases ++ pause ++ Write 0x480 0xD0 ∷ [] ⟶ entry (erase 4) 0 running ∷ [])
    -- after a drop the supply is off, and the blocks are as they were
    ∷ (ready ++ programs ++ off ++ programs ++ on ++ erases ++ off ++ programs ++ on ++ cycles 0xC0 0x40 0 ⟶ entry (erase 4) 0 was_broken_off ∷ entry (program 0x80 0x1234) 0 was_broken_off ∷ [])
    ∷ (ready ++ two ++ off ++ two ++ on ++ two ⟶ entry (buffer 0x80 words) 0 running ∷ entry (buffer 0x80 words) 0 was_broken_off ∷ [])
    -- it is noted whatever is suspended or pending: an erase, and a lock set-up, which does not look at it; each stage of a load
    ∷ (ready ++ erases ++ pause ++ off ++ programs ++ on ++ programs ⟶ entry (program 0x80 0x1234) 0 running ∷ entry (erase 4) 0 suspended ∷ [])
    ∷ (ready ++ Write 0x40 0x20 ∷ off ++ Write 0x40 0xD0 ∷ programs ⟶ [])
    ∷ (ready ++ Write 0xC0 0x60 ∷ off ++ Write 0xC0 0xD0 ∷ programs ++ on ++ cycles 0xC0 0x40 0 ⟶ entry (program 0xC0 0) 0 running ∷ [])
    ∷ (cycles 0x80 0x60 0xD0 ++ Write 0xC0 0x60 ∷ on ++ Write 0xC0 0xD0 ∷ cycles 0xC0 0x40 0 ⟶ entry (program 0xC0 0) 0 running ∷ [])
    ∷ (ready ++ Write 0x80 0xE8 ∷ off ++ Write 0x80 1 ∷ Write 0x80 0xAAAA ∷ Write 0x81 0xBBBB ∷ Write 0x80 0xD0 ∷ [] ⟶ [])
    ∷ (ready ++ Write 0x80 0xE8 ∷ off ++ on ++ Write 0x80 1 ∷ Write 0x80 0xAAAA ∷ Write 0x81 0xBBBB ∷ Write 0x80 0xD0 ∷ [] ⟶ entry (buffer 0x80 words) 0 running ∷ [])
    ∷ (ready ++ cycles 0x80 0xE8 1 ++ off ++ Write 0x80 0xAAAA ∷ Write 0x81 0xBBBB ∷ Write 0x80 0xD0 ∷ [] ⟶ [])
    ∷ (ready ++ cycles 0x80 0xE8 1 ++ off ++ on ++ Write 0x80 0xAAAA ∷ Write 0x81 0xBBBB ∷ Write 0x80 0xD0 ∷ [] ⟶ entry (buffer 0x80 words) 0 running ∷ [])
    ∷ (ready ++ cycles 0x80 0xE8 1 ++ Write 0x80 0xAAAA ∷ off ++ Write 0x81 0xBBBB ∷ Write 0x80 0xD0 ∷ [] ⟶ [])
    ∷ (ready ++ cycles 0x80 0xE8 1 ++ Write 0x80 0xAAAA ∷ off ++ on ++ Write 0x81 0xBBBB ∷ Write 0x80 0xD0 ∷ [] ⟶ entry (buffer 0x80 words) 0 running ∷ [])
    -- without supply no other first cycle ends what is suspended
    ∷ (ready ++ erases ++ pause ++ off ++ pause ++ Write 0x40 0x20 ∷ Write 0x40 0x50 ∷ Write 0x40 0xFF ∷ Write 0x40 0x70 ∷ programs ++ cycles 0xC0 0x60 0x01 ++ loads ++ Write 0x80 0xD0 ∷ [] ⟶ entry (erase 4) 0 suspended ∷ [])
    ∷ (ready ++ programs ++ pause ++ off ++ pause ++ Write 0x40 0x20 ∷ Write 0x40 0x50 ∷ Write 0x40 0xFF ∷ Write 0x40 0x40 ∷ Write 0x40 0x60 ∷ Write 0x40 0xE8 ∷ Write 0x40 0x70 ∷ [] ⟶ entry (program 0x80 0x1234) 0 suspended ∷ [])
    -- reset breaks off all that is under way, whatever the supply
    ∷ (ready ++ erases ++ work 10 ++ pause ++ programs ++ Reset ∷ [] ⟶ entry (program 0x80 0x1234) 0 was_broken_off ∷ entry (erase 4) 10 was_broken_off ∷ [])
    ∷ (ready ++ erases ++ work 10 ++ pause ++ off ++ Reset ∷ on ++ resume ⟶ entry (erase 4) 10 was_broken_off ∷ [])
    -- it keeps the supply, on or off; every block is protected after it, and the set-up ends
    ∷ (ready ++ Reset ∷ cycles 0x80 0x60 0xD0 ++ programs ⟶ entry (program 0x80 0x1234) 0 running ∷ [])
    ∷ (ready ++ off ++ Reset ∷ cycles 0x80 0x60 0xD0 ++ programs ⟶ [])
    ∷ (ready ++ Reset ∷ programs ⟶ [])
    ∷ (ready ++ Write 0x80 0x40 ∷ Reset ∷ cycles 0x80 0x60 0xD0 ++ programs ⟶ entry (program 0x80 0x1234) 0 running ∷ [])
    ∷ (ready ++ programs ++ pause ++ Reset ∷ resume ++ work 5 ⟶ entry (program 0x80 0x1234) 0 was_broken_off ∷ [])
    -- D0h goes by no block: an erase of block 5, and of block 0; one whose block was protected meanwhile; and from any address
    ∷ (ready ++ cycles 0x80 0x20 0xD0 ++ work 10 ++ pause ++ resume ⟶ entry (erase 5) 10 running ∷ [])
    ∷ (ready ++ cycles 0x80 0x20 0xD0 ++ work 10 ++ pause ++ off ++ resume ⟶ entry (erase 5) 10 was_broken_off ∷ [])
    ∷ (ready ++ cycles 0x0 0x60 0xD0 ++ cycles 0x0 0x20 0xD0 ++ work 10 ++ pause ++ resume ⟶ entry (erase 0) 10 running ∷ [])
    ∷ (ready ++ erases ++ work 10 ++ pause ++ cycles 0x40 0x60 0x01 ++ resume ⟶ entry (erase 4) 10 running ∷ [])
    ∷ (ready ++ programs ++ pause ++ Write 0x80 0xD0 ∷ [] ⟶ entry (program 0x80 0x1234) 0 running ∷ [])
    -- and it leaves the other blocks' protection
    ∷ (ready ++ cycles 0x80 0x20 0xD0 ++ pause ++ off ++ resume ++ on ++ cycles 0x40 0x40 0x1234 ⟶ entry (program 0x40 0x1234) 0 running ∷ entry (erase 5) 0 was_broken_off ∷ [])
    ∷ (ready ++ cycles 0x0 0x60 0xD0 ++ cycles 0x0 0x20 0xD0 ++ pause ++ off ++ resume ++ on ++ programs ⟶ entry (program 0x80 0x1234) 0 running ∷ entry (erase 0) 0 was_broken_off ∷ [])
    -- with nothing under way it is nothing, with supply or without
    ∷ (ready ++ resume ++ programs ⟶ entry (program 0x80 0x1234) 0 running ∷ [])
    ∷ (ready ++ off ++ resume ++ on ++ programs ⟶ entry (program 0x80 0x1234) 0 running ∷ [])
    -- and revives nothing that was broken off
    ∷ (ready ++ programs ++ off ++ on ++ programs ++ pause ++ resume ⟶ entry (program 0x80 0x1234) 0 running ∷ entry (program 0x80 0x1234) 0 was_broken_off ∷ [])
    ∷ (ready ++ erases ++ off ++ on ++ erases ++ pause ++ resume ⟶ entry (erase 4) 0 running ∷ entry (erase 4) 0 was_broken_off ∷ [])
    -- nor does a reset, or D0h without supply, make anything of it
    ∷ (ready ++ erases ++ work 10 ++ off ++ Reset ∷ [] ⟶ entry (erase 4) 10 was_broken_off ∷ [])
    ∷ (ready ++ programs ++ off ++ on ++ programs ++ pause ++ off ++ resume ⟶ entry (program 0x80 0x1234) 0 was_broken_off ∷ entry (program 0x80 0x1234) 0 was_broken_off ∷ [])
    -- a set-up is taken without supply
    ∷ (ready ++ off ++ Write 0x80 0x40 ∷ on ++ Write 0x80 0x1234 ∷ [] ⟶ entry (program 0x80 0x1234) 0 running ∷ [])
    ∷ (ready ++ off ++ Write 0x40 0x20 ∷ on ++ Write 0x40 0xD0 ∷ [] ⟶ entry (erase 4) 0 running ∷ [])
    -- a program in the block of the suspended erase is no entry, and neither is a buffer program; nor is that one in a
    -- protected block
    ∷ (ready ++ erases ++ pause ++ cycles 0x50 0x40 0x1234 ⟶ entry (erase 4) 0 suspended ∷ [])
    ∷ (ready ++ erases ++ pause ++ cycles 0x50 0xE8 0 ++ cycles 0x50 0x1234 0xD0 ⟶ entry (erase 4) 0 suspended ∷ [])
    ∷ (ready ++ cycles 0xC0 0xE8 0 ++ cycles 0xC0 0x1234 0xD0 ⟶ [])
    -- "He begins with supply off"; a protection command is for its own block, and for none below or above
    ∷ (cycles 0x80 0x60 0xD0 ++ programs ⟶ [])
    ∷ (on ++ cycles 0x80 0x60 0xD0 ++ erases ⟶ [])
    ∷ (ready ++ cycles 0x80 0x60 0x01 ++ erases ⟶ entry (erase 4) 0 running ∷ [])
    ∷ (ready ++ cycles 0x40 0x60 0x01 ++ programs ⟶ entry (program 0x80 0x1234) 0 running ∷ [])
    -- and it does not look at supply
    ∷ (ready ++ off ++ cycles 0x80 0x60 0x01 ++ on ++ programs ⟶ [])
    -- D0h while something runs resumes nothing; what runs need not be the latest entry
    ∷ (ready ++ erases ++ pause ++ programs ++ resume
    ⟶ entry (program 0x80 0x1234) 0 running ∷ entry (erase 4) 0 suspended ∷ [])
    ∷ (ready ++ erases ++ pause ++ programs ++ work 1 ++ resume ++ programs
    ⟶ entry (program 0x80 0x1234) 1 finished ∷ entry (erase 4) 0 running ∷ [])
    -- 40h beside a suspended program, and 20h beside a suspended erase, are no set-up without supply either
    ∷ (ready ++ programs ++ pause ++ off ++ Write 0x80 0x40 ∷ on ++ Write 0x80 0x5678 ∷ [] ⟶ entry (program 0x80 0x1234) 0 suspended ∷ [])
    ∷ (ready ++ erases ++ work 10 ++ pause ++ off ++ Write 0x80 0x20 ∷ on ++ resume ⟶ entry (erase 4) 10 running ∷ [])
    ∷ []

-- on the other parts alike: blocks at 0 and at 1000000h less one, an erase and a program there, whatever blocks these are
abbrev on_part : Part → List Step → List (Entry Operation)
on_part p l = journal_of (geometry_of p) (Supply true ∷ cycles 0x0 0x60 0xD0 ++ cycles 0xFFFFFF 0x60 0xD0 ++ cycles 0x0 0x20 0xD0 ++ work 10 ++ l)

abbrev pub lasts : Part → List (List (Entry Operation))
lasts p =
    on_part p off ∷ on_part p (pause ++ off) ∷ on_part p (pause ++ off ++ resume) ∷ on_part p (pause ++ cycles 0xFFFFFF 0x40 0x1234 ++ off) ∷ on_part p (pause ++ cycles 0xFFFFFF 0x40 0x1234 ++ pause ++ off ++ resume)
    ∷ on_part p (pause ++ cycles 0xFFFFFF 0x40 0x1234 ++ pause ++ off ++ resume ++ resume)
    ∷ []

-- of an erase of block b, and a program at location l
abbrev pub lasts_so : ℕ → ℕ → List (List (Entry Operation))
lasts_so b l =
    (entry (erase b) 10 was_broken_off ∷ []) ∷ (entry (erase b) 10 suspended ∷ []) ∷ (entry (erase b) 10 was_broken_off ∷ []) ∷ (entry (program l 0x1234) 0 was_broken_off ∷ entry (erase b) 10 suspended ∷ [])
    ∷ (entry (program l 0x1234) 0 was_broken_off ∷ entry (erase b) 10 suspended ∷ [])
    ∷ (entry (program l 0x1234) 0 was_broken_off ∷ entry (erase b) 10 was_broken_off ∷ [])
    ∷ []

pub parts_hold : (lasts FullBottom ≡ lasts_so 0 0xFFFFFF) × (lasts FullTop ≡ lasts_so 258 0xFFFFFF) × (lasts BenchBottom ≡ lasts_so 0 0x3FFF) × (lasts BenchTop ≡ lasts_so 258 0x3FFF)
unfolding mirror block_from block_of size_of start_from start_of
parts_hold = (refl, refl, refl, refl)

pub journals_hold : map drawn journals ≡ map expected journals
unfolding mirror block_from block_of size_of start_from start_of
journals_hold = refl
