-- What the recorder takes and what it leaves: document 01, "The journal", and document 02, item 1: the limits of
-- addresses and counts, every code as a command, the cycles of a load, and what a journal makes of a word.
-- JournalCases has the phases of an entry. The checker computes each, with no device and no array in it. Bench
-- bottom: block 4 has the locations 40h to 7Fh, block 5 80h to BFh, and block 6 C0h to FFh.
-- Assumes nothing.
use Rattle.std.specs.Prelude.{ℕ, Bool, true, false, ◌&&◌, List, [], ◌∷◌, ◌++◌, map, ◌≡◌, refl, T, eqb}
use Rattle.geometry.specs.declared.Part.{Part}
use Rattle.geometry.specs.declared.Part.TheVariants.{BenchBottom, BenchTop}
use Rattle.geometry.specs.Blocks.{geometry_of, mirror, block_from, block_of, size_of, start_from, start_of}
use Rattle.semantics.specs.declared.Step.{Step}
use Rattle.semantics.specs.declared.Step.TheVariants.{Read, Write}
use Rattle.semantics.specs.Exactly.{exactly}
use Rattle.semantics.specs.Entries.{Entry, entry, running, suspended, finished, was_broken_off}
use Rattle.semantics.specs.Recorder.{Operation, program, erase, buffer, applied, journal_of}
use Rattle.semantics.specs.JournalCases.{Case, ◌⟶◌, drawn, expected, cycles, ready, erases, programs, pause, work}

-- a load at 80h of words that its writes name: E8h, the count, the writes, and D0h
abbrev load : ℕ → List Step → List Step
load n l = cycles 0x80 0xE8 n ++ l ++ Write 0x80 0xD0 ∷ []

-- a program in block 6, which is protected where no step unprotects it
abbrev third : List Step
third = cycles 0xC0 0x40 0

abbrev pub recorders : List Case
recorders =
    -- "a work count above 65,535 .. nothing": 65,535 is one
    (ready ++ erases ++ work 65536 ⟶ entry (erase 4) 0 running ∷ [])
    ∷ (ready ++ erases ++ work 99999 ++ work 10 ++ work 65536 ⟶ entry (erase 4) 10 running ∷ [])
    ∷ (ready ++ programs ++ work 65536 ⟶ entry (program 0x80 0x1234) 0 running ∷ [])
    ∷ (ready ++ erases ++ work 65535 ⟶ entry (erase 4) 64 finished ∷ [])
    -- "An address of 16,777,216 or more .. nothing": neither a set-up, nor a second cycle, nor a command; the address
    -- below is one
    ∷ (ready ++ Write 0x1000080 0x40 ∷ Write 0x80 0x1234 ∷ [] ⟶ [])
    ∷ (ready ++ Write 0x1000000 0x40 ∷ Write 0x80 0x1234 ∷ [] ⟶ [])
    ∷ (ready ++ Write 0x80 0x40 ∷ Write 0x1000080 0x5678 ∷ Write 0x80 0x1234 ∷ [] ⟶ entry (program 0x80 0x1234) 0 running ∷ [])
    ∷ (ready ++ programs ++ Write 0x1000000 0xB0 ∷ [] ⟶ entry (program 0x80 0x1234) 0 running ∷ [])
    ∷ (ready ++ cycles 0xFFFFFF 0x60 0xD0 ++ cycles 0xFFFFFF 0x40 0x1234 ⟶ entry (program 0x3FFF 0x1234) 0 running ∷ [])
    -- the location counts: the address modulo 16,384
    ∷ (ready ++ cycles 0x4080 0x40 0x1234 ⟶ entry (program 0x80 0x1234) 0 running ∷ [])
    ∷ (ready ++ cycles 0xFF4040 0x20 0xD0 ⟶ entry (erase 4) 0 running ∷ [])
    -- "any read: nothing": the set-up stays
    ∷ (ready ++ Write 0x80 0x40 ∷ Read 0x80 ∷ Write 0x80 0x1234 ∷ [] ⟶ entry (program 0x80 0x1234) 0 running ∷ [])
    -- "10h and 40h (program)", "the whole word is data", and of a command "data modulo 256"
    ∷ (ready ++ cycles 0x80 0x10 0x1234 ⟶ entry (program 0x80 0x1234) 0 running ∷ [])
    ∷ (ready ++ cycles 0x81 0xAB10 0xFFFF ⟶ entry (program 0x81 0xFFFF) 0 running ∷ [])
    ∷ (ready ++ cycles 0x81 0xAB40 0x00FF ⟶ entry (program 0x81 0x00FF) 0 running ∷ [])
    ∷ (ready ++ cycles 0x40 0xAB20 0xCDD0 ⟶ entry (erase 4) 0 running ∷ [])
    -- the second cycle's address names the word or the block
    ∷ (ready ++ Write 0x40 0x40 ∷ Write 0x81 0x1234 ∷ [] ⟶ entry (program 0x81 0x1234) 0 running ∷ [])
    ∷ (ready ++ Write 0x40 0x20 ∷ Write 0x80 0xD0 ∷ [] ⟶ entry (erase 5) 0 running ∷ [])
    ∷ (ready ++ Write 0xC0 0x20 ∷ Write 0x80 0xD0 ∷ third ⟶ entry (erase 5) 0 running ∷ [])
    ∷ (ready ++ Write 0x40 0x60 ∷ Write 0xC0 0xD0 ∷ third ⟶ entry (program 0xC0 0) 0 running ∷ [])
    -- 60h beside what runs or a suspended program is nothing, so that D0h after it resumes; beside a suspended erase
    -- it is a set-up
    ∷ (ready ++ programs ++ pause ++ cycles 0xC0 0x60 0xD0 ⟶ entry (program 0x80 0x1234) 0 running ∷ [])
    ∷ (ready ++ load 0 (Write 0x80 0xAAAA ∷ []) ++ pause ++ cycles 0xC0 0x60 0xD0 ⟶ entry (buffer 0x80 (0xAAAA ∷ [])) 0 running ∷ [])
    ∷ (ready ++ programs ++ cycles 0xC0 0x60 0xD0 ++ work 1 ++ third ⟶ entry (program 0x80 0x1234) 1 finished ∷ [])
    ∷ (ready ++ erases ++ pause ++ cycles 0xC0 0x60 0xD0 ++ third ⟶ entry (program 0xC0 0) 0 running ∷ entry (erase 4) 0 suspended ∷ [])
    -- 10h, 40h, E8h and 20h likewise, 20h beside a suspended erase too: the next write is a first cycle
    ∷ (ready ++ programs ++ pause ++ cycles 0x80 0x10 0xD0 ⟶ entry (program 0x80 0x1234) 0 running ∷ [])
    ∷ (ready ++ programs ++ pause ++ cycles 0x80 0x40 0xD0 ⟶ entry (program 0x80 0x1234) 0 running ∷ [])
    ∷ (ready ++ programs ++ pause ++ cycles 0x80 0xE8 0xD0 ⟶ entry (program 0x80 0x1234) 0 running ∷ [])
    ∷ (ready ++ programs ++ pause ++ cycles 0x40 0x20 0xD0 ⟶ entry (program 0x80 0x1234) 0 running ∷ [])
    ∷ (ready ++ erases ++ pause ++ cycles 0x80 0x20 0xD0 ⟶ entry (erase 4) 0 running ∷ [])
    ∷ (ready ++ erases ++ cycles 0x80 0x10 0xB0 ⟶ entry (erase 4) 0 suspended ∷ [])
    ∷ (ready ++ erases ++ cycles 0x80 0x40 0xB0 ⟶ entry (erase 4) 0 suspended ∷ [])
    ∷ (ready ++ erases ++ cycles 0x80 0xE8 0xB0 ⟶ entry (erase 4) 0 suspended ∷ [])
    ∷ (ready ++ programs ++ cycles 0x40 0x20 0xB0 ⟶ entry (program 0x80 0x1234) 0 suspended ∷ [])
    -- a load: of two data for one word the later counts, and a word given none is FFFFh
    ∷ (ready ++ load 2 (Write 0x80 0x1111 ∷ Write 0x82 0x2222 ∷ Write 0x82 0x3333 ∷ []) ⟶ entry (buffer 0x80 (0x1111 ∷ 0xFFFF ∷ 0x3333 ∷ [])) 0 running ∷ [])
    ∷ (ready ++ load 2 (Write 0x80 0x1111 ∷ Write 0x80 0x2222 ∷ Write 0x81 0x3333 ∷ []) ⟶ entry (buffer 0x80 (0x2222 ∷ 0x3333 ∷ 0xFFFF ∷ [])) 0 running ∷ [])
    -- its words may end at the block's end, and not past it; D0h is the next cycle's data, and then a resume
    ∷ (ready ++ load 1 (Write 0xBE 1 ∷ Write 0xBF 2 ∷ []) ⟶ entry (buffer 0xBE (1 ∷ 2 ∷ [])) 0 running ∷ [])
    ∷ (ready ++ load 1 (Write 0xBF 1 ∷ Write 0xBF 2 ∷ []) ⟶ [])
    -- the count counts whole: 31 is one, 32, 100h, 101h, 4000h and 8000h are none, and then what follows is read as
    -- commands
    ∷ (ready ++ cycles 0x80 0xE8 31 ++ programs ⟶ [])
    ∷ (ready ++ cycles 0x80 0xE8 32 ++ programs ⟶ entry (program 0x80 0x1234) 0 running ∷ [])
    ∷ (ready ++ load 0x100 (Write 0x80 0xAAAA ∷ []) ⟶ [])
    ∷ (ready ++ load 0x101 (Write 0x80 0xAAAA ∷ Write 0x81 0xBBBB ∷ []) ⟶ [])
    ∷ (ready ++ load 0x4000 (Write 0x80 0xAAAA ∷ []) ⟶ [])
    ∷ (ready ++ load 0x8000 (Write 0x80 0xAAAA ∷ []) ⟶ [])
    -- the count, the first word and the confirming D0h in another block than E8h, and words below and past the run:
    -- the load ends there
    ∷ (ready ++ Write 0x80 0xE8 ∷ Write 0x40 0 ∷ Write 0x80 0xAAAA ∷ Write 0x80 0xD0 ∷ [] ⟶ [])
    ∷ (ready ++ load 0 (Write 0x40 0xAAAA ∷ []) ⟶ [])
    ∷ (ready ++ cycles 0x80 0xE8 0 ++ Write 0x40 0xAAAA ∷ Write 0x40 0xD0 ∷ [] ⟶ [])
    ∷ (ready ++ cycles 0x80 0xE8 0 ++ Write 0x80 0xAAAA ∷ Write 0x40 0xD0 ∷ Write 0x80 0xD0 ∷ programs ⟶ entry (program 0x80 0x1234) 0 running ∷ [])
    ∷ (ready ++ load 1 (Write 0x80 1 ∷ Write 0x82 2 ∷ []) ⟶ [])
    ∷ (ready ++ load 1 (Write 0x81 1 ∷ Write 0x80 2 ∷ []) ⟶ [])
    ∷ (ready ++ load 1 (Write 0x81 1 ∷ Write 0x82 2 ∷ []) ⟶ entry (buffer 0x81 (1 ∷ 2 ∷ [])) 0 running ∷ [])
    -- E8h and D0h at any place of the block
    ∷ (ready ++ Write 0xBF 0xE8 ∷ Write 0x8F 0 ∷ Write 0x80 0xAAAA ∷ Write 0xA0 0x12D0 ∷ [] ⟶ entry (buffer 0x80 (0xAAAA ∷ [])) 0 running ∷ [])
    ∷ []

pub recorders_hold : map drawn recorders ≡ map expected recorders
unfolding mirror block_from block_of size_of start_from start_of
recorders_hold = refl

-- ---- every code

-- steps with a code among them, a test of their journal, and those of the 256 codes, from the lowest up, with which
-- it passes
pub data Codes : Type 0 where
  codes : (ℕ → List Step) → (List (Entry Operation) → Bool) → List ℕ → Codes

-- the latest entry is of a program, of an erase, of a buffer; it is suspended, and it runs
abbrev programmed : List (Entry Operation) → Bool
programmed [] = false
programmed (entry (program l w) u t ∷ j) = true
programmed (entry (erase b) u t ∷ j) = false
programmed (entry (buffer l ws) u t ∷ j) = false

abbrev erased : List (Entry Operation) → Bool
erased [] = false
erased (entry (program l w) u t ∷ j) = false
erased (entry (erase b) u t ∷ j) = true
erased (entry (buffer l ws) u t ∷ j) = false

abbrev buffered : List (Entry Operation) → Bool
buffered [] = false
buffered (entry (program l w) u t ∷ j) = false
buffered (entry (erase b) u t ∷ j) = false
buffered (entry (buffer l ws) u t ∷ j) = true

abbrev waits : List (Entry Operation) → Bool
waits [] = false
waits (entry k u running ∷ j) = false
waits (entry k u suspended ∷ j) = true
waits (entry k u finished ∷ j) = false
waits (entry k u was_broken_off ∷ j) = false

abbrev runs : List (Entry Operation) → Bool
runs [] = false
runs (entry k u running ∷ j) = true
runs (entry k u suspended ∷ j) = false
runs (entry k u finished ∷ j) = false
runs (entry k u was_broken_off ∷ j) = false

abbrev empty : List (Entry Operation) → Bool
empty [] = true
empty (e ∷ j) = false

abbrev pub all_codes : List Codes → Bool
all_codes [] = true
all_codes (codes f p cs ∷ l) = exactly (λ c. p (journal_of (geometry_of BenchBottom) (f c))) cs && all_codes l

abbrev pub commands : List Codes
commands =
    -- with no set-up, before D0h: 10h and 40h are a program's, and 20h is an erase's
    codes (λ c. ready ++ Write 0x80 c ∷ Write 0x80 0xD0 ∷ []) programmed (0x10 ∷ 0x40 ∷ [])
    ∷ codes (λ c. ready ++ Write 0x80 c ∷ Write 0x80 0xD0 ∷ []) erased (0x20 ∷ [])
    -- E8h is a load's; 60h is a lock command's, before D0h that unprotects block 6
    ∷ codes (λ c. ready ++ Write 0x80 c ∷ Write 0x80 0 ∷ Write 0x80 7 ∷ Write 0x80 0xD0 ∷ []) buffered (0xE8 ∷ [])
    ∷ codes (λ c. ready ++ Write 0xC0 c ∷ Write 0xC0 0xD0 ∷ third) programmed (0x60 ∷ [])
    -- B0h suspends, and D0h resumes
    ∷ codes (λ c. ready ++ erases ++ Write 0x80 c ∷ []) waits (0xB0 ∷ [])
    ∷ codes (λ c. ready ++ erases ++ pause ++ Write 0x80 c ∷ []) runs (0xD0 ∷ [])
    -- after 60h, 01h alone protects block 5, which was unprotected, and D0h alone unprotects block 6; after 20h, D0h
    -- alone confirms an erase; after a load, D0h alone confirms it
    ∷ codes (λ c. ready ++ cycles 0x80 0x60 c ++ programs) empty (0x01 ∷ [])
    ∷ codes (λ c. ready ++ cycles 0xC0 0x60 c ++ third) programmed (0xD0 ∷ [])
    ∷ codes (λ c. ready ++ cycles 0x40 0x20 c) erased (0xD0 ∷ [])
    ∷ codes (λ c. ready ++ cycles 0x80 0xE8 0 ++ Write 0x80 7 ∷ Write 0x80 c ∷ []) buffered (0xD0 ∷ [])
    ∷ []

pub commands_hold : T (all_codes commands)
unfolding mirror block_from block_of size_of start_from start_of
commands_hold = tt

-- ---- what a journal makes of a word

-- a part, a journal, the latest entry first, a location, the word there at the start, and what the journal makes of
-- it
pub data Effect : Type 0 where
  makes : Part → List (Entry Operation) → ℕ → ℕ → ℕ → Effect

abbrev pub all_made : List Effect → Bool
all_made [] = true
all_made (makes p j L x y ∷ l) = eqb (applied (geometry_of p) j L x) y && all_made l

-- of one entry, at a location with the word 0FF0h, on the bench bottom part
abbrev one : Entry Operation → ℕ → ℕ → Effect
one e L y = makes BenchBottom (e ∷ []) L 0x0FF0 y

abbrev f0 : Operation
f0 = program 0x80 0xF0F0

abbrev three : Operation
three = buffer 0x80 (0xF0F0 ∷ 0x00FF ∷ 0x3333 ∷ [])

abbrev pub made : List Effect
made =
    makes BenchBottom [] 0x80 0x0FF0 0x0FF0
    -- "Finished program: data anded in; unfinished: nothing."
    ∷ one (entry f0 1 finished) 0x80 0x00F0 ∷ one (entry f0 1 finished) 0x7F 0x0FF0 ∷ one (entry f0 1 finished) 0x81 0x0FF0
    ∷ one (entry f0 0 running) 0x80 0x0FF0 ∷ one (entry f0 0 suspended) 0x80 0x0FF0 ∷ one (entry f0 0 was_broken_off) 0x80 0x0FF0
    -- "Finished erase: FFFFh; unfinished: FFFFh in as many of the block's lowest words as it had units."
    ∷ one (entry (erase 4) 64 finished) 0x3F 0x0FF0 ∷ one (entry (erase 4) 64 finished) 0x40 0xFFFF ∷ one (entry (erase 4) 64 finished) 0x7F 0xFFFF ∷ one (entry (erase 4) 64 finished) 0x80 0x0FF0
    ∷ one (entry (erase 4) 10 running) 0x3F 0x0FF0 ∷ one (entry (erase 4) 10 running) 0x40 0xFFFF ∷ one (entry (erase 4) 10 running) 0x49 0xFFFF ∷ one (entry (erase 4) 10 running) 0x4A 0x0FF0
    ∷ one (entry (erase 4) 10 suspended) 0x3F 0x0FF0 ∷ one (entry (erase 4) 10 suspended) 0x40 0xFFFF ∷ one (entry (erase 4) 10 suspended) 0x49 0xFFFF ∷ one (entry (erase 4) 10 suspended) 0x4A 0x0FF0
    ∷ one (entry (erase 4) 10 was_broken_off) 0x3F 0x0FF0 ∷ one (entry (erase 4) 10 was_broken_off) 0x40 0xFFFF ∷ one (entry (erase 4) 10 was_broken_off) 0x49 0xFFFF ∷ one (entry (erase 4) 10 was_broken_off) 0x4A 0x0FF0
    ∷ one (entry (erase 4) 0 running) 0x40 0x0FF0 ∷ one (entry (erase 4) 0 suspended) 0x40 0x0FF0 ∷ one (entry (erase 4) 0 was_broken_off) 0x40 0x0FF0
    -- a small block, of 16 words; and on the top part, upward by location, block 4 from 3F80h on
    ∷ one (entry (erase 1) 16 finished) 0xF 0x0FF0 ∷ one (entry (erase 1) 16 finished) 0x10 0xFFFF ∷ one (entry (erase 1) 16 finished) 0x1F 0xFFFF ∷ one (entry (erase 1) 16 finished) 0x20 0x0FF0
    ∷ makes BenchTop (entry (erase 4) 10 was_broken_off ∷ []) 0x3F80 0x0FF0 0xFFFF ∷ makes BenchTop (entry (erase 4) 10 was_broken_off ∷ []) 0x3F89 0x0FF0 0xFFFF
    ∷ makes BenchTop (entry (erase 4) 10 was_broken_off ∷ []) 0x3F8A 0x0FF0 0x0FF0 ∷ makes BenchTop (entry (erase 4) 10 was_broken_off ∷ []) 0x3FBF 0x0FF0 0x0FF0
    ∷ makes BenchTop (entry (erase 4) 64 finished ∷ []) 0x3FBF 0x0FF0 0xFFFF
    -- of a buffer "an unfinished one has reached as many of its lowest as it had units", each anded in
    ∷ one (entry three 3 finished) 0x7F 0x0FF0 ∷ one (entry three 3 finished) 0x80 0x00F0 ∷ one (entry three 3 finished) 0x81 0x00F0 ∷ one (entry three 3 finished) 0x82 0x0330
    ∷ one (entry three 3 finished) 0x83 0x0FF0
    ∷ one (entry three 2 running) 0x80 0x00F0 ∷ one (entry three 2 running) 0x81 0x00F0 ∷ one (entry three 2 running) 0x82 0x0FF0 ∷ one (entry three 2 running) 0x7F 0x0FF0
    ∷ one (entry three 2 suspended) 0x80 0x00F0 ∷ one (entry three 2 suspended) 0x81 0x00F0 ∷ one (entry three 2 suspended) 0x82 0x0FF0 ∷ one (entry three 2 suspended) 0x7F 0x0FF0
    ∷ one (entry three 2 was_broken_off) 0x80 0x00F0 ∷ one (entry three 2 was_broken_off) 0x81 0x00F0 ∷ one (entry three 2 was_broken_off) 0x82 0x0FF0 ∷ one (entry three 2 was_broken_off) 0x7F 0x0FF0
    ∷ one (entry three 0 running) 0x80 0x0FF0 ∷ one (entry three 0 suspended) 0x80 0x0FF0 ∷ one (entry three 0 was_broken_off) 0x80 0x0FF0
    -- "applied in order of acceptance": the erase, then the program; the program, then the erase; two programs and a
    -- buffer over one another
    ∷ makes BenchBottom (entry (program 0x40 0x1234) 1 finished ∷ entry (erase 4) 64 finished ∷ []) 0x40 0x0FF0 0x1234
    ∷ makes BenchBottom (entry (erase 4) 64 finished ∷ entry (program 0x40 0x1234) 1 finished ∷ []) 0x40 0x0FF0 0xFFFF
    ∷ makes BenchBottom (entry (erase 4) 0 was_broken_off ∷ entry (program 0x40 0x00F0) 1 finished ∷ []) 0x40 0x0FF0 0x00F0
    ∷ makes BenchBottom (entry three 3 finished ∷ entry (program 0x80 0x0F30) 1 finished ∷ entry (program 0x80 0x7777) 1 finished ∷ []) 0x80 0x0FF0 0x0030
    ∷ []

pub made_hold : T (all_made made)
unfolding mirror block_from block_of size_of start_from start_of
made_hold = tt
