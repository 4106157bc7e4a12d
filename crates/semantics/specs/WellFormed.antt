-- When a state is well formed (document 01: well made): one test for each part of document 01's sentence, in its order, and what document 02 says:
-- item 1 of a load and of a buffer program, item 4 of the configuration register, item 5 of the supply; no other.
-- Assumes nothing.
use Rattle.std.specs.Prelude.{ℕ, zero, suc, ◌+◌, Bool, true, false, not, ◌&&◌, ◌||◌, List, [], ◌∷◌, ltb, leb, eqb, Option, Some, None}
use Rattle.geometry.specs.declared.Geometry.{Geometry}
use Rattle.geometry.specs.Blocks.{words, blocks, block_of, start_of, size_of}
use Rattle.protection.specs.Words.{spare_zero}
use Rattle.semantics.specs.declared.Setup.{Setup}
use Rattle.semantics.specs.declared.Setup.TheVariants as setup
use Rattle.semantics.specs.declared.Running.{Running}
use Rattle.semantics.specs.declared.Running.TheVariants as running
use Rattle.semantics.specs.declared.SuspendedProgram.{SuspendedProgram}
use Rattle.semantics.specs.declared.SuspendedProgram.TheVariants as program
use Rattle.semantics.specs.declared.SuspendedErase.{SuspendedErase}
use Rattle.semantics.specs.declared.Activity.{Activity}
use Rattle.semantics.specs.declared.Control.{Control}
use Rattle.semantics.specs.declared.State.{State}
use Rattle.semantics.specs.State.{geometry, runs, program_suspended, erase_suspended}
use Rattle.semantics.specs.Register.{reserved_zero}

abbrev pub implies : Bool → Bool → Bool
implies a b = not a || b

-- a set-up is pending
abbrev pub pending : Setup → Bool
pending setup.Nothing = false
pending setup.Program = true
pending setup.Erase = true
pending setup.Lock = true
pending (setup.BufferCount b) = true
pending (setup.BufferFirst b n) = true
pending (setup.BufferWords l n k) = true

abbrev pub is_erase_setup : Setup → Bool
is_erase_setup setup.Nothing = false
is_erase_setup setup.Program = false
is_erase_setup setup.Erase = true
is_erase_setup setup.Lock = false
is_erase_setup (setup.BufferCount b) = false
is_erase_setup (setup.BufferFirst b n) = false
is_erase_setup (setup.BufferWords l n k) = false

abbrev pub is_erase : Running → Bool
is_erase running.Idle = false
is_erase (running.Program l w) = false
is_erase (running.Erase b n) = true
is_erase (running.Buffer l n d) = false

-- the suspended erase, if there is one, is of block b
abbrev pub erasing : Option SuspendedErase → ℕ → Bool
erasing None b = false
erasing (Some e) b = eqb e.block b

-- "a running operation means no set-up pending and no suspended program"
unfoldable pub running_alone : Activity → Bool
running_alone a = implies (runs a.running) (not (pending a.setup) && not (program_suspended a.program))

-- "a suspended program means no set-up pending"
unfoldable pub program_alone : Activity → Bool
program_alone a = implies (program_suspended a.program) (not (pending a.setup))

-- "a suspended erase means no running erase and no erase set-up pending"
unfoldable pub erase_alone : Activity → Bool
erase_alone a = implies (erase_suspended a.erase) (not (is_erase a.running) && not (is_erase_setup a.setup))

-- a block of the part, of which fewer words are done than it has
unfoldable pub erase_fits : Geometry → ℕ → ℕ → Bool
erase_fits g b n = ltb b (blocks g) && ltb n (size_of g b)

-- n words from location l on end within block b
abbrev pub stays_in : Geometry → ℕ → ℕ → ℕ → Bool
stays_in g b l n = leb (l + n) (start_of g b + size_of g b)

-- document 02, item 1: "whose words lie in one block": n words from location l on; and the buffer holds them, "up to 32 words at once"
unfoldable pub words_fit : Geometry → ℕ → ℕ → Bool
words_fit g l n = ltb l (words g) && (stays_in g (block_of g l) l n && leb n 32)

-- "and are more than it has done"
unfoldable pub buffer_fits : Geometry → ℕ → ℕ → ℕ → Bool
buffer_fits g l n d = words_fit g l n && ltb d n

-- "a load half done": its block is of the part, its number of words is one that a count can name, and from the first word on they lie in one block, and are more than
-- the data cycles that are still due. Before the first word they need not fit the block: that is tested there
unfoldable pub setup_fits : Geometry → Setup → Bool
setup_fits g setup.Nothing = true
setup_fits g setup.Program = true
setup_fits g setup.Erase = true
setup_fits g setup.Lock = true
setup_fits g (setup.BufferCount b) = ltb b (blocks g)
setup_fits g (setup.BufferFirst b n) = ltb b (blocks g) && (ltb 0 n && leb n 32)
setup_fits g (setup.BufferWords l n k) = buffer_fits g l n k

unfoldable pub running_fits : Geometry → Running → Bool
running_fits g running.Idle = true
running_fits g (running.Program l w) = ltb l (words g)
running_fits g (running.Erase b n) = erase_fits g b n
running_fits g (running.Buffer l n d) = buffer_fits g l n d

unfoldable pub program_fits : Geometry → SuspendedProgram → Bool
program_fits g program.Nothing = true
program_fits g (program.Program l w) = ltb l (words g)
program_fits g (program.Buffer l n d) = buffer_fits g l n d

unfoldable pub suspended_erase_fits : Geometry → Option SuspendedErase → Bool
suspended_erase_fits g None = true
suspended_erase_fits g (Some e) = erase_fits g e.block e.done

-- "locations and blocks are of the part, and an erase has done fewer words than its block has"
unfoldable pub all_fit : Geometry → Activity → Bool
all_fit g a = setup_fits g a.setup && (running_fits g a.running && (program_fits g a.program && suspended_erase_fits g a.erase))

unfoldable pub running_apart : Geometry → Option SuspendedErase → Running → Bool
running_apart g e running.Idle = true
running_apart g e (running.Program l w) = not (erasing e (block_of g l))
running_apart g e (running.Erase b n) = true
running_apart g e (running.Buffer l n d) = not (erasing e (block_of g l))

unfoldable pub program_apart : Geometry → Option SuspendedErase → SuspendedProgram → Bool
program_apart g e program.Nothing = true
program_apart g e (program.Program l w) = not (erasing e (block_of g l))
program_apart g e (program.Buffer l n d) = not (erasing e (block_of g l))

-- "a program that runs or is suspended beside a suspended erase lies in another block": a buffer program too. A load may stand in the erase's block: that is tested
-- where it is confirmed
unfoldable pub apart : Geometry → Activity → Bool
apart g a = running_apart g a.erase a.running && program_apart g a.erase a.program

-- what is under way is well formed on a part
unfoldable pub activity_formed : Geometry → Activity → Bool
activity_formed g a = running_alone a && (program_alone a && (erase_alone a && (all_fit g a && apart g a)))

-- how many places of the buffer each may use
unfoldable pub setup_places : Setup → ℕ
setup_places setup.Nothing = 0
setup_places setup.Program = 0
setup_places setup.Erase = 0
setup_places setup.Lock = 0
setup_places (setup.BufferCount b) = 0
setup_places (setup.BufferFirst b n) = 0
setup_places (setup.BufferWords l n k) = n

unfoldable pub running_places : Running → ℕ
running_places running.Idle = 0
running_places (running.Program l w) = 0
running_places (running.Erase b n) = 0
running_places (running.Buffer l n d) = n

unfoldable pub program_places : SuspendedProgram → ℕ
program_places program.Nothing = 0
program_places (program.Program l w) = 0
program_places (program.Buffer l n d) = n

-- the places in use: no two of the three use some where the activity is well formed
unfoldable pub places_used : Activity → ℕ
places_used a = setup_places a.setup + (running_places a.running + program_places a.program)

-- the words from place n on are 0
unfoldable pub zero_from : ℕ → List ℕ → Bool
zero_from n [] = true
zero_from zero (x ∷ l) = eqb x 0 && zero_from zero l
zero_from (suc n) (x ∷ l) = zero_from n l

-- document 02, item 5: "In a well made state something runs only with supply on". What is suspended or pending does not look at it
unfoldable pub runs_supplied : Control → Bool
runs_supplied c = implies (runs c.activity.running) c.supply

-- and "spare storage, if any, is zero": the protection words have more bits than there are blocks, and the buffer more places than are in use. Document 02, item 4, of the reserved bits of the
-- configuration register: "a well made state has them 0"; and item 5, of the supply
unfoldable pub well_formed : State → Bool
well_formed s =
    activity_formed (geometry s) s.control.activity
    && (spare_zero s.unprotected
    && (zero_from (places_used s.control.activity) s.buffer && (reserved_zero s.control.configuration && runs_supplied s.control)))
