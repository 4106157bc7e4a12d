-- What a device holds, and the states that differ from another in one field: document 01, "What a device holds".
-- Assumes nothing.
use Rattle.std.specs.Prelude.{ℕ, Bool, true, false, ◌||◌, List, get_or, replicate, Option, Some, None}
use Rattle.geometry.specs.declared.Part.{Part}
use Rattle.geometry.specs.declared.Geometry.{Geometry}
use Rattle.geometry.specs.Blocks.{geometry_of}
use Rattle.protection.specs.Words.{all_protected}
use Rattle.semantics.specs.declared.Mode.{Mode}
use Rattle.semantics.specs.declared.Mode.TheVariants.{Array}
use Rattle.semantics.specs.declared.Bank.{Bank}
use Rattle.semantics.specs.declared.Setup.{Setup}
use Rattle.semantics.specs.declared.Setup.TheVariants as setup
use Rattle.semantics.specs.declared.Running.{Running}
use Rattle.semantics.specs.declared.Running.TheVariants as running
use Rattle.semantics.specs.declared.SuspendedProgram.{SuspendedProgram}
use Rattle.semantics.specs.declared.SuspendedProgram.TheVariants as program
use Rattle.semantics.specs.declared.SuspendedErase.{SuspendedErase}
use Rattle.semantics.specs.declared.Activity.{Activity}
use Rattle.semantics.specs.declared.Flags.{Flags}
use Rattle.semantics.specs.declared.Control.{Control}
use Rattle.semantics.specs.declared.State.{State}

-- the geometry of the device's part
abbrev pub geometry : State → Geometry
geometry s = geometry_of s.part

-- ---- one field changed

abbrev pub set_activity : Control → Activity → Control
set_activity c x = record { activity = x; flags = c.flags; configuration = c.configuration; supply = c.supply }

abbrev pub set_flags : Control → Flags → Control
set_flags c x = record { activity = c.activity; flags = x; configuration = c.configuration; supply = c.supply }

abbrev pub set_configuration : Control → ℕ → Control
set_configuration c x = record { activity = c.activity; flags = c.flags; configuration = x; supply = c.supply }

abbrev pub set_supply : Control → Bool → Control
set_supply c x = record { activity = c.activity; flags = c.flags; configuration = c.configuration; supply = x }

abbrev pub with_control : State → Control → State
with_control s x = record { part = s.part; banks = s.banks; unprotected = s.unprotected; control = x; buffer = s.buffer }

abbrev pub with_protection : State → List ℕ → State
with_protection s x = record { part = s.part; banks = s.banks; unprotected = x; control = s.control; buffer = s.buffer }

abbrev pub with_buffer : State → List ℕ → State
with_buffer s x = record { part = s.part; banks = s.banks; unprotected = s.unprotected; control = s.control; buffer = x }

abbrev pub with_activity : State → Activity → State
with_activity s x = with_control s (set_activity s.control x)

abbrev pub with_flags : State → Flags → State
with_flags s x = with_control s (set_flags s.control x)

abbrev pub with_supply : State → Bool → State
with_supply s x = with_control s (set_supply s.control x)

-- the read mode of bank k
abbrev pub mode_in : List Bank → ℕ → Mode
mode_in l k = (get_or l k (record { mode = Array })).mode

abbrev pub mode_of : State → ℕ → Mode
mode_of s k = mode_in s.banks k

-- ---- what is under way

-- the erase of block b, suspended when it has done n words
abbrev pub suspended_erase : ℕ → ℕ → SuspendedErase
suspended_erase b n = record { block = b; done = n }

abbrev pub activity : Setup → Running → SuspendedProgram → Option SuspendedErase → Activity
activity s r p e = record { setup = s; running = r; program = p; erase = e }

abbrev pub with_setup : Activity → Setup → Activity
with_setup a s = activity s a.running a.program a.erase

abbrev pub with_running : Activity → Running → Activity
with_running a r = activity a.setup r a.program a.erase

-- something runs
abbrev pub runs : Running → Bool
runs running.Idle = false
runs (running.Program l w) = true
runs (running.Erase b n) = true
runs (running.Buffer l n d) = true

-- a program, of one word or of a buffer, and an erase, is suspended
abbrev pub program_suspended : SuspendedProgram → Bool
program_suspended program.Nothing = false
program_suspended (program.Program l w) = true
program_suspended (program.Buffer l n d) = true

abbrev pub erase_suspended : Option SuspendedErase → Bool
erase_suspended None = false
erase_suspended (Some e) = true

-- ---- the buffer

-- nothing in it
unfoldable pub empty_buffer : List ℕ
empty_buffer = replicate 32 0

-- ---- flags

abbrev pub flags_of : Bool → Bool → Bool → Bool → Flags
flags_of a b c d = record { sr5 = a; sr4 = b; sr3 = c; sr1 = d }

abbrev pub no_flags : Flags
no_flags = flags_of false false false false

-- a flag that is set stays set
abbrev pub joined : Flags → Flags → Flags
joined f g = flags_of (f.sr5 || g.sr5) (f.sr4 || g.sr4) (f.sr3 || g.sr3) (f.sr1 || g.sr1)

-- ---- power-up

-- "supply off, every bank in array mode, nothing pending, running or suspended, flags clear, all blocks protected"; of the configuration register document 02, item 4: "The default becomes BFCFh"; and
-- the buffer empty
unfoldable pub power_up : Part → State
power_up p = record {
  part = p;
  banks = replicate 16 (record { mode = Array });
  unprotected = all_protected;
  control = record { activity = activity setup.Nothing running.Idle program.Nothing None; flags = no_flags; configuration = 0xBFCF; supply = false };
  buffer = empty_buffer;
}
