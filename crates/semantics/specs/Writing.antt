-- The write step: document 01, "Write, address, data.", and document 02, item 1, with section 4.9 of the data sheet, for the load of a buffer program, item 4, for what 03h stores, and item 5, for D0h
-- without supply. A cycle is said over what it sees at the place of its address; what it does not see stays. What a cycle makes of the buffer is said after that.
-- Assumes nothing.
use Rattle.std.specs.Prelude.{ℕ, ◌+◌, ◌-◌, ◌%◌, Bool, true, false, not, cond, ◌&&◌, ◌||◌, List, ltb, leb, eqb, set, Option, Some, None}
use Rattle.geometry.specs.declared.Geometry.{Geometry}
use Rattle.geometry.specs.Blocks.{block_of}
use Rattle.semantics.specs.declared.Mode.TheVariants.{Array, Status, Signature, Query}
use Rattle.semantics.specs.declared.Setup.{Setup}
use Rattle.semantics.specs.declared.Setup.TheVariants as setup
use Rattle.semantics.specs.declared.Running.{Running}
use Rattle.semantics.specs.declared.Running.TheVariants as running
use Rattle.semantics.specs.declared.SuspendedProgram.{SuspendedProgram}
use Rattle.semantics.specs.declared.SuspendedProgram.TheVariants as program
use Rattle.semantics.specs.declared.SuspendedErase.{SuspendedErase}
use Rattle.semantics.specs.declared.Activity.{Activity}
use Rattle.semantics.specs.declared.Control.{Control}
use Rattle.semantics.specs.declared.Command.{Command}
use Rattle.semantics.specs.declared.Command.TheVariants as command
use Rattle.semantics.specs.declared.LockCommand.{LockCommand}
use Rattle.semantics.specs.declared.LockCommand.TheVariants as lock
use Rattle.semantics.specs.declared.State.{State}
use Rattle.semantics.specs.declared.Place.{Place}
use Rattle.semantics.specs.declared.View.{View}
use Rattle.semantics.specs.State.{geometry, activity, set_activity, with_setup, with_running, with_buffer, runs, program_suspended, erase_suspended, empty_buffer, flags_of, no_flags, suspended_erase}
use Rattle.semantics.specs.Register.{without_reserved}
use Rattle.semantics.specs.Supply.{ended_if_unsupplied}
use Rattle.semantics.specs.View.{place_of, view_at, with_view, with_control, with_activity, with_flags, with_configuration, with_mode, with_protection, raise}
use Rattle.semantics.specs.Numbers.{within}
use Rattle.semantics.specs.Tabulate.{tabulate}
use Rattle.semantics.specs.WellFormed.{erasing, stays_in}

-- ---- the first cycle: "The command is data modulo 256. With no set-up pending:"

unfoldable pub command_of : ℕ → Command
command_of c =
    cond (eqb c 0xFF) command.ReadArray
    (cond (eqb c 0x70) command.ReadStatus
    (cond (eqb c 0x90) command.ReadSignature
    (cond (eqb c 0x98) command.ReadQuery
    (cond (eqb c 0xB0) command.Suspend
    (cond (eqb c 0xD0) command.Resume
    (cond (eqb c 0x50) command.ClearStatus
    (cond (eqb c 0x10) command.SetUpProgram
    (cond (eqb c 0x40) command.SetUpProgram
    (cond (eqb c 0x60) command.SetUpLock
    (cond (eqb c 0x20) command.SetUpErase
    (cond (eqb c 0xE8) command.SetUpBuffer
    command.Unknown)))))))))))

-- "B0h, only while something runs: it becomes suspended."
abbrev pub suspended : Activity → Running → Activity
suspended a running.Idle = a
suspended a (running.Program l w) = activity a.setup running.Idle (program.Program l w) a.erase
suspended a (running.Erase b n) = activity a.setup running.Idle a.program (Some (suspended_erase b n))
suspended a (running.Buffer l n d) = activity a.setup running.Idle (program.Buffer l n d) a.erase

-- "resume the suspended program, else the suspended erase"
abbrev pub resumed_erase : Activity → Option SuspendedErase → Activity
resumed_erase a None = a
resumed_erase a (Some e) = activity a.setup (running.Erase e.block e.done) a.program None

abbrev pub resumed : Activity → SuspendedProgram → Activity
resumed a program.Nothing = resumed_erase a a.erase
resumed a (program.Program l w) = activity a.setup (running.Program l w) program.Nothing a.erase
resumed a (program.Buffer l n d) = activity a.setup (running.Buffer l n d) program.Nothing a.erase

-- "D0h, nothing running: resume ..". Document 02, item 5: "resumed without supply, they end with the same flags and no unit": the one that it would have resumed, and that alone
unfoldable pub resume : Control → Control
resume c = cond (runs c.activity.running) c (ended_if_unsupplied (set_activity c (resumed c.activity c.activity.program)))

-- "nothing running, no program suspended"
abbrev pub program_free : Activity → Bool
program_free a = not (runs a.running) && not (program_suspended a.program)

-- "10h or 40h (program set-up) and 60h (lock set-up): nothing running, no program suspended. 20h (erase set-up): nothing running or suspended." Document 02, item 1: "E8h is
-- taken when 40h is, whatever the flags"; the further cycles of a load are no set-up of their own
unfoldable pub accepts : Activity → Setup → Bool
accepts a setup.Nothing = false
accepts a setup.Program = program_free a
accepts a setup.Erase = not (runs a.running) && (not (program_suspended a.program) && not (erase_suspended a.erase))
accepts a setup.Lock = program_free a
accepts a (setup.BufferCount b) = program_free a
accepts a (setup.BufferFirst b n) = false
accepts a (setup.BufferWords l n k) = false

-- this set-up is pending from here on, with the bank of the cycle's own address in status mode
abbrev pub pend : View → Setup → View
pend v x = with_mode (with_activity v (with_setup v.control.activity x)) Status

-- a set-up cycle, which "puts the bank of its own address in status mode"; one that is not accepted is ignored
unfoldable pub set_up : View → Setup → View
set_up v x = cond (accepts v.control.activity x) (pend v x) v

-- "50h, nothing running: the flags are cleared."
unfoldable pub clear_status : View → View
clear_status v = cond (runs v.control.activity.running) v (with_flags v no_flags)

-- "FFh, 70h, 90h, 98h, always: the addressed bank's mode becomes array, status, signature, query." "Anything else is ignored without a flag". Section 4.9: E8h may be
-- addressed to any location of the block that is to be programmed, which it fixes
unfoldable pub first_cycle : View → Place → Command → View
first_cycle v p command.ReadArray = with_mode v Array
first_cycle v p command.ReadStatus = with_mode v Status
first_cycle v p command.ReadSignature = with_mode v Signature
first_cycle v p command.ReadQuery = with_mode v Query
first_cycle v p command.Suspend = with_activity v (suspended v.control.activity v.control.activity.running)
first_cycle v p command.Resume = with_control v (resume v.control)
first_cycle v p command.ClearStatus = clear_status v
first_cycle v p command.SetUpProgram = set_up v setup.Program
first_cycle v p command.SetUpErase = set_up v setup.Erase
first_cycle v p command.SetUpLock = set_up v setup.Lock
first_cycle v p command.SetUpBuffer = set_up v (setup.BufferCount p.block)
first_cycle v p command.Unknown = v

-- ---- the second cycle: "it ends the set-up, its address alone names the word or block, and the first rule that applies holds"

-- "supply off, set SR4 and SR3; block protected, SR4 and SR1; block of the suspended erase, SR4 (H); else a program runs": the program r
unfoldable pub program_runs : View → Place → Running → View
program_runs v p r =
    cond (not v.control.supply) (raise v (flags_of false true true false))
    (cond (not v.unprotected) (raise v (flags_of false true false true))
    (cond (erasing v.control.activity.erase p.block) (raise v (flags_of false true false false))
    (with_activity v (with_running v.control.activity r))))

-- a program of one word: "the whole word is data"
abbrev pub program_cycle : View → Place → ℕ → View
program_cycle v p w = program_runs v p (running.Program p.location w)

-- "command not D0h, set SR5 and SR4; supply off, SR5 and SR3; protected, SR5 and SR1; else an erase runs with no word done"
unfoldable pub erase_cycle : View → Place → ℕ → View
erase_cycle v p c =
    cond (not (eqb c 0xD0)) (raise v (flags_of true true false false))
    (cond (not v.control.supply) (raise v (flags_of true false true false))
    (cond (not v.unprotected) (raise v (flags_of true false false true))
    (with_activity v (with_running v.control.activity (running.Erase p.block 0)))))

unfoldable pub lock_command_of : ℕ → LockCommand
lock_command_of c = cond (eqb c 0x01) lock.Protect (cond (eqb c 0xD0) lock.Unprotect (cond (eqb c 0x03) lock.Configure lock.Unknown))

-- "01h protects the block, D0h opens it, 03h sets the configuration register to the address modulo 65,536; else SR5 and SR4. Supply is not
-- looked at." Document 02, item 4, of its reserved bits: "03h stores those bits as 0", whatever the address has there, and sets no flag
unfoldable pub lock_cycle : View → Place → LockCommand → View
lock_cycle v p lock.Protect = with_protection v false
lock_cycle v p lock.Unprotect = with_protection v true
lock_cycle v p lock.Configure = with_configuration v (without_reserved (p.address % 65536))
lock_cycle v p lock.Unknown = raise v (flags_of true true false false)

-- the end of the set-up, with the bank of the cycle's own address in status mode
unfoldable pub settle : View → View
settle v = pend v setup.Nothing

-- ---- the cycles of a load: document 02, item 1, and section 4.9. While a load stands, every write is one of its cycles, and nothing but addresses and count is
-- looked at before it is confirmed

-- document 01, "Rules that added parts share": "A command of more than two cycles ends at its first wrong cycle with SR5 and SR4; each of its cycles marks its bank as a second cycle
-- does"
abbrev pub wrong : View → View
wrong v = raise (settle v) (flags_of true true false false)

-- the load goes on as x where the cycle is right
unfoldable pub loads : Bool → View → Setup → View
loads right v x = cond right (pend v x) (wrong v)

-- section 4.9: the count goes to the same block. "A count word above 31 is a wrong cycle": the whole word, number of words less one
unfoldable pub count_right : ℕ → Place → ℕ → Bool
count_right b p w = eqb p.block b && leb w 31

-- section 4.9: all addresses lie in one block. "and so is a first word from which so many would leave its block": n words from the place on
unfoldable pub first_right : Geometry → ℕ → ℕ → Place → Bool
first_right g b n p = eqb p.block b && stays_in g b p.location n

-- section 4.9: every address lies in the range of the words, which begins at the location of the first
unfoldable pub later_right : ℕ → ℕ → Place → Bool
later_right l n p = within l n p.location

-- D0h, in the block of the words
unfoldable pub confirm_right : Geometry → ℕ → Place → ℕ → Bool
confirm_right g l p w = eqb (w % 256) 0xD0 && eqb p.block (block_of g l)

-- "at D0h, supply, protection and suspended erase are tested as for a program": a buffer program runs with no word done
unfoldable pub confirm_cycle : Geometry → View → ℕ → ℕ → Place → ℕ → View
confirm_cycle g v l n p w =
    cond (confirm_right g l p w) (program_runs (settle v) p (running.Buffer l n 0)) (wrong v)

-- the cycles after the first data cycle: so many are due before the confirming one
unfoldable pub words_cycle : Geometry → View → ℕ → ℕ → ℕ → Place → ℕ → View
words_cycle g v l n due p w = cond (eqb due 0) (confirm_cycle g v l n p w) (loads (later_right l n p) v (setup.BufferWords l n (due - 1)))

-- ---- a cycle

-- the cycle of a word w, by the set-up that is pending
unfoldable pub cycle : Geometry → View → Setup → Place → ℕ → View
cycle g v setup.Nothing p w = first_cycle v p (command_of (w % 256))
cycle g v setup.Program p w = program_cycle (settle v) p w
cycle g v setup.Erase p w = erase_cycle (settle v) p (w % 256)
cycle g v setup.Lock p w = lock_cycle (settle v) p (lock_command_of (w % 256))
cycle g v (setup.BufferCount b) p w = loads (count_right b p w) v (setup.BufferFirst b (w + 1))
cycle g v (setup.BufferFirst b n) p w = loads (first_right g b n p) v (setup.BufferWords p.location n (n - 1))
cycle g v (setup.BufferWords l n due) p w = words_cycle g v l n due p w

-- ---- the buffer

-- the buffer stays where its words are still in use, and else is empty
unfoldable pub kept_if : Bool → List ℕ → List ℕ
kept_if used bs = cond used bs empty_buffer

-- "a word given none takes FFFFh": n words, the first of which is w, and 0 in the spare places
unfoldable pub first_loaded : ℕ → ℕ → List ℕ
first_loaded n w = tabulate 32 (λ i. cond (eqb i 0) w (cond (ltb i n) 0xFFFF 0))

-- "of two data for one word the later counts". Where the load is confirmed, its words are in use after the cycle where something, r, runs then
unfoldable pub words_loaded : ℕ → ℕ → ℕ → Place → ℕ → Running → List ℕ → List ℕ
words_loaded l n due p w r bs = cond (eqb due 0) (kept_if (runs r) bs) (kept_if (later_right l n p) (set bs (p.location - l) w))

-- what a cycle of a word w makes of the buffer, by the set-up that was pending: a load's data cycles put it in
unfoldable pub loaded : Geometry → Setup → Place → ℕ → Running → List ℕ → List ℕ
loaded g setup.Nothing p w r bs = bs
loaded g setup.Program p w r bs = bs
loaded g setup.Erase p w r bs = bs
loaded g setup.Lock p w r bs = bs
loaded g (setup.BufferCount b) p w r bs = bs
loaded g (setup.BufferFirst b n) p w r bs = cond (first_right g b n p) (first_loaded n w) bs
loaded g (setup.BufferWords l n due) p w r bs = words_loaded l n due p w r bs

-- the words of a buffer program that was suspended are in use after a cycle, with a under way then, where it is still suspended or runs: D0h without supply ends it. No other program comes in its
-- place at one cycle, so that any that is suspended, and anything that runs, is it
unfoldable pub held_after : SuspendedProgram → Activity → List ℕ → List ℕ
held_after program.Nothing a bs = bs
held_after (program.Program l w) a bs = bs
held_after (program.Buffer l n d) a bs = kept_if (program_suspended a.program || runs a.running) bs

-- ---- the state

-- what a write of the word w sees and changes at a place
abbrev pub cycle_at : State → Place → ℕ → View
cycle_at s p w = cycle (geometry s) (view_at s p) s.control.activity.setup p w

-- the buffer after it, with a under way after it
abbrev pub loaded_at : State → Place → ℕ → Activity → List ℕ
loaded_at s p w a = held_after s.control.activity.program a (loaded (geometry s) s.control.activity.setup p w a.running s.buffer)

-- the state after a write of the word w at a place, and to an address
unfoldable pub written_at : State → Place → ℕ → State
written_at s p w = with_buffer (with_view s p (cycle_at s p w)) (loaded_at s p w (cycle_at s p w).control.activity)

unfoldable pub written : State → ℕ → ℕ → State
written s address w = written_at s (place_of (geometry s) address) w
