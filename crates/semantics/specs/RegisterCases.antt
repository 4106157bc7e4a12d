-- Cases of the configuration register and its reserved bits: document 02, item 4. FurtherCases computes them.
-- Assumes nothing.
use Rattle.std.specs.Prelude.{ℕ, ◌-◌, true, false, List, [], ◌∷◌, ◌++◌, replicate, Option, Some, None}
use Rattle.refusal.specs.declared.Refusal.TheVariants as refusal
use Rattle.geometry.specs.declared.Part.{Part}
use Rattle.geometry.specs.declared.Part.TheVariants.{FullBottom, FullTop, BenchBottom, BenchTop}
use Rattle.semantics.specs.declared.Step.TheVariants.{Write, Work, Reset}
use Rattle.semantics.specs.declared.Answer.TheVariants.{Refused}
use Rattle.semantics.specs.declared.Mode.{Mode}
use Rattle.semantics.specs.declared.Mode.TheVariants.{Status, Signature, Query}
use Rattle.semantics.specs.declared.State.{State}
use Rattle.semantics.specs.declared.Setup.{Setup}
use Rattle.semantics.specs.declared.Setup.TheVariants as setup
use Rattle.semantics.specs.declared.Running.{Running}
use Rattle.semantics.specs.declared.Running.TheVariants as running
use Rattle.semantics.specs.declared.SuspendedProgram.{SuspendedProgram}
use Rattle.semantics.specs.declared.SuspendedProgram.TheVariants as suspended_program
use Rattle.semantics.specs.declared.SuspendedErase.{SuspendedErase}
use Rattle.semantics.specs.State.{power_up, with_control, with_protection, with_buffer, with_flags, with_supply, set_configuration, flags_of, suspended_erase}
use Rattle.semantics.specs.Writing.{written}
use Rattle.semantics.specs.Steps.{step_of}
use Rattle.semantics.specs.Cases.{◌⟶◌, Exchange, words, Case, plays, starts, reports, counted, unreported, write, cycles, shows, works, supply, reset, unprotect, protect, program, erase, prepared, bench}
use Rattle.semantics.specs.RefusalCases.{under_way, bad, all}

-- the register shows w, in bank 0
abbrev has : ℕ → List Exchange
has w = write 0x0 0x90 ++ shows 0x5 w

-- 60h and 03h at an address, after which it does
abbrev stores : ℕ → ℕ → List Exchange
stores a w = cycles a 0x60 0x03 ++ has w

-- a state with another register
abbrev configured : State → ℕ → State
configured s w = with_control s (set_configuration s.control w)

-- power-up with register w
abbrev registered : ℕ → State
registered w = configured (power_up BenchBottom) w

-- a register that is well formed: it shows as it is
abbrev allowed : ℕ → Case
allowed w = starts (registered w) (bench 0) (has w)

-- one that is not: every step is refused 2, and on an array of another length 1, and the report is refused 2
abbrev refused : ℕ → List Case
refused w = starts (registered w) (bench 0) (all refusal.Malformed) ∷ starts (registered w) (words 3 0) (all refusal.ArrayLength) ∷ unreported (registered w) refusal.Malformed ∷ []

-- what is under way, on the bench bottom part with register w
abbrev busy : Setup → Running → SuspendedProgram → Option SuspendedErase → ℕ → State
busy s r q e w = configured (under_way BenchBottom s r q e) w

-- with a set-up alone, or something that runs alone
abbrev pends : Setup → ℕ → State
pends s w = busy s running.Idle suspended_program.Nothing None w

abbrev working : Running → ℕ → State
working r w = busy setup.Nothing r suspended_program.Nothing None w

-- with a suspended program alone, or a suspended erase alone
abbrev waits : SuspendedProgram → ℕ → State
waits q w = busy setup.Nothing running.Idle q None w

abbrev erase_waits : ℕ → State
erase_waits w = busy setup.Nothing running.Idle suspended_program.Nothing (Some (suspended_erase 4 0)) w

-- a state of any part, taken for one of the bench bottom part, whose array a case has room for
abbrev on_bench : State → State
on_bench s = record { part = BenchBottom; banks = s.banks; unprotected = s.unprotected; control = s.control; buffer = s.buffer }

-- power-up of any part, and then 60h and 03h at an address
abbrev configures : Part → ℕ → State
configures p a = written (written (power_up p) a 0x60) a 0x03

-- the state that a refused reset gives back: on an array of 3 words, refused 1; on one of the bench parts'
abbrev back1 : State → State
back1 s = (step_of s (replicate 3 0) Reset).state

abbrev back : State → State
back s = (step_of s (replicate 16384 0) Reset).state

-- power-up with register 4000h and every bank in one mode
abbrev in_mode : Mode → State
in_mode m = record { part = BenchBottom; banks = replicate 16 (record { mode = m }); unprotected = (registered 0x4000).unprotected; control = (registered 0x4000).control; buffer = (registered 0x4000).buffer }

-- all four flags: an erase refused for supply, then a program refused for protection
abbrev all_flags : List Exchange
all_flags = erase 0x40 ++ supply true ++ program 0x40 0x1234

-- the block of 40h unprotected, and its erase, or a program in it, suspended
abbrev erase_paused : List Exchange
erase_paused = prepared 0x40 ++ erase 0x40 ++ write 0x40 0xB0

abbrev program_paused : List Exchange
program_paused = prepared 0x40 ++ program 0x40 0x1234 ++ write 0x40 0xB0

-- 1204h is stored; such steps leave it; a reset after them gives the default
abbrev leaves : List Exchange → Case
leaves l = plays BenchBottom (bench 0xFFFF) (stores 0x1234 0x1204 ++ l ++ has 0x1204)

abbrev resets : List Exchange → Case
resets l = plays BenchBottom (bench 0xFFFF) (stores 0x1234 0x1204 ++ l ++ reset ++ has 0xBFCF)

abbrev pub register_cases : List Case
register_cases =
    -- the default, and FFFFh stored as it; its cycles mark bank 15, 00FFFFh being location 3FFFh
    plays BenchBottom (bench 0xFFFF) (has 0xBFCF ++ cycles 0xFFFF 0x60 0x03 ++ shows 0x5 0xBFCF ++ shows 0x3C00 0x80)
    -- 5432h stored as 1402h, and 4030h, whose cycles mark bank 0, as 0000h; then reset
    ∷ plays BenchBottom (bench 0xFFFF)
    (write 0x0 0x90 ++ cycles 0x5432 0x60 0x03 ++ shows 0x5 0x1402 ++ write 0x4030 0x60 ++ shows 0x5 0x80 ++ write 0x4030 0x03 ++ has 0x0 ++ reset ++ has 0xBFCF)
    -- each bit alone: 14, 5 and 4 are stored as 0, the others as written
    ∷ plays BenchBottom (bench 0xFFFF)
    (stores 0x1 0x1 ++ stores 0x2 0x2 ++ stores 0x4 0x4 ++ stores 0x8 0x8 ++ stores 0x10 0x0 ++ stores 0x8 0x8 ++ stores 0x20 0x0 ++ stores 0x40 0x40 ++ stores 0x80 0x80 ++ stores 0x100 0x100
    ++ stores 0x200 0x200 ++ stores 0x400 0x400 ++ stores 0x800 0x800 ++ stores 0x1000 0x1000 ++ stores 0x2000 0x2000 ++ stores 0x4000 0x0 ++ stores 0x8000 0x8000)
    -- the reserved bits at 1 or 0 beside the others make no difference; other bits at 0 are stored as written, latency 000 too, which Table 11 reserves, and length 100, which it does not name
    ∷ plays BenchTop (bench 0xFFFF)
    (stores 0xBFCF 0xBFCF ++ stores 0xFFEF 0xBFCF ++ stores 0xFFDF 0xBFCF ++ stores 0xFFFE 0xBFCE ++ stores 0xFF7F 0xBF4F ++ stores 0xC7FF 0x87CF ++ stores 0xFFFC 0xBFCC ++ stores 0x7FFF 0x3FCF ++ stores 0x0 0x0)
    -- of the address and not of the location, which for 8041h is 0041h: modulo 65,536, whatever is above
    ∷ plays BenchBottom (bench 0xFFFF) (stores 0x8041 0x8041 ++ stores 0xC071 0x8041 ++ stores 0xFF4071 0x0041 ++ stores 0x10000 0x0 ++ stores 0xFFFFFF 0xBFCF)
    -- of the second cycle's address and not the first's
    ∷ plays BenchBottom (bench 0xFFFF) (write 0xFFFF 0x60 ++ write 0x3 0x03 ++ has 0x0003)
    -- no flag is set by the reserved bits, and none cleared: after an erase refused for supply A8h stays; supply is not looked at
    ∷ plays BenchBottom (bench 0xFFFF) (cycles 0x4030 0x60 0x03 ++ shows 0x0 0x80 ++ erase 0x40 ++ shows 0x40 0xA8 ++ cycles 0x4030 0x60 0x03 ++ shows 0x0 0xA8)
    -- supply, work, other commands, refused steps and a wrong lock code leave the register
    ∷ plays BenchBottom (bench 0xFFFF)
    (stores 0x1234 0x1204 ++ supply true ++ works 5 0 ++ prepared 0x40 ++ erase 0x40 ++ works 3 3 ++ write 0x40 0xB0 ++ cycles 0x40 0x60 0x04 ++ (Write 0x1000003 0x03 ⟶ Refused refusal.Address) ∷ (Work 65536 ⟶ Refused refusal.WorkCount) ∷ write 0x40 0x90
    ++ shows 0x5 0x1204 ++ supply false ++ shows 0x5 0x1204)
    -- reset gives the default, whatever was stored
    ∷ plays BenchTop (bench 0xFFFF) (stores 0x0 0x0 ++ reset ++ has 0xBFCF)
    -- 03h sets no flag, whatever is stored: reserved bits one by one, other codes, supply on, a block that is unprotected; and leaves each flag that is set
    ∷ plays BenchBottom (bench 0xFFFF)
    (cycles 0x10 0x60 0x03 ++ cycles 0x20 0x60 0x03 ++ cycles 0x4000 0x60 0x03 ++ cycles 0x4 0x60 0x03 ++ cycles 0x5 0x60 0x03 ++ cycles 0x6 0x60 0x03 ++ cycles 0x7 0x60 0x03 ++ cycles 0x803 0x60 0x03
    ++ cycles 0x10000 0x60 0x03 ++ cycles 0xFFFFFF 0x60 0x03 ++ shows 0x0 0x80 ++ prepared 0x40 ++ cycles 0xC070 0x60 0x03 ++ shows 0x0 0x80)
    ∷ plays BenchBottom (bench 0xFFFF) (all_flags ++ cycles 0x4030 0x60 0x03 ++ shows 0x0 0xBA)
    -- so are length 000, 101 and 110, latency 001, and the combination that Table 11 does not support
    ∷ plays BenchBottom (bench 0xFFFF) (stores 0xBFC8 0xBFC8 ++ stores 0xBFCD 0xBFCD ++ stores 0xBFCE 0xBFCE ++ stores 0x8FCF 0x8FCF ++ stores 0x97CF 0x97CF)
    -- it leaves protection: of block 5, which is protected, and of block 4, which is not
    ∷ reports BenchBottom (bench 0xFFFF) (unprotect 0x40 ++ stores 0x8080 0x8080 ++ stores 0x8040 0x8040) 1 4
    -- it stores the same with supply on, in a block that is unprotected, and beside a suspended erase
    ∷ plays BenchBottom (bench 0xFFFF) (prepared 0x40 ++ stores 0xC070 0x8040 ++ erase 0x40 ++ write 0x40 0xB0 ++ stores 0x5432 0x1402)
    -- the register stays: 01h; 70h, 98h and FFh; 03h and other codes as a first cycle; a set-up that is ignored; a program, suspended, resumed and done; 50h; an erase that is refused
    ∷ leaves (protect 0x40) ∷ leaves (write 0x40 0x70) ∷ leaves (write 0x40 0x98) ∷ leaves (write 0x40 0xFF) ∷ leaves (write 0x40 0x03 ++ write 0x40 0x01 ++ write 0x40 0x00)
    ∷ leaves (prepared 0x40 ++ program 0x40 0x1234 ++ write 0x40 0x60 ++ write 0x40 0xB0 ++ write 0x40 0xD0 ++ works 1 1)
    ∷ leaves (all_flags ++ write 0x40 0x50)
    -- and through a load, confirmed and worked, and one that ends at a wrong cycle
    ∷ leaves (prepared 0x40 ++ write 0x40 0xE8 ++ write 0x40 0x1 ++ write 0x40 0x1111 ++ write 0x41 0x2222 ++ write 0x40 0xD0 ++ works 65535 2)
    ∷ leaves (write 0x40 0xE8 ++ write 0x40 0x20)
    -- it shows while something runs in its bank, and while a program or an erase is suspended
    ∷ leaves (prepared 0x40 ++ program 0x40 0x1234) ∷ leaves program_paused ∷ leaves erase_paused
    -- and where the block of its place is unprotected
    ∷ leaves (unprotect 0x0)
    -- reset gives the default with supply on, with a set-up pending, whatever runs or is suspended, and with flags set
    ∷ resets (supply true) ∷ resets (write 0x40 0x60) ∷ resets (prepared 0x40 ++ erase 0x40) ∷ resets program_paused ∷ resets erase_paused ∷ resets (erase 0x40)
    -- the default of the full parts is the same, and is well formed there
    ∷ starts (on_bench (power_up FullBottom)) (bench 0) (has 0xBFCF) ∷ starts (on_bench (power_up FullTop)) (bench 0) (has 0xBFCF)
    ∷ reports FullBottom (words 0 0) [] 0 259 ∷ reports FullTop (words 0 0) [] 0 259
    -- and so is what 03h stores
    ∷ starts (on_bench (configures FullBottom 0xFF5432)) (bench 0) (has 0x1402) ∷ starts (on_bench (configures FullTop 0xFF5432)) (bench 0) (has 0x1402)
    -- a state with a reserved bit set is not well formed, whatever the other bits are, and whatever is under way
    ∷ refused 0x4000 ++ refused 0x0020 ++ refused 0x0010 ++ refused 0xFFFF
    ++ bad (registered 0x4030) ∷ bad (registered 0xFFCF) ∷ bad (registered 0xBFEF) ∷ bad (registered 0xBFDF) ∷ bad (configured (power_up BenchTop) 0x4000)
    ∷ bad (working (running.Program 0x40 0x1234) 0x0010)
    ∷ bad (busy setup.Lock running.Idle suspended_program.Nothing (Some (suspended_erase 4 0)) 0x4000)
    -- with two of them set
    ∷ bad (registered 0x4020) ∷ bad (registered 0x4010) ∷ bad (registered 0x0030)
    -- each set-up, what runs, what is suspended
    ∷ bad (pends setup.Program 0x4000) ∷ bad (pends setup.Erase 0x4000) ∷ bad (pends setup.Lock 0x4000) ∷ bad (pends (setup.BufferCount 4) 0x4000) ∷ bad (pends (setup.BufferFirst 4 1) 0x4000)
    ∷ bad (pends (setup.BufferWords 0x40 1 0) 0x4000) ∷ bad (with_buffer (pends (setup.BufferWords 0x40 1 0) 0x4000) (0x1234 ∷ replicate 31 0)) ∷ bad (working (running.Erase 4 0) 0x4000) ∷ bad (working (running.Buffer 0x40 1 0) 0x4000)
    ∷ bad (waits (suspended_program.Program 0x40 0x1234) 0x4000) ∷ bad (waits (suspended_program.Buffer 0x40 1 0) 0x4000) ∷ bad (erase_waits 0x4000)
    -- supply on, each flag, a block unprotected, each mode of a bank; and on the full parts, by the report
    ∷ bad (with_supply (registered 0x4000) true) ∷ bad (with_flags (registered 0x4000) (flags_of true false false false)) ∷ bad (with_flags (registered 0x4000) (flags_of false true false false))
    ∷ bad (with_flags (registered 0x4000) (flags_of false false true false)) ∷ bad (with_flags (registered 0x4000) (flags_of false false false true))
    ∷ bad (with_protection (registered 0x4000) (0x11 ∷ replicate 4 0)) ∷ bad (in_mode Status) ∷ bad (in_mode Signature) ∷ bad (in_mode Query)
    ∷ unreported (configured (power_up FullBottom) 0x4000) refusal.Malformed ∷ unreported (configured (power_up FullTop) 0x4000) refusal.Malformed
    -- a state that is refused comes back as it was: refused 1, it is refused 2 still, or has its register still; refused 2, it has the register that it had, which shows where its bit 14 is taken off
    ∷ unreported (back1 (registered 0x4000)) refusal.Malformed ∷ starts (back1 (registered 0x8041)) (bench 0) (has 0x8041)
    ∷ starts (registered ((back (registered 0xC041)).control.configuration - 0x4000)) (bench 0) (has 0x8041)
    -- with any of the others it is
    ∷ allowed 0x0 ∷ allowed 0x1 ∷ allowed 0x2 ∷ allowed 0x4 ∷ allowed 0x8 ∷ allowed 0x40 ∷ allowed 0x80 ∷ allowed 0x100 ∷ allowed 0x200 ∷ allowed 0x400 ∷ allowed 0x800 ∷ allowed 0x1000
    ∷ allowed 0x2000 ∷ allowed 0x8000 ∷ allowed 0xBFCF ∷ counted (configured (power_up FullBottom) 0x8041) 0 259 ∷ counted (configured (power_up FullTop) 0x8041) 0 259
    ∷ starts (working (running.Program 0x40 0x1234) 0x8041) (bench 0xFFFF) (works 1 1 ++ has 0x8041)
    ∷ starts (erase_waits 0x8041) (bench 0) (has 0x8041) ∷ starts (waits (suspended_program.Program 0x40 0x1234) 0x8041) (bench 0) (has 0x8041) ∷ starts (with_supply (registered 0x8041) true) (bench 0) (has 0x8041)
    ∷ []
