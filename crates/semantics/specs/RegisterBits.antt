-- Where the configuration register is read, and which cycle writes it. The laws are in proofs/RegisterBits.
-- Assumes nothing.
use Rattle.std.specs.Prelude.{ℕ, ◌%◌, Bool, true, false, ◌≡◌}
use Rattle.geometry.specs.Blocks.{location, bank_offset}
use Rattle.semantics.specs.declared.LockCommand.{LockCommand}
use Rattle.semantics.specs.declared.LockCommand.TheVariants as lock
use Rattle.semantics.specs.declared.Mode.TheVariants.{Signature}
use Rattle.semantics.specs.declared.State.{State}
use Rattle.semantics.specs.declared.Setup.{Setup}
use Rattle.semantics.specs.declared.Setup.TheVariants as setup
use Rattle.semantics.specs.State.{geometry, mode_of}
use Rattle.semantics.specs.StatusBits.{bank_at}
use Rattle.semantics.specs.Writing.{lock_command_of}

-- a read at the address shows it: its bank is in signature mode, and the address is at the bank's offset 5
pub record ShowsRegister (s : State) (a : ℕ) : Type 0 where
  pub mode : mode_of s (bank_at s a) ≡ Signature
  pub offset : bank_offset (geometry s) (location (geometry s) a) ≡ 5

-- the command is 03h
abbrev pub is_configure : LockCommand → Bool
is_configure lock.Protect = false
is_configure lock.Unprotect = false
is_configure lock.Configure = true
is_configure lock.Unknown = false

-- the cycle of a word w is 03h after a lock set-up
abbrev pub configures : Setup → ℕ → Bool
configures setup.Nothing w = false
configures setup.Program w = false
configures setup.Erase w = false
configures setup.Lock w = is_configure (lock_command_of (w % 256))
configures (setup.BufferCount b) w = false
configures (setup.BufferFirst b n) w = false
configures (setup.BufferWords l n due) w = false
