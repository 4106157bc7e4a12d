-- What an address names, and what a read or a write there sees of a state. Of the modes and the protection a write changes
-- those there and no others. What a write makes of the buffer is said apart (Writing, `loaded`).
-- Assumes nothing.
use Rattle.std.specs.Prelude.{ℕ, Bool, set}
use Rattle.geometry.specs.declared.Geometry.{Geometry}
use Rattle.geometry.specs.Blocks.{location, block_of, bank_of}
use Rattle.protection.specs.Words.{is_unprotected, with_unprotected}
use Rattle.semantics.specs.declared.Mode.{Mode}
use Rattle.semantics.specs.declared.Activity.{Activity}
use Rattle.semantics.specs.declared.Flags.{Flags}
use Rattle.semantics.specs.declared.Control.{Control}
use Rattle.semantics.specs.declared.State.{State}
use Rattle.semantics.specs.declared.Place.{Place}
use Rattle.semantics.specs.declared.View.{View}
use Rattle.semantics.specs.State.{mode_of, joined, set_activity, set_flags, set_configuration, set_supply}

-- an address's location, and the bank and the block that this lies in
abbrev pub place_of : Geometry → ℕ → Place
place_of g a = record { address = a; location = location g a; bank = bank_of g (location g a); block = block_of g (location g a) }

-- of the modes that of the addressed bank, of the protection that of the addressed block, and all else but the part and the buffer
abbrev pub view_at : State → Place → View
view_at s p = record { mode = mode_of s p.bank; unprotected = is_unprotected s.unprotected p.block; control = s.control }

-- the state with that changed
abbrev pub with_view : State → Place → View → State
with_view s p v = record {
  part = s.part;
  banks = set s.banks p.bank (record { mode = v.mode });
  unprotected = with_unprotected s.unprotected p.block v.unprotected;
  control = v.control;
  buffer = s.buffer;
}

-- ---- one field changed

abbrev pub with_control : View → Control → View
with_control v x = record { mode = v.mode; unprotected = v.unprotected; control = x }

abbrev pub with_mode : View → Mode → View
with_mode v x = record { mode = x; unprotected = v.unprotected; control = v.control }

abbrev pub with_protection : View → Bool → View
with_protection v x = record { mode = v.mode; unprotected = x; control = v.control }

abbrev pub with_activity : View → Activity → View
with_activity v x = with_control v (set_activity v.control x)

abbrev pub with_flags : View → Flags → View
with_flags v x = with_control v (set_flags v.control x)

abbrev pub with_configuration : View → ℕ → View
with_configuration v x = with_control v (set_configuration v.control x)

abbrev pub with_supply : View → Bool → View
with_supply v x = with_control v (set_supply v.control x)

-- flags set beside those that were
abbrev pub raise : View → Flags → View
raise v f = with_flags v (joined v.control.flags f)
