-- The reserved bits of the configuration register. Document 02, item 4: "Chips on the rack show BFCFh after reset where we show FFFFh, because bits 14, 5 and 4 of the configuration register are
-- reserved." Definitions only; the laws are in RegisterBits.
-- Assumes nothing.
use Rattle.std.specs.Prelude.{ℕ, Bool, ◌&&◌, ◌||◌, eqb}
use Rattle.std.specs.Int.Bits.{bit_and}
use Rattle.protection.specs.Words.{bit}

-- bit i is reserved: "bits 14, 5 and 4" (CR14, CR5 and CR4 of Table 11). All others are stored as written, and so are codes of them that Table 11 reserves or does not name
unfoldable pub is_reserved : ℕ → Bool
is_reserved i = eqb i 14 || (eqb i 5 || eqb i 4)

-- a 1 for each of the sixteen bits that is not reserved
abbrev pub register_mask : ℕ
register_mask = 0xBFCF

-- "03h stores those bits as 0": a word with them at 0, and its other 13 bits
unfoldable pub without_reserved : ℕ → ℕ
without_reserved w = bit_and w register_mask

-- "and a well made state has them 0"
unfoldable pub reserved_zero : ℕ → Bool
reserved_zero w = eqb (bit w 14) 0 && (eqb (bit w 5) 0 && eqb (bit w 4) 0)
