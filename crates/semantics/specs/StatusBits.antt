-- The status word bit by bit, as it is checked against Table 9 of the data sheet: when each bit is 1, and what a line is. The word itself is defined in Reading, and the laws are in
-- proofs/StatusBits.
-- Assumes nothing.
use Rattle.std.specs.Prelude.{ℕ, zero, suc, ◌+◌, ◌^◌, Bool, false, not, cond, ◌&&◌, eqb}
use Rattle.geometry.specs.declared.Geometry.{Geometry}
use Rattle.geometry.specs.Blocks.{location, bank_of}
use Rattle.semantics.specs.declared.Activity.{Activity}
use Rattle.semantics.specs.declared.Flags.{Flags}
use Rattle.semantics.specs.declared.Mode.{Mode}
use Rattle.semantics.specs.declared.State.{State}
use Rattle.semantics.specs.State.{geometry, mode_of, runs, program_suspended, erase_suspended}
use Rattle.semantics.specs.Reading.{runs_in, bit_if, shown}

-- when SRi is 1, for a read in bank k: Table 9 (the card) in its order, with document 01's condition for each; false from 8 on
abbrev pub status_bit : Geometry → Activity → Flags → ℕ → ℕ → Bool
status_bit g a f k i =
    cond (eqb i 7) (not (runs a.running))
    (cond (eqb i 6) (erase_suspended a.erase)
    (cond (eqb i 5) f.sr5
    (cond (eqb i 4) f.sr4
    (cond (eqb i 3) f.sr3
    (cond (eqb i 2) (program_suspended a.program)
    (cond (eqb i 1) f.sr1
    (cond (eqb i 0) (runs a.running && not (runs_in g a.running k))
    false)))))))

-- line i, whose condition is c i: the weight of bit i, or 0
abbrev pub line : (ℕ → Bool) → ℕ → ℕ
line c i = bit_if (c i) (2 ^ i)

-- the sum of the lines below n, the highest first
abbrev pub lines : (ℕ → Bool) → ℕ → ℕ
lines c zero = 0
lines c (suc n) = line c n + lines c n

-- the bank of an address, and the mode that decides what a read there shows
abbrev pub bank_at : State → ℕ → ℕ
bank_at s address = bank_of (geometry s) (location (geometry s) address)

abbrev pub shown_at : State → ℕ → Mode
shown_at s address = shown (geometry s) s.control.activity.running (bank_at s address) (mode_of s (bank_at s address))
