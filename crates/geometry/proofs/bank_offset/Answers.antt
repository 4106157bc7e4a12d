-- `geometry::bank_offset` meets its contract: a location is not below the start of its bank, also past the array.
-- Assumes nothing.
use native.Mathlib.Omega.{arith}
use Prim.Native.Nat.{ℕ, ◌≤◌}
use Rattle.geometry.specs.Blocks.{geometry_of, bank_offset}
use Rattle.geometry.specs.Laws as laws
use Rattle.geometry.specs.declared.Part.{Part}
use Rattle.geometry.proofs.bank_offset.Goals as goal

pub overflow_sub-result : goal.overflow_sub-result
overflow_sub-result c =
    let p : Part = c.args.part in
    let l : ℕ = c.args.location in
    let h : c.bank_start.result ≤ l = rw (c.bank_start.ensures.value, c.bank_of.ensures.value) (laws.bank_start_le (geometry_of p) (laws.sound p) l) in
    omega arith

pub returns : goal.returns
unfolding bank_offset
returns c = rw (c.bank_start.ensures.value, c.bank_of.ensures.value)
