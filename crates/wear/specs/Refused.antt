-- Which step may change a count, and what a step may make of the counts: what `only_work` and `one_count` (proofs/Refused) say.
-- Assumes nothing.
use Prim.Native.Nat.{ℕ, ◌+◌, ◌≤◌, ◌<◌}
use Rattle.std.specs.Prelude.{Bool, ◌≡◌}
use Rattle.std.proofs.Math.Bool.{true, false}
use Rattle.semantics.specs.declared.Step.{Step}
use Rattle.semantics.specs.declared.Step.TheVariants.{Read, Write, Work, Supply, Reset}
use Rattle.wear.specs.Counts.{Counts, count_of}

-- only work changes a count: no read, write, supply or reset does. "Reset keeps counts"
abbrev pub is_work : Step → Bool
is_work (Read address) = false
is_work (Write address w) = false
is_work (Work n) = true
is_work (Supply on) = false
is_work Reset = false

-- a step adds at most 1 to the count of one block, and leaves all others
pub record Moved (k m : Counts) : Type 0 where
  pub block : ℕ
  pub others : (b : ℕ) → b < 259 → (b ≡ block → ⊥) → count_of m b ≡ count_of k b
  pub below : count_of m block ≤ count_of k block + 1
  pub above : count_of k block ≤ 65535 → count_of k block ≤ count_of m block
