-- The number of a part of a line, by its place in the line.
-- Assumes nothing.
use Rattle.std.specs.Prelude.{ℕ, zero, suc, ◌-◌, ◌&&◌, ◌≤◌, cond, List, ◌≡◌, refl, length, get_or, take, drop, Some, None}
use Rattle.std.proofs.Common.{arith}
use Rattle.std.proofs.lemmas.Grind.{common_steps}
use Rattle.semantics.specs.declared.Step.TheVariants.{Read, Write, Work}
use Rattle.line.specs.Forms.{digits, number, hex_digits, hex_number, decimal_digits, decimal_number, begins, is_read, is_write, is_work, is_supply, is_reset, step_of_line}
use Rattle.line.specs.Numbers.{number_of}

module _ (base : ℕ) (xs : List ℕ) (at k : ℕ) where
  part : (n : ℕ) → n ≤ length (take k (drop at xs))
      → (digits base (take k (drop at xs)) 0 n ≡ digits base xs at n) × (number base (take k (drop at xs)) 0 n ≡ number base xs at n)
  unfolding digits number
  part zero h = (refl, refl)
  part (suc n) h = grind (arith, common_steps, part n)

  pub number_part : (n : ℕ) → n ≡ length (take k (drop at xs))
      → number_of base (take k (drop at xs)) ≡ cond (digits base xs at n) (Some (number base xs at n)) None
  unfolding number_of
  number_part n e = grind (arith, common_steps, part n)

-- ---- the step of a line, by its letter

module _ (xs : List ℕ) (space : get_or xs 1 0 ≡ 32) where
  pub read : get_or xs 0 0 ≡ 82 → length xs ≡ 8 → step_of_line xs ≡ cond (hex_digits xs 2 6) (Some (Read (hex_number xs 2 6))) None
  unfolding step_of_line is_read is_write is_work is_supply is_reset begins
  read b n = grind arith

  pub write : get_or xs 0 0 ≡ 87 → length xs ≡ 13 → get_or xs 8 0 ≡ 32
      → step_of_line xs ≡ cond (hex_digits xs 2 6 && hex_digits xs 9 4) (Some (Write (hex_number xs 2 6) (hex_number xs 9 4))) None
  unfolding step_of_line is_read is_write is_work is_supply is_reset begins
  write b n s = grind arith

  pub work : get_or xs 0 0 ≡ 75 → 3 ≤ length xs → length xs ≤ 7 → (get_or xs 2 0 ≡ 48 → length xs ≡ 3)
      → step_of_line xs ≡ cond (decimal_digits xs 2 (length xs - 2)) (Some (Work (decimal_number xs 2 (length xs - 2)))) None
  unfolding step_of_line is_read is_write is_work is_supply is_reset begins
  work b m n z = grind arith
