-- The erase counts of the blocks (document 02, item 6: wear counts): where each stands, when one is added, and the most worn block. Definitions only; the laws are in Places
-- and Most.
-- Assumes nothing.
use Rattle.std.specs.Prelude.{ℕ, zero, suc, ◌+◌, ◌-◌, ◌/◌, ◌%◌, min, max, Bool, cond, List, [], eqb, ltb, get_or, set, replicate}
use Rattle.protection.specs.Words.{least}
use Rattle.semantics.specs.declared.Running.{Running}
use Rattle.semantics.specs.declared.Running.TheVariants as running
use Rattle.semantics.specs.State.{runs}

-- ---- where the counts stand

-- "held as sixteen rows of sixteen main-size places, the four small blocks being counted one by one apart, since they share one place": the rows, and the small blocks' counts
pub record Counts : Type 0 where
  pub main : List (List ℕ)
  pub small : List ℕ

-- counts in lent memory
abbrev pub lent : List (List ℕ) → List ℕ → Counts
lent m l = record { main = m; small = l }

-- row and place of a block that is not small, by its number; a row is a bank. (Blocks 0 to 3 share the first place of row 0.)
unfoldable pub row_of : ℕ → ℕ
row_of b = (b - 3) / 16

unfoldable pub place_in : ℕ → ℕ
place_in b = (b - 3) % 16

-- what stands at a place of a row
unfoldable pub count_at : List (List ℕ) → ℕ → ℕ → ℕ
count_at m i j = get_or (get_or m i []) j 0

-- the count of block b; 0 of a number that is no block
unfoldable pub count_of : Counts → ℕ → ℕ
count_of k b = cond (ltb b 4) (get_or k.small b 0) (cond (ltb b 259) (count_at k.main (row_of b) (place_in b)) 0)

-- "also when the shared place is not 0": whether it is 0
unfoldable pub shared_zero : List (List ℕ) → Bool
shared_zero m = eqb (count_at m 0 0) 0

-- "power-up starts them at 0"
unfoldable pub no_counts : Counts
no_counts = lent (replicate 16 (replicate 16 0)) (replicate 4 0)

-- ---- one more

-- the rows with x at a place of a row, and the counts with x for block b; the same counts where b is no block
unfoldable pub put_at : List (List ℕ) → ℕ → ℕ → ℕ → List (List ℕ)
put_at m i j x = set m i (set (get_or m i []) j x)

unfoldable pub with_count : Counts → ℕ → ℕ → Counts
with_count k b x = cond (ltb b 4) (lent k.main (set k.small b x)) (cond (ltb b 259) (lent (put_at k.main (row_of b) (place_in b) x) k.small) k)

-- one erase of block b more: "the lesser of 65,535 and the number"
unfoldable pub one_more : Counts → ℕ → Counts
one_more k b = with_count k b (min 65535 (count_of k b + 1))

-- "the finished erases of each block": the counts after work, where r ran before it and t runs after it. An erase that ran and runs no more has its last word done
unfoldable pub counts_after : Running → Running → Counts → Counts
counts_after running.Idle t k = k
counts_after (running.Program l w) t k = k
counts_after (running.Erase b done) t k = cond (runs t) k (one_more k b)
counts_after (running.Buffer l n done) t k = k

-- ---- the most worn block

-- the greatest of f at the numbers below n
unfoldable pub greatest : ℕ → (ℕ → ℕ) → ℕ
greatest zero f = 0
greatest (suc n) f = max (f 0) (greatest n (λ i. f (suc i)))

-- "the most worn block, the lowest number on a tie": the least number whose count is the greatest
unfoldable pub most_worn : Counts → ℕ
most_worn k = let n : ℕ = greatest 259 (count_of k) in least 259 (λ b. cond (eqb (count_of k b) n) 1 0)
