-- What five words say of the 259 blocks, and what it is to protect or unprotect one. Definitions only; the laws are in Laws.
-- Document 01's words: a block is open where it is unprotected, shut where it is protected. Nothing here says when either happens.
-- Assumes nothing.
use Rattle.std.specs.Prelude.{ℕ, zero, suc, ◌+◌, ◌/◌, ◌%◌, ◌^◌, ◌<◌, ◌≤◌, Bool, true, false, cond, List, ◌≢◌, ◌≡◌, eqb, ltb, get_or, set, replicate}
use Rattle.std.specs.Int.Bits.{bit_or, bit_xor}
use Rattle.protection.specs.declared.Report.{Report}

-- digit i of a word
unfoldable pub bit : ℕ → ℕ → ℕ
bit w i = w / 2 ^ i % 2

-- digit b of the words, which is 1 where block b is unprotected
unfoldable pub bit_at : List ℕ → ℕ → ℕ
bit_at ws b = bit (get_or ws (b / 64) 0) (b % 64)

-- whether block b is unprotected (document 01: open); a number that is no block never is
unfoldable pub is_unprotected : List ℕ → ℕ → Bool
is_unprotected ws b = cond (ltb b 259) (eqb (bit_at ws b) 1) false

-- a word with its digit k at 1, or at 0
abbrev pub with_bit : ℕ → ℕ → Bool → ℕ
with_bit w k true = bit_or w (2 ^ k)
with_bit w k false = bit_xor (bit_or w (2 ^ k)) (2 ^ k)

-- the words with block b unprotected (document 01: opened), or protected (shut); the same words where b is no block
unfoldable pub with_unprotected : List ℕ → ℕ → Bool → List ℕ
with_unprotected ws b v = cond (ltb b 259) (set ws (b / 64) (with_bit (get_or ws (b / 64) 0) (b % 64) v)) ws

-- how many of the numbers below n have f at 1, where f is 0 or 1
unfoldable pub count : ℕ → (ℕ → ℕ) → ℕ
count zero f = zero
count (suc n) f = f 0 + count n (λ i. f (suc i))

-- the least number below n at which f is not 0, or n
unfoldable pub least : ℕ → (ℕ → ℕ) → ℕ
least zero f = zero
least (suc n) f = cond (eqb (f 0) 0) (suc (least n (λ i. f (suc i)))) 0

-- what it is to be the least number below n at which f is not 0, or n
pub record Least (n : ℕ) (f : ℕ → ℕ) (m : ℕ) : Type 0 where
  pub within : m ≤ n
  pub below : (i : ℕ) → i < m → f i ≡ 0
  pub here : m < n → f m ≢ 0

-- how many blocks are unprotected
unfoldable pub unprotected_count : List ℕ → ℕ
unprotected_count ws = count 259 (bit_at ws)

-- the lowest unprotected block, or 259
unfoldable pub lowest_unprotected : List ℕ → ℕ
lowest_unprotected ws = least 259 (bit_at ws)

-- the report of unprotected blocks (document 01: "The open report gives how many blocks are open and the lowest open one, 259 if none.")
unfoldable pub report_of : List ℕ → Report
report_of ws = record { count = unprotected_count ws; lowest = lowest_unprotected ws }

-- whether the digits after block 258 are zero (document 01: "spare storage, if any, is zero"); those of words past the fifth are not asked
unfoldable pub spare_zero : List ℕ → Bool
spare_zero ws = ltb (get_or ws 4 0) 8

-- the words with those digits at zero
abbrev pub without_spare : List ℕ → List ℕ
without_spare ws = set ws 4 (get_or ws 4 0 % 8)

-- the words that protect every block
unfoldable pub all_protected : List ℕ
all_protected = replicate 5 0
