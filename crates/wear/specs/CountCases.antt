-- Cases of the counts alone (document 02, item 6): where each block's count stands, one erase more, the counts after work, and the finished erases of a journal.
-- The checker computes them: a rule that is written down wrong makes a case fail.
-- Assumes nothing.
use Rattle.std.specs.Prelude.{ℕ, zero, suc, ◌+◌, ◌-◌, true, false, List, [], ◌∷◌, ◌++◌, map, ◌≡◌, refl, replicate}
use Rattle.semantics.specs.declared.Running.{Running}
use Rattle.semantics.specs.declared.Running.TheVariants as running
use Rattle.semantics.specs.Entries.{Entry, entry, running, suspended, finished, was_broken_off}
use Rattle.semantics.specs.Recorder.{Operation, program, erase, buffer}
use Rattle.wear.specs.Counts.{Counts, lent, row_of, place_in, count_at, count_of, shared_zero, no_counts, put_at, with_count, one_more, counts_after}
use Rattle.wear.specs.Claim.{finished_erases}

-- ---- counts, written out

-- the n numbers from x on, and n rows of sixteen of them
abbrev pub up : ℕ → ℕ → List ℕ
up zero x = []
up (suc n) x = x ∷ up n (suc x)

abbrev pub rows : ℕ → ℕ → List (List ℕ)
rows zero x = []
rows (suc n) x = up 16 x ∷ rows n (x + 16)

-- counts that all differ: block 0 has 501, 1 has 502, 2 has 503, 3 has 504, and from block 4 on b has 1000 + b. The shared place has 7, which is no block's
abbrev pub spread : Counts
spread = lent ((7 ∷ up 15 1004) ∷ rows 15 1019) (501 ∷ 502 ∷ 503 ∷ 504 ∷ [])

-- x at place j of row i, and 0 at all others; and with nothing in the rows, the four of the small blocks
abbrev pub line : ℕ → ℕ → List ℕ
line j x = replicate j 0 ++ x ∷ replicate (15 - j) 0

abbrev pub at : ℕ → ℕ → ℕ → Counts
at i j x = lent (replicate i (replicate 16 0) ++ line j x ∷ replicate (15 - i) (replicate 16 0)) (0 ∷ 0 ∷ 0 ∷ 0 ∷ [])

abbrev pub smalls : ℕ → ℕ → ℕ → ℕ → Counts
smalls a b c d = lent (replicate 16 (replicate 16 0)) (a ∷ b ∷ c ∷ d ∷ [])

-- ---- "the finished erases of each block, held as sixteen rows of sixteen main-size places, the four small blocks being counted one by one apart"

-- the count of each block, and of numbers that are no block
pub counts_hold : (map (count_of spread) (up 259 0) ≡ 501 ∷ 502 ∷ 503 ∷ 504 ∷ up 255 1004)
    × (map (count_of spread) (259 ∷ 260 ∷ 1000 ∷ 65536 ∷ []) ≡ 0 ∷ 0 ∷ 0 ∷ 0 ∷ [])
unfolding row_of place_in count_at count_of
counts_hold = (refl, refl)

-- row and place of the first and the last block of a row
pub places_hold : (map row_of (4 ∷ 18 ∷ 19 ∷ 34 ∷ 35 ∷ 258 ∷ []) ≡ 0 ∷ 0 ∷ 1 ∷ 1 ∷ 2 ∷ 15 ∷ []) × (map place_in (4 ∷ 18 ∷ 19 ∷ 34 ∷ 35 ∷ 258 ∷ []) ≡ 1 ∷ 15 ∷ 0 ∷ 15 ∷ 0 ∷ 15 ∷ [])
unfolding row_of place_in
places_hold = (refl, refl)

infix 20 ◌⟶◌
-- a number, and counts: those after the number's count was put, or before one was added
pub data Put : Type 0 where
  ◌⟶◌ : ℕ → Counts → Put

abbrev pub put : Counts → ℕ → Put → Counts
put k x (b ⟶ m) = with_count k b x

abbrev pub expected : Put → Counts
expected (b ⟶ m) = m

abbrev pub puts : List Put
puts =
    (0 ⟶ smalls 9 0 0 0) ∷ (1 ⟶ smalls 0 9 0 0) ∷ (2 ⟶ smalls 0 0 9 0) ∷ (3 ⟶ smalls 0 0 0 9)
    ∷ (4 ⟶ at 0 1 9) ∷ (5 ⟶ at 0 2 9) ∷ (17 ⟶ at 0 14 9) ∷ (18 ⟶ at 0 15 9)
    ∷ (19 ⟶ at 1 0 9) ∷ (20 ⟶ at 1 1 9) ∷ (34 ⟶ at 1 15 9) ∷ (35 ⟶ at 2 0 9) ∷ (36 ⟶ at 2 1 9)
    ∷ (243 ⟶ at 15 0 9) ∷ (257 ⟶ at 15 14 9) ∷ (258 ⟶ at 15 15 9)
    -- a number that is no block has no place
    ∷ (259 ⟶ smalls 0 0 0 0) ∷ (260 ⟶ smalls 0 0 0 0) ∷ (1000 ⟶ smalls 0 0 0 0)
    ∷ []

-- "power-up starts them at 0", and from there each block's count in its place
pub puts_hold : (no_counts ≡ smalls 0 0 0 0) × (map (put no_counts 9) puts ≡ map expected puts)
unfolding row_of place_in no_counts put_at with_count
puts_hold = (refl, refl)

-- each block's count put, from the first on and from the last: every place but the shared one is one block's
abbrev filled : List ℕ → Counts → Counts
filled [] k = k
filled (b ∷ l) k = filled l (with_count k b (b + 1000))

abbrev down : ℕ → List ℕ
down zero = []
down (suc n) = n ∷ down n

pub filled_hold : (filled (up 262 0) no_counts ≡ lent ((0 ∷ up 15 1004) ∷ rows 15 1019) (up 4 1000)) × (filled (down 262) spread ≡ lent ((7 ∷ up 15 1004) ∷ rows 15 1019) (up 4 1000))
unfolding row_of place_in no_counts put_at with_count
filled_hold = (refl, refl)

-- one count put among counts that all differ: the others stay
pub put_hold : map (λ b. with_count spread b 9) (2 ∷ 4 ∷ 20 ∷ 258 ∷ 259 ∷ [])
    ≡ lent spread.main (501 ∷ 502 ∷ 9 ∷ 504 ∷ [])
    ∷ lent ((7 ∷ 9 ∷ up 14 1005) ∷ rows 15 1019) spread.small
    ∷ lent ((7 ∷ up 15 1004) ∷ (1019 ∷ 9 ∷ up 14 1021) ∷ rows 14 1035) spread.small
    ∷ lent ((7 ∷ up 15 1004) ∷ rows 14 1019 ++ (up 15 1243 ++ 9 ∷ []) ∷ []) spread.small
    ∷ spread ∷ []
unfolding row_of place_in put_at with_count
put_hold = refl

-- "when the shared place is not 0": 0, several numbers and 65,535 there; and 0 there with each neighbour and the rest not 0
pub shared_hold : (map (λ n. shared_zero (at 0 0 n).main) (0 ∷ 1 ∷ 2 ∷ 3 ∷ 16 ∷ 255 ∷ 256 ∷ 32768 ∷ 65534 ∷ 65535 ∷ []) ≡ true ∷ replicate 9 false)
    × (map (λ k. shared_zero k.main) (no_counts ∷ spread ∷ at 0 1 1 ∷ at 1 0 1 ∷ at 1 1 1 ∷ smalls 1 1 1 1 ∷ lent ((0 ∷ up 15 1004) ∷ rows 15 1019) (up 4 501) ∷ [])
    ≡ true ∷ false ∷ true ∷ true ∷ true ∷ true ∷ true ∷ [])
unfolding count_at shared_zero no_counts
shared_hold = (refl, refl)

-- ---- "the lesser of 65,535 and the number": one erase more

abbrev more : Put → Counts
more (b ⟶ k) = one_more k b

pub more_hold : map more
    ((0 ⟶ no_counts) ∷ (3 ⟶ smalls 1 2 3 4) ∷ (4 ⟶ at 0 1 1) ∷ (19 ⟶ at 1 0 255)
    ∷ (258 ⟶ at 15 15 65533) ∷ (258 ⟶ at 15 15 65534) ∷ (258 ⟶ at 15 15 65535) ∷ (2 ⟶ smalls 0 0 65534 0) ∷ (2 ⟶ smalls 0 0 65535 0)
    ∷ (5 ⟶ at 0 1 65535)
    ∷ (259 ⟶ spread) ∷ (1000 ⟶ spread) ∷ (34 ⟶ spread) ∷ [])
    ≡ smalls 1 0 0 0 ∷ smalls 1 2 3 5 ∷ at 0 1 2 ∷ at 1 0 256
    -- block 258 at 65,534 goes to 65,535, and stays there
    ∷ at 15 15 65534 ∷ at 15 15 65535 ∷ at 15 15 65535 ∷ smalls 0 0 65535 0 ∷ smalls 0 0 65535 0
    -- a full count keeps no other from its first
    ∷ lent ((0 ∷ 65535 ∷ 1 ∷ replicate 13 0) ∷ replicate 15 (replicate 16 0)) (replicate 4 0)
    ∷ spread ∷ spread
    ∷ lent ((7 ∷ up 15 1004) ∷ (up 15 1019 ++ 1035 ∷ []) ∷ rows 14 1035) spread.small ∷ []
unfolding row_of place_in count_at count_of no_counts put_at with_count one_more
more_hold = refl

-- ---- after work: what ran before it, and what runs after it

pub data Ran : Type 0 where
  ran : Running → Running → Counts → Ran

abbrev counted : Counts → Ran → Counts
counted k (ran r t m) = counts_after r t k

abbrev told : Ran → Counts
told (ran r t m) = m

abbrev pub rans : List Ran
rans =
    -- an erase that runs no more is counted, for its block alone
    ran (running.Erase 0 0) running.Idle (smalls 1 0 0 0) ∷ ran (running.Erase 3 15) running.Idle (smalls 0 0 0 1)
    ∷ ran (running.Erase 4 63) running.Idle (at 0 1 1) ∷ ran (running.Erase 19 0) running.Idle (at 1 0 1) ∷ ran (running.Erase 258 65535) running.Idle (at 15 15 1)
    -- one that runs on is not, be it one word before its end or with nothing done
    ∷ ran (running.Erase 0 0) (running.Erase 0 15) (smalls 0 0 0 0) ∷ ran (running.Erase 4 10) (running.Erase 4 63) (smalls 0 0 0 0) ∷ ran (running.Erase 258 0) (running.Erase 258 0) (smalls 0 0 0 0)
    ∷ []

-- nothing, a program and a buffer program count for no block, finished or not, and no count is lost
abbrev pub uncounted : List Ran
uncounted =
    ran running.Idle running.Idle spread ∷ ran (running.Program 4 19) running.Idle spread ∷ ran (running.Program 4 19) (running.Program 4 19) spread ∷ ran (running.Buffer 4 2 1) running.Idle spread
    ∷ ran (running.Buffer 4 2 0) (running.Buffer 4 2 1) spread ∷ ran (running.Erase 4 10) (running.Erase 4 63) spread ∷ []

pub after_hold : (map (counted no_counts) rans ≡ map told rans) × (map (counted spread) uncounted ≡ map told uncounted)
unfolding row_of place_in count_at count_of no_counts put_at with_count one_more counts_after
after_hold = (refl, refl)

-- ---- "the number of finished erases of that block in the journal"

abbrev journal : List (Entry Operation)
journal =
    entry (erase 4) 10 running ∷ entry (erase 4) 63 was_broken_off ∷ entry (erase 4) 64 finished ∷ entry (program 4 0x1234) 1 finished ∷ entry (buffer 4 (1 ∷ 2 ∷ [])) 2 finished
    ∷ entry (erase 19) 64 finished ∷ entry (erase 4) 64 finished ∷ entry (erase 0) 16 finished ∷ entry (erase 5) 3 was_broken_off ∷ entry (program 5 5) 0 suspended ∷ entry (buffer 5 (5 ∷ [])) 0 was_broken_off
    ∷ entry (erase 258) 64 finished ∷ entry (erase 4) 64 finished ∷ entry (erase 5) 63 suspended ∷ []

-- in a journal of several, and in those of one entry
pub finished_hold : (map (λ b. finished_erases b journal) (0 ∷ 1 ∷ 3 ∷ 4 ∷ 5 ∷ 18 ∷ 19 ∷ 20 ∷ 258 ∷ 259 ∷ []) ≡ 1 ∷ 0 ∷ 0 ∷ 3 ∷ 0 ∷ 0 ∷ 1 ∷ 0 ∷ 1 ∷ 0 ∷ [])
    × (map (λ e. finished_erases 4 (e ∷ []))
    (entry (erase 4) 64 running ∷ entry (erase 4) 64 suspended ∷ entry (erase 4) 64 was_broken_off ∷ entry (erase 4) 64 finished ∷ entry (erase 4) 0 finished ∷ entry (erase 5) 64 finished
    ∷ entry (program 4 4) 1 finished ∷ entry (buffer 4 (4 ∷ [])) 1 finished ∷ [])
    ≡ 0 ∷ 0 ∷ 0 ∷ 1 ∷ 1 ∷ 0 ∷ 0 ∷ 0 ∷ [])
    × (finished_erases 4 [] ≡ 0)
finished_hold = (refl, refl, refl)
