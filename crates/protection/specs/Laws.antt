-- Laws of the protection words: what a caller goes by, so that no caller looks into Words. It says nothing of when a block is protected.
-- Assumes nothing.
use Rattle.std.specs.Prelude.{ℕ, zero, suc, ◌/◌, ◌%◌, ◌<◌, ◌≤◌, Bool, true, false, cond, List, [], ◌∷◌, ◌⊎◌, ◌≢◌, ◌≡◌, refl, eqb, ltb, length, get_or, set}
use Rattle.std.proofs.Common.{inl, inr, sym, ap, ◌∙◌, arith, length-set, pow_pos, get_or-set_same, get_or-set_other, eq-eqb, ne_eqb, lt-ltb, le-ltb, ltb-true}
use Rattle.std.proofs.lemmas.List.{get_or-replicate}
use Rattle.std.proofs.Math.Seq.{set_out}
use Rattle.protection.specs.Words.{bit, bit_at, with_bit, is_unprotected, with_unprotected, Least, unprotected_count, lowest_unprotected, report_of, spare_zero, all_protected}
use Rattle.geometry.specs.Laws.{order}
use Rattle.protection.specs.Digits.{same, bit_lt, bit_none, with_same, with_other, with_lt, with_own, count_same, least_is, least_one, least_same}

-- ---- one block set or cleared

-- a number that is no block is not unprotected
pub no_block : (ws : List ℕ) (b : ℕ) → 259 ≤ b → is_unprotected ws b ≡ false
unfolding is_unprotected
no_block ws b h = rw (le-ltb b 259 h)

-- the length is kept
pub with_length : (ws : List ℕ) (b : ℕ) (v : Bool) → length (with_unprotected ws b v) ≡ length ws
unfolding with_unprotected
with_length ws b v = go (ltb b 259)
  where
    go : (t : Bool) → length (cond t (set ws (b / 64) (with_bit (get_or ws (b / 64) 0) (b % 64) v)) ws) ≡ length ws
    go true = simp length-set
    go false = refl

digit : (v : Bool) → eqb (cond v 1 0) 1 ≡ v
digit true = refl
digit false = refl

-- the block that is set or cleared
pub with_here : (ws : List ℕ) (b : ℕ) (v : Bool) → length ws ≡ 5 → b < 259 → is_unprotected (with_unprotected ws b v) b ≡ v
unfolding is_unprotected with_unprotected bit_at
with_here ws b v e h =
    let l : b / 64 < length ws = omega arith in
    rw (lt-ltb b 259 h)
    (ap (λ (x : ℕ). eqb x 1) (ap (λ (x : ℕ). bit x (b % 64)) (get_or-set_same ws (b / 64) (with_bit (get_or ws (b / 64) 0) (b % 64) v) 0 l) ∙ with_same (get_or ws (b / 64) 0) (b % 64) v)
    ∙ digit v)

-- each other digit of the words, whatever their number
pub bit_elsewhere : (ws : List ℕ) (b c : ℕ) (v : Bool) → c ≢ b → bit_at (with_unprotected ws b v) c ≡ bit_at ws c
unfolding bit_at with_unprotected
bit_elsewhere ws b c v n = pick (ltb b 259)
  where
    i : ℕ
    i = b / 64

    new : ℕ
    new = with_bit (get_or ws i 0) (b % 64) v

    at : List ℕ → ℕ
    at l = bit (get_or l (c / 64) 0) (c % 64)

    inside : i < length ws → (c / 64 ≡ i) ⊎ (c / 64 ≢ i) → at (set ws i new) ≡ at ws
    inside l (inl e) =
        let o : c % 64 ≢ b % 64 = λ q. n (omega arith) in
        rw e (ap (λ (x : ℕ). bit x (c % 64)) (get_or-set_same ws i new 0 l) ∙ with_other (get_or ws i 0) (b % 64) (c % 64) v o)
    inside l (inr e) = ap (λ (x : ℕ). bit x (c % 64)) (get_or-set_other ws i (c / 64) new 0 e)

    go : (i < length ws) ⊎ (length ws ≤ i) → at (set ws i new) ≡ at ws
    go (inl l) = inside l (same (c / 64) i)
    go (inr l) = ap at (set_out ws i new l)

    pick : (t : Bool) → at (cond t (set ws i new) ws) ≡ at ws
    pick true = go (order i (length ws))
    pick false = refl

-- every other block, whatever the words and the numbers
pub with_elsewhere : (ws : List ℕ) (b c : ℕ) (v : Bool) → c ≢ b → is_unprotected (with_unprotected ws b v) c ≡ is_unprotected ws c
unfolding is_unprotected
with_elsewhere ws b c v n = ap (λ (x : ℕ). cond (ltb c 259) (eqb x 1) false) (bit_elsewhere ws b c v n)

-- both laws in one
pub with_each : (ws : List ℕ) (b c : ℕ) (v : Bool) → length ws ≡ 5 → b < 259 → is_unprotected (with_unprotected ws b v) c ≡ cond (eqb c b) v (is_unprotected ws c)
with_each ws b c v e h = go (same c b)
  where
    go : (c ≡ b) ⊎ (c ≢ b) → is_unprotected (with_unprotected ws b v) c ≡ cond (eqb c b) v (is_unprotected ws c)
    go (inl q) = rw (eq-eqb c b q) (ap (is_unprotected (with_unprotected ws b v)) q ∙ with_here ws b v e h)
    go (inr q) = rw (ne_eqb c b q) (with_elsewhere ws b c v q)

-- ---- the spare digits, and power-up

-- the spare digits stay zero
pub with_spare : (ws : List ℕ) (b : ℕ) (v : Bool) → spare_zero ws ≡ true → spare_zero (with_unprotected ws b v) ≡ true
unfolding spare_zero with_unprotected
with_spare ws b v s = pick (order b 259)
  where
    i : ℕ
    i = b / 64

    new : ℕ
    new = with_bit (get_or ws i 0) (b % 64) v

    old : get_or ws 4 0 < 8
    old = ltb-true (get_or ws 4 0) 8 s

    put : b < 259 → (4 < length ws) ⊎ (length ws ≤ 4) → i ≡ 4 → get_or (set ws i new) 4 0 < 8
    put h (inl l) e =
        let k : b % 64 < 3 = omega arith in
        rw e (rw (get_or-set_same ws 4 (with_bit (get_or ws 4 0) (b % 64) v) 0 l) (with_lt 3 (get_or ws 4 0) (b % 64) v old k))
    put h (inr l) e = rw e (rw (set_out ws 4 (with_bit (get_or ws 4 0) (b % 64) v) l) old)

    go : b < 259 → (4 ≡ i) ⊎ (4 ≢ i) → get_or (set ws i new) 4 0 < 8
    go h (inl e) = put h (order 4 (length ws)) (sym e)
    go h (inr e) = rw (get_or-set_other ws i 4 new 0 e) old

    pick : (b < 259) ⊎ (259 ≤ b) → ltb (get_or (cond (ltb b 259) (set ws i new) ws) 4 0) 8 ≡ true
    pick (inl h) = rw (lt-ltb b 259 h) (lt-ltb (get_or (set ws i new) 4 0) 8 (go h (same 4 i)))
    pick (inr h) = rw (le-ltb b 259 h) s

-- power-up has five words
pub all_length : length all_protected ≡ 5
unfolding all_protected
all_length = refl

-- no block is unprotected at power-up
pub all_none : (b : ℕ) → is_unprotected all_protected b ≡ false
unfolding is_unprotected bit_at all_protected
all_none b = go (order b 259)
  where
    go : (b < 259) ⊎ (259 ≤ b) → is_unprotected all_protected b ≡ false
    go (inl h) =
        let d : b / 64 < 5 = omega arith in
        rw (lt-ltb b 259 h, get_or-replicate {A = ℕ} 5 (b / 64) 0 0 d, bit_none 0 (b % 64) (pow_pos (b % 64)))
    go (inr h) = no_block all_protected b h

-- the spare digits are zero at power-up
pub all_spare : spare_zero all_protected ≡ true
unfolding spare_zero all_protected
all_spare = refl

-- ---- the report

-- 1 for each unprotected block, and 0 for each other number
abbrev pub mark : List ℕ → ℕ → ℕ
mark ws b = cond (is_unprotected ws b) 1 0

-- a digit is 1 or 0
digit_of_lem : (x : ℕ) → x < 2 → x ≡ cond (eqb x 1) 1 0
digit_of_lem x l = go (same x 1)
  where
    go : (x ≡ 1) ⊎ (x ≢ 1) → x ≡ cond (eqb x 1) 1 0
    go (inl e) = rw (eq-eqb x 1 e) e
    go (inr e) = rw (ne_eqb x 1 e) (omega arith)

-- the digit of a block says whether it is unprotected
pub bit_block : (ws : List ℕ) (b : ℕ) → b < 259 → bit_at ws b ≡ mark ws b
unfolding is_unprotected bit_at
bit_block ws b h = rw (lt-ltb b 259 h) (digit_of_lem (bit (get_or ws (b / 64) 0) (b % 64)) (bit_lt (get_or ws (b / 64) 0) (b % 64)))

-- the lowest is the least unprotected block, or 259 where there is none
pub lowest_least : (ws : List ℕ) → Least 259 (mark ws) (lowest_unprotected ws)
unfolding lowest_unprotected
lowest_least ws = rw (least_same 259 (bit_at ws) (mark ws) (bit_block ws)) (least_is 259 (mark ws))

-- and no other number is
pub lowest_only : (ws : List ℕ) (m : ℕ) → Least 259 (mark ws) m → lowest_unprotected ws ≡ m
lowest_only ws m l = least_one 259 (mark ws) (lowest_unprotected ws) m (lowest_least ws) l

-- the report depends on nothing but which blocks are unprotected
pub report_same : (ws vs : List ℕ) → ((b : ℕ) → b < 259 → is_unprotected ws b ≡ is_unprotected vs b) → report_of ws ≡ report_of vs
unfolding report_of unprotected_count lowest_unprotected
report_same ws vs h = λ j. record { count = count_same 259 (bit_at ws) (bit_at vs) each j; lowest = least_same 259 (bit_at ws) (bit_at vs) each j }
  where
    each : (b : ℕ) → b < 259 → bit_at ws b ≡ bit_at vs b
    each b k = bit_block ws b k ∙ ap (λ (t : Bool). cond t 1 0) (h b k) ∙ sym (bit_block vs b k)

-- a block that is given the protection that it has: nothing changes
pub with_own_block : (ws : List ℕ) (b : ℕ) → with_unprotected ws b (is_unprotected ws b) ≡ ws
unfolding is_unprotected with_unprotected bit_at
with_own_block ws b = go (ltb b 259)
  where
    i : ℕ
    i = b / 64

    put : (l : List ℕ) (k : ℕ) → set l k (get_or l k 0) ≡ l
    put [] k = refl
    put (x ∷ l) zero = refl
    put (x ∷ l) (suc k) = ap (λ (t : List ℕ). x ∷ t) (put l k)

    go : (t : Bool) → cond t (set ws i (with_bit (get_or ws i 0) (b % 64) (cond t (eqb (bit (get_or ws i 0) (b % 64)) 1) false))) ws ≡ ws
    go true = ap (set ws i) (with_own (get_or ws i 0) (b % 64) (eqb (bit (get_or ws i 0) (b % 64)) 1) (digit_of_lem (bit (get_or ws i 0) (b % 64)) (bit_lt (get_or ws i 0) (b % 64)))) ∙ put ws i
    go false = refl
