-- What `report_of` finds as it goes through the words, one after the other, after the spare digits are dropped. No other proof uses it.
-- Assumes nothing.
use Prim.Native.Nat.{ℕ, suc, ◌+◌, ◌-◌, ◌*◌, ◌/◌, ◌%◌, ◌^◌, ◌<◌, ◌≤◌}
use mathlib.Core.List.{List, [], ◌∷◌}
use mathlib.Core.Logic.{◌⊎◌, inl, inr, ◌≢◌}
use mathlib.Core.Path.{◌≡◌, sym, ap, ap₂, ◌∙◌, subst, refl}
use native.Mathlib.Nat.{lt_of_lt_of_le, mod-lt}
use native.Mathlib.Omega.{arith}
use lib.Count.{ones, ones-le, count_trailing_zeros}
use lib.Dec.{lit<}
use Rattle.std.specs.List.{sum_by}
use Rattle.std.proofs.lemmas.List.Sums.{sum_by-cons}
use lib.ListN.{length, get_or, length-set, get_or-eq_default}
use lib.Pow.{pow_pos, pow_mono}
use lib.Seq.{get_or-set_same, get_or-set_other}
use Rattle.protection.specs.Words.{bit, bit_at, count, least, Least, without_spare}
use Rattle.geometry.specs.Laws.{order}
use Rattle.protection.specs.Digits.{same, bit_none, bit_low, count_same, count_add, count_none, ones_count, least_is, least_one, least_stays, least_goes, zeros_least, digits_same}

-- digit i of word j
bit_at_lem : (ws : List ℕ) (j i : ℕ) → i < 64 → bit_at ws (64 * j + i) ≡ bit (get_or ws j 0) i
unfolding bit_at
bit_at_lem ws j i h =
    let d : (64 * j + i) / 64 ≡ j = omega arith in
    let m : (64 * j + i) % 64 ≡ i = omega arith in
    ap₂ (λ (x y : ℕ). bit (get_or ws x 0) y) d m

-- one word more is counted
pub count_word : (ws : List ℕ) (j : ℕ) → get_or ws j 0 < 2 ^ 64 → count (64 * j + 64) (bit_at ws) ≡ count (64 * j) (bit_at ws) + ones (get_or ws j 0)
count_word ws j h =
    count_add (64 * j) 64 (bit_at ws)
    ∙ ap (λ (x : ℕ). count (64 * j) (bit_at ws) + x) (count_same 64 (λ i. bit_at ws (64 * j + i)) (bit (get_or ws j 0)) (bit_at_lem ws j) ∙ sym (ones_count 64 (get_or ws j 0) h))

-- one word more is looked at
pub least_word : (ws : List ℕ) (j m : ℕ) → Least (64 * j) (bit_at ws) m → m ≡ 64 * j → Least (64 * j + 64) (bit_at ws) (m + count_trailing_zeros 64 (get_or ws j 0))
least_word ws j m l e =
    rw (zeros_least 64 (get_or ws j 0), e)
    (least_goes (64 * j) 64 (bit_at ws) (bit (get_or ws j 0)) (subst (Least (64 * j) (bit_at ws)) e l) (bit_at_lem ws j))

-- the words have no more ones than digits
pub ones_le : (ws : List ℕ) → ((k : ℕ) → k < length ws → get_or ws k 0 < 2 ^ 64) → sum_by ones ws ≤ 64 * length ws
ones_le [] h = omega arith
ones_le (w ∷ ws) h = omega (arith, sum_by-cons ones w ws, ones-le 64 w (h 0 (omega arith)), ones_le ws (λ k l. h (suc k) (omega arith)))

-- the ones of the words, each counted
pub count_words : (ws : List ℕ) → ((k : ℕ) → k < length ws → get_or ws k 0 < 2 ^ 64) → count (64 * length ws) (bit_at ws) ≡ sum_by ones ws
unfolding count bit_at
count_words [] h = refl
count_words (w ∷ ws) h =
    let e : 64 * suc (length ws) ≡ 64 + 64 * length ws = omega arith in
    ap (λ (n : ℕ). count n (bit_at (w ∷ ws))) e
    ∙ count_add 64 (64 * length ws) (bit_at (w ∷ ws))
    ∙ ap₂ (λ (x y : ℕ). x + y)
    (count_same 64 (bit_at (w ∷ ws)) (bit w) here ∙ sym (ones_count 64 w (h 0 (omega arith))))
    (count_same (64 * length ws) (λ i. bit_at (w ∷ ws) (64 + i)) (bit_at ws) after ∙ count_words ws (λ k l. h (suc k) (omega arith)))
    ∙ sym (sum_by-cons ones w ws)
  where
    here : (i : ℕ) → i < 64 → bit_at (w ∷ ws) i ≡ bit w i
    here i l = ap (bit_at (w ∷ ws)) (omega arith) ∙ bit_at_lem (w ∷ ws) 0 i l

    after : (i : ℕ) → i < 64 * length ws → bit_at (w ∷ ws) (64 + i) ≡ bit_at ws i
    after i l =
        let d : (64 + i) / 64 ≡ suc (i / 64) = omega arith in
        let m : (64 + i) % 64 ≡ i % 64 = omega arith in
        ap₂ (λ (x y : ℕ). bit (get_or (w ∷ ws) x 0) y) d m

-- there is no least digit in words that are zero
least_zero : (ws : List ℕ) (j : ℕ) → ((k : ℕ) → k < j → get_or ws k 0 ≡ 0) → Least (64 * j) (bit_at ws) (64 * j)
unfolding bit_at
least_zero ws j z =
    record {
      within = omega arith;
      below = λ i h. ap (λ (x : ℕ). bit x (i % 64)) (z (i / 64) (omega arith)) ∙ bit_none 0 (i % 64) (pow_pos (i % 64));
      here = λ h. omega arith;
    }

-- a word that is not zero has a digit
zeros_lt : (w : ℕ) → w < 2 ^ 64 → w ≢ 0 → count_trailing_zeros 64 w < 64
zeros_lt w h n = go (order (count_trailing_zeros 64 w) 64)
  where
    r : Least 64 (bit w) (count_trailing_zeros 64 w)
    r = rw (zeros_least 64 w) (least_is 64 (bit w))

    each : 64 ≤ count_trailing_zeros 64 w → (i : ℕ) → bit w i ≡ bit 0 i
    each l i = low (order i 64)
      where
        low : (i < 64) ⊎ (64 ≤ i) → bit w i ≡ bit 0 i
        low (inl k) = r.below i (omega arith) ∙ sym (bit_none 0 i (pow_pos i))
        low (inr k) = bit_none w i (lt_of_lt_of_le h (pow_mono k)) ∙ sym (bit_none 0 i (pow_pos i))

    go : (count_trailing_zeros 64 w < 64) ⊎ (64 ≤ count_trailing_zeros 64 w) → count_trailing_zeros 64 w < 64
    go (inl l) = l
    go (inr l) = absurd (n (digits_same 64 w 0 h (pow_pos 64) (each l)))

-- the least digit is in the first word that is not zero
least_first : (ws : List ℕ) (j : ℕ) → j < 5 → get_or ws j 0 < 2 ^ 64 → ((k : ℕ) → k < j → get_or ws k 0 ≡ 0) → get_or ws j 0 ≢ 0 → Least 320 (bit_at ws) (64 * j + count_trailing_zeros 64 (get_or ws j 0))
least_first ws j l h z n =
    let t : ℕ = count_trailing_zeros 64 (get_or ws j 0) in
    let s : t < 64 = zeros_lt (get_or ws j 0) h n in
    let a : Least (64 * j + 64) (bit_at ws) (64 * j + t) =
    rw (zeros_least 64 (get_or ws j 0)) (least_goes (64 * j) 64 (bit_at ws) (bit (get_or ws j 0)) (least_zero ws j z) (bit_at_lem ws j)) in
    let b : Least (64 * j + 64 + (256 - 64 * j)) (bit_at ws) (64 * j + t) = least_stays (64 * j + 64) (256 - 64 * j) (bit_at ws) (64 * j + t) a (λ e. omega arith) in
    subst (λ (m : ℕ). Least m (bit_at ws) (64 * j + t)) (omega arith) b

module _ (ws : List ℕ) (five : length ws ≡ 5) where
  kept_last : get_or (without_spare ws) 4 0 ≡ get_or ws 4 0 % 8
  kept_last = get_or-set_same ws 4 (get_or ws 4 0 % 8) 0 (omega arith)

  -- the digits of the blocks are as they were
  kept_low : (b : ℕ) → b < 259 → bit_at (without_spare ws) b ≡ bit_at ws b
  unfolding bit_at
  kept_low b h = go (same (b / 64) 4)
    where
      go : (b / 64 ≡ 4) ⊎ (b / 64 ≢ 4) → bit (get_or (without_spare ws) (b / 64) 0) (b % 64) ≡ bit (get_or ws (b / 64) 0) (b % 64)
      go (inl e) =
          let k : b % 64 < 3 = omega arith in
          rw e (ap (λ (x : ℕ). bit x (b % 64)) kept_last ∙ bit_low (get_or ws 4 0) 3 (b % 64) k)
      go (inr e) = ap (λ (x : ℕ). bit x (b % 64)) (get_or-set_other ws 4 (b / 64) (get_or ws 4 0 % 8) 0 e)

  -- and the others are zero
  kept_high : (b : ℕ) → 259 ≤ b → bit_at (without_spare ws) b ≡ 0
  unfolding bit_at
  kept_high b h = go (order b 320)
    where
      go : (b < 320) ⊎ (320 ≤ b) → bit (get_or (without_spare ws) (b / 64) 0) (b % 64) ≡ 0
      go (inl k) =
          let d : b / 64 ≡ 4 = omega arith in
          let t : 3 ≤ b % 64 = omega arith in
          rw d (ap (λ (x : ℕ). bit x (b % 64)) kept_last ∙ bit_none (get_or ws 4 0 % 8) (b % 64) (lt_of_lt_of_le (mod-lt (get_or ws 4 0) (lit< tt)) (pow_mono {i = 3} t)))
      go (inr k) =
          let d : length (without_spare ws) ≤ b / 64 = omega (arith, length-set ws 4 (get_or ws 4 0 % 8)) in
          rw (get_or-eq_default (without_spare ws) 0 d) (bit_none 0 (b % 64) (pow_pos (b % 64)))

  -- all 320 digits counted are the blocks counted
  pub count_kept : count 320 (bit_at (without_spare ws)) ≡ count 259 (bit_at ws)
  count_kept =
      count_add 259 61 (bit_at (without_spare ws))
      ∙ ap₂ (λ (x y : ℕ). x + y) (count_same 259 (bit_at (without_spare ws)) (bit_at ws) kept_low) (count_none 61 (λ i. bit_at (without_spare ws) (259 + i)) (λ i. kept_high (259 + i) (omega arith)))
      ∙ omega arith

  -- the least of all 320 is the least block
  pub least_kept : (j : ℕ) → j < 5 → get_or (without_spare ws) j 0 < 2 ^ 64 → ((k : ℕ) → k < j → get_or (without_spare ws) k 0 ≡ 0) → get_or (without_spare ws) j 0 ≢ 0
      → 64 * j + count_trailing_zeros 64 (get_or (without_spare ws) j 0) ≡ least 259 (bit_at ws)
  least_kept j s f z n = go (order m 259)
    where
      m : ℕ
      m = 64 * j + count_trailing_zeros 64 (get_or (without_spare ws) j 0)

      l : Least 320 (bit_at (without_spare ws)) m
      l = least_first (without_spare ws) j s f z n

      i : m < 320
      i = omega (arith, zeros_lt (get_or (without_spare ws) j 0) f n)

      go : (m < 259) ⊎ (259 ≤ m) → m ≡ least 259 (bit_at ws)
      go (inl h) =
          least_one 259 (bit_at ws) m (least 259 (bit_at ws))
          (record { within = omega arith; below = λ i k. sym (kept_low i (omega arith)) ∙ l.below i k; here = λ t z. l.here (omega arith) (kept_low m h ∙ z) })
          (least_is 259 (bit_at ws))
      go (inr h) = absurd (l.here i (kept_high m h))

  -- and where all are zero there is none
  pub least_none : ((k : ℕ) → k < 5 → get_or (without_spare ws) k 0 ≡ 0) → 259 ≡ least 259 (bit_at ws)
  least_none z =
      let l : Least 320 (bit_at (without_spare ws)) 320 = least_zero (without_spare ws) 5 z in
      least_one 259 (bit_at ws) 259 (least 259 (bit_at ws))
      (record { within = omega arith; below = λ i k. sym (kept_low i k) ∙ l.below i (omega arith); here = λ t. omega arith })
      (least_is 259 (bit_at ws))
