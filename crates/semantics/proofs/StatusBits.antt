-- The status word bit by bit, as it is checked against Table 9 of the data sheet. Document 02, item 2: "eight visible lines in the card's order, SR7 down to SR0, each shown to decide its own
-- bit and no other". When each bit is 1, what a line is, and the laws; the word itself is defined in Reading.
-- Assumes nothing.
use Rattle.std.specs.Prelude.{ℕ, zero, suc, ◌+◌, ◌*◌, ◌/◌, ◌%◌, ◌^◌, ◌<◌, ◌≤◌, Bool, true, false, not, ◌&&◌, List, ◌⊎◌, ◌≡◌, refl, eqb, ltb}
use Rattle.std.proofs.Common.{inl, inr, sym, ◌∙◌, pow-suc, arith, lit<, pow_pos, lt-ltb, le-ltb, ne_eqb}
use Rattle.std.proofs.Math.Path.{ap}
use Rattle.std.proofs.Math.Nat.{pow-le-pow_right}
use Rattle.std.proofs.Math.Pow.{high, low}
use Rattle.geometry.specs.declared.Geometry.{Geometry}
use Rattle.geometry.specs.Laws.{order}
use Rattle.protection.specs.Words.{bit}
use Rattle.protection.specs.Digits.{bit_none, bit_low}
use Rattle.semantics.specs.declared.Activity.{Activity}
use Rattle.semantics.specs.declared.Flags.{Flags}
use Rattle.semantics.specs.declared.Mode.TheVariants.{Status}
use Rattle.semantics.specs.declared.State.{State}
use Rattle.semantics.specs.State.{geometry, runs}
use Rattle.semantics.specs.Reading.{runs_in, bit_if, status_word, shows_by, read_in, read_word}
use Rattle.semantics.specs.StatusBits.{status_bit, line, lines, bank_at, shown_at}

-- ---- lines of any conditions

-- a line is 0 or its own weight
pub line_weight : (c : ℕ → Bool) (i : ℕ) → (line c i ≡ 0) ⊎ (line c i ≡ 2 ^ i)
line_weight c i = go (c i)
  where
    go : (b : Bool) → (bit_if b (2 ^ i) ≡ 0) ⊎ (bit_if b (2 ^ i) ≡ 2 ^ i)
    go true = inr refl
    go false = inl refl

-- so it is the digit of its condition, at its place
line_digit : (c : ℕ → Bool) (i : ℕ) → line c i ≡ bit_if (c i) 1 * 2 ^ i
line_digit c i = go (c i)
  where
    go : (b : Bool) → bit_if b (2 ^ i) ≡ bit_if b 1 * 2 ^ i
    go true = omega arith
    go false = omega arith

line_le : (c : ℕ → Bool) (i : ℕ) → line c i ≤ 2 ^ i
line_le c i = go (line_weight c i)
  where
    go : (line c i ≡ 0) ⊎ (line c i ≡ 2 ^ i) → line c i ≤ 2 ^ i
    go (inl e) = omega arith
    go (inr e) = omega arith

lines_lt : (c : ℕ → Bool) (n : ℕ) → lines c n < 2 ^ n
lines_lt c zero = omega arith
lines_lt c (suc n) = rw (pow-suc 2 n) (omega (arith, line_le c n, lines_lt c n))

digit_bit : (b : Bool) → bit_if b 1 % 2 ≡ bit_if b 1
digit_bit true = refl
digit_bit false = refl

-- one line more on top
module _ (c : ℕ → Bool) (n : ℕ) where
  top : lines c (suc n) ≡ bit_if (c n) 1 * 2 ^ n + lines c n
  top = ap (λ (x : ℕ). x + lines c n) (line_digit c n)

  -- leaves the bits below
  below : (i : ℕ) → i < n → bit (lines c (suc n)) i ≡ bit (lines c n) i
  below i h = sym (bit_low (lines c (suc n)) n i h) ∙ ap (λ (w : ℕ). bit w i) (ap (λ (w : ℕ). w % 2 ^ n) top ∙ low (bit_if (c n) 1) n (lines_lt c n))

  -- decides its own
  own : bit (lines c (suc n)) n ≡ bit_if (c n) 1
  unfolding bit
  own = ap (λ (w : ℕ). w % 2) (ap (λ (w : ℕ). w / 2 ^ n) top ∙ high (bit_if (c n) 1) n (lines_lt c n)) ∙ digit_bit (c n)

  -- and none above
  above : (i : ℕ) → n < i → bit (lines c (suc n)) i ≡ 0
  above i h = bit_none (lines c (suc n)) i (omega (arith, lines_lt c (suc n), pow-le-pow_right {n = 2} (omega arith) h))

  next : (i : ℕ) → bit (lines c n) i ≡ bit_if (ltb i n && c i) 1 → bit (lines c (suc n)) i ≡ bit_if (ltb i (suc n) && c i) 1
  next i e = go (order i n) (order n i)
    where
      go : (i < n) ⊎ (n ≤ i) → (n < i) ⊎ (i ≤ n) → bit (lines c (suc n)) i ≡ bit_if (ltb i (suc n) && c i) 1
      go (inl h) s = below i h ∙ e ∙ rw (lt-ltb i n h, lt-ltb i (suc n) (omega arith))
      go (inr h) (inl l) = above i l ∙ rw (le-ltb i (suc n) (omega arith))
      go (inr h) (inr l) = let q : i ≡ n = omega arith in rw q (rw (lt-ltb n (suc n) (omega arith)) own)

-- bit i of the sum is 1 exactly where line i is there and its condition holds, whatever the other conditions are
pub lines_bit : (c : ℕ → Bool) (n i : ℕ) → bit (lines c n) i ≡ bit_if (ltb i n && c i) 1
lines_bit c zero i = bit_none 0 i (pow_pos i) ∙ rw (le-ltb i 0 (omega arith))
lines_bit c (suc n) i = next c n i (lines_bit c n i)

-- so a bit depends on no line but its own
pub own_line_alone : (c d : ℕ → Bool) (n i : ℕ) → c i ≡ d i → bit (lines c n) i ≡ bit (lines d n) i
own_line_alone c d n i e = lines_bit c n i ∙ ap (λ (b : Bool). bit_if (ltb i n && b) 1) e ∙ sym (lines_bit d n i)

-- ---- the status word

-- its eight lines, as Reading has them, are these: the checker compares them one by one, in the card's order
pub status_lines : (g : Geometry) (a : Activity) (f : Flags) (k : ℕ)
    → status_word g a f k
    ≡ line (status_bit g a f k) 7
    + line (status_bit g a f k) 6
    + line (status_bit g a f k) 5
    + line (status_bit g a f k) 4
    + line (status_bit g a f k) 3
    + line (status_bit g a f k) 2
    + line (status_bit g a f k) 1
    + line (status_bit g a f k) 0
unfolding status_word
status_lines g a f k = refl

-- w is any word that meets the contract of `reading::status_word`, so the one that the code returns: `returned` is that contract
module _ (g : Geometry) (a : Activity) (f : Flags) (k : ℕ) (w : ℕ) (returned : w ≡ status_word g a f k) where
  sum : w ≡ lines (status_bit g a f k) 8
  sum = returned ∙ status_lines g a f k ∙ omega arith

  no_line : (i : ℕ) → 8 ≤ i → status_bit g a f k i ≡ false
  no_line i h =
      let other : (j : ℕ) → j < 8 → eqb i j ≡ false = λ j l. ne_eqb i j (λ e. omega arith) in
      rw (other 7 (lit< tt), other 6 (lit< tt), other 5 (lit< tt), other 4 (lit< tt), other 3 (lit< tt), other 2 (lit< tt), other 1 (lit< tt), other 0 (lit< tt))

  -- a bit is 1 exactly where its own condition holds
  pub each_bit : (i : ℕ) → bit w i ≡ bit_if (status_bit g a f k i) 1
  each_bit i = ap (λ (x : ℕ). bit x i) sum ∙ lines_bit (status_bit g a f k) 8 i ∙ go (order i 8)
    where
      go : (i < 8) ⊎ (8 ≤ i) → bit_if (ltb i 8 && status_bit g a f k i) 1 ≡ bit_if (status_bit g a f k i) 1
      go (inl h) = ap (λ (b : Bool). bit_if (b && status_bit g a f k i) 1) (lt-ltb i 8 h)
      go (inr h) = ap (λ (b : Bool). bit_if (b && status_bit g a f k i) 1) (le-ltb i 8 h) ∙ sym (ap (λ (b : Bool). bit_if b 1) (no_line i h))

  -- "Upper byte 0."
  pub upper_byte : w / 256 ≡ 0
  upper_byte = omega (arith, sum, lines_lt (status_bit g a f k) 8)

  -- Table 9 marks SR0 = 1 with SR7 = 1 "not allowed"
  pub never_both : bit w 7 ≡ 1 → bit w 0 ≡ 0
  never_both e = each_bit 0 ∙ go (runs a.running) (runs_in g a.running k) (sym (each_bit 7) ∙ e)
    where
      go : (r h : Bool) → bit_if (not r) 1 ≡ 1 → bit_if (r && not h) 1 ≡ 0
      go true h q = absurd (omega arith)
      go false h q = refl

  -- and SR0 = 0 with SR7 = 0 as an operation in the addressed bank
  pub busy_here : bit w 7 ≡ 0 → bit w 0 ≡ 0 → runs_in g a.running k ≡ true
  busy_here e z = go (runs a.running) (runs_in g a.running k) (sym (each_bit 7) ∙ e) (sym (each_bit 0) ∙ z)
    where
      go : (r h : Bool) → bit_if (not r) 1 ≡ 0 → bit_if (r && not h) 1 ≡ 0 → h ≡ true
      go true true p q = refl
      go true false p q = absurd (omega arith)
      go false h p q = absurd (omega arith)

-- ---- a read

module _ (s : State) (xs : List ℕ) (address : ℕ) (status : shown_at s address ≡ Status) where
  shows_status : read_word s xs address ≡ status_word (geometry s) s.control.activity s.control.flags (bank_at s address)
  unfolding read_word read_in shows_by
  shows_status = rw status

  -- in every state, where the read shows the status word, each bit of its answer is 1 exactly where its own condition holds
  pub read_bit : (i : ℕ) → bit (read_word s xs address) i ≡ bit_if (status_bit (geometry s) s.control.activity s.control.flags (bank_at s address) i) 1
  read_bit = each_bit (geometry s) s.control.activity s.control.flags (bank_at s address) (read_word s xs address) shows_status
