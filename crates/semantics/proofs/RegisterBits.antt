-- The configuration register bit by bit: what the mask leaves of a word, over the bit index; that a word has its reserved bits 0 exactly where the mask leaves it as it is; where the
-- register is read; and what a cycle makes of it.
-- Assumes nothing.
use Rattle.std.specs.Prelude.{ℕ, ◌<◌, ◌≤◌, ◌%◌, min, Bool, true, false, not, cond, ◌&&◌, ◌||◌, List, ◌⊎◌, ◌≡◌, eqb, ltb}
use Rattle.std.proofs.lemmas.Bool.{false≢true}
use Rattle.std.proofs.Common.{inl, inr, sym, ◌∙◌, arith, lit<, lt-ltb, le-ltb, eq-eqb, eqb-true}
use Rattle.std.proofs.Math.Path.{refl, ap}
use Rattle.std.proofs.Math.Nat.{pow-le-pow_right}
use Rattle.std.specs.Int.Bits.{and_lt}
use Rattle.geometry.specs.declared.Part.{Part}
use Rattle.geometry.specs.declared.Geometry.{Geometry}
use Rattle.geometry.specs.Laws.{order}
use Rattle.protection.specs.Words.{bit}
use Rattle.protection.specs.Digits.{bit_lt, bit_low, bit_none, bit_and_lem, digits_same}
use Rattle.semantics.specs.declared.LockCommand.{LockCommand}
use Rattle.semantics.specs.declared.LockCommand.TheVariants as lock
use Rattle.semantics.specs.declared.State.{State}
use Rattle.semantics.specs.declared.Setup.{Setup}
use Rattle.semantics.specs.declared.Setup.TheVariants as setup
use Rattle.semantics.specs.declared.Place.{Place}
use Rattle.semantics.specs.declared.View.{View}
use Rattle.semantics.specs.State.{power_up}
use Rattle.semantics.specs.Reading.{bit_if, signature_word, shown, shows_by, read_in, read_word}
use Rattle.semantics.specs.Register.{is_reserved, register_mask, without_reserved, reserved_zero}
use Rattle.semantics.proofs.StatusBits.{lines_bit}
use Rattle.semantics.specs.Supply.{ended}
use Rattle.semantics.specs.Branches.{of_cond, by_cond}
use Rattle.semantics.proofs.Cycles.{of_cycle}
use Rattle.semantics.specs.Writing.{lock_command_of, lock_cycle, settle, cycle}
use Rattle.semantics.proofs.Engine.{and_true_l, and_true_r}
use Rattle.semantics.specs.RegisterBits.{ShowsRegister, is_configure, configures}

-- ---- the mask

-- the mask's own bits: it is the sum of the weights of the bits below 16 that are not reserved, which the checker adds up
pub mask_bit : (i : ℕ) → bit register_mask i ≡ bit_if (ltb i 16 && not (is_reserved i)) 1
unfolding is_reserved
mask_bit i = lines_bit (λ k. not (is_reserved k)) 16 i

-- each reserved bit of the result is 0, each other bit is the word's
pub masked_bit : (w i : ℕ) → w < 65536 → bit (without_reserved w) i ≡ cond (is_reserved i) 0 (bit w i)
unfolding without_reserved
masked_bit w i h = bit_and_lem w register_mask i ∙ ap (min (bit w i)) (mask_bit i) ∙ go (is_reserved i) (order i 16)
  where
    go : (b : Bool) → (i < 16) ⊎ (16 ≤ i) → min (bit w i) (bit_if (ltb i 16 && not b) 1) ≡ cond b 0 (bit w i)
    go true (inl l) = rw (lt-ltb i 16 l) (omega (arith, bit_lt w i))
    go false (inl l) = rw (lt-ltb i 16 l) (omega (arith, bit_lt w i))
    go true (inr l) = rw (le-ltb i 16 l) (omega (arith, bit_lt w i))
    go false (inr l) = rw (le-ltb i 16 l) (omega (arith, bit_none w i (omega (arith, pow-le-pow_right {n = 2} (omega arith) l))))

-- so what 03h stores of an address: bit i below 16 is the address's, or 0 where it is reserved
pub stored_bit : (a i : ℕ) → i < 16 → bit (without_reserved (a % 65536)) i ≡ cond (is_reserved i) 0 (bit a i)
stored_bit a i h = masked_bit (a % 65536) i (omega arith) ∙ ap (λ (x : ℕ). cond (is_reserved i) 0 x) (bit_low a 16 i h)

-- ---- words whose reserved bits are 0

-- all of them are
pub zero_each : (w : ℕ) → reserved_zero w ≡ true → (i : ℕ) → is_reserved i ≡ true → bit w i ≡ 0
unfolding reserved_zero is_reserved
zero_each w z i e = go (eqb i 14) (eqb i 5) refl refl e
  where
    low : (eqb (bit w 5) 0 && eqb (bit w 4) 0) ≡ true
    low = and_true_r (eqb (bit w 14) 0) _ z

    at : (k : ℕ) → eqb i k ≡ true → eqb (bit w k) 0 ≡ true → bit w i ≡ 0
    at k q h = rw (eqb-true i k q) (eqb-true (bit w k) 0 h)

    go : (b c : Bool) → eqb i 14 ≡ b → eqb i 5 ≡ c → (b || (c || eqb i 4)) ≡ true → bit w i ≡ 0
    go true c p q r = at 14 p (and_true_l (eqb (bit w 14) 0) _ z)
    go false true p q r = at 5 q (and_true_l (eqb (bit w 5) 0) _ low)
    go false false p q r = at 4 r (and_true_r (eqb (bit w 5) 0) _ low)

-- the mask makes such a word of any
pub masked_zero : (w : ℕ) → w < 65536 → reserved_zero (without_reserved w) ≡ true
unfolding reserved_zero is_reserved
masked_zero w h = rw (masked_bit w 14 h, masked_bit w 5 h, masked_bit w 4 h)

-- and leaves such a word: by this a program tests it
pub masked_same : (w : ℕ) → w < 65536 → eqb (without_reserved w) w ≡ reserved_zero w
unfolding without_reserved
masked_same w h = go (reserved_zero w) refl
  where
    same : reserved_zero w ≡ true → (i : ℕ) → bit (without_reserved w) i ≡ bit w i
    same z i =
        masked_bit w i h ∙ by_cond (λ (x : ℕ). x ≡ bit w i) (is_reserved i) _ _ (λ e. sym (zero_each w z i e))
        (λ e. refl)

    go : (b : Bool) → reserved_zero w ≡ b → eqb (without_reserved w) w ≡ b
    go true e = eq-eqb (without_reserved w) w (digits_same 16 (without_reserved w) w (and_lt 16 w register_mask h (lit< tt)) h (same e))
    go false e = at (eqb (without_reserved w) w) refl
      where
        at : (t : Bool) → eqb (without_reserved w) w ≡ t → t ≡ false
        at true q = sym (masked_zero w h) ∙ ap reserved_zero (eqb-true (without_reserved w) w q) ∙ e
        at false q = refl

-- the default is such a word, and every bit of it that is not reserved is 1, as in Table 11
pub default_zero : (p : Part) → reserved_zero (power_up p).control.configuration ≡ true
unfolding power_up reserved_zero bit
default_zero p = refl

pub default_ones : (p : Part) → (power_up p).control.configuration ≡ without_reserved 0xFFFF
unfolding power_up without_reserved
default_ones p = refl

-- ---- where the register is read

pub register_shown : (s : State) (xs : List ℕ) (a : ℕ) → ShowsRegister s a → read_word s xs a ≡ s.control.configuration
unfolding read_word read_in shown shows_by signature_word
register_shown s xs a r = rw (r.mode, r.offset)

-- ---- what a cycle makes of the register

module _ (g : Geometry) (v : View) (p : Place) (w : ℕ) where
  register_stays : (c : Setup) → configures c w ≡ false
      → (cycle g v c p w).control.configuration ≡ v.control.configuration
  unfolding ended settle
  register_stays c h =
      of_cycle (λ (x : View). x.control.configuration ≡ v.control.configuration) v p g c w
      (λ e. record { modes = λ i m. refl; suspends = λ i. refl; resumes = λ i r t. refl; ends = λ i r t. refl; clears = λ i r. refl; sets_up = λ i x z. refl; stays = refl })
      (record {
        raises = λ f. refl;
        starts = λ r t. refl;
        protects = λ b. refl;
        stores = λ i l n. absurd (false≢true (sym h ∙ ap (λ (x : Setup). configures x w) i ∙ ap is_configure l));
        loads = λ x. refl;
      })

  lock_register : (k : LockCommand)
      → (lock_cycle (settle v) p k).control.configuration ≡ cond (is_configure k) (without_reserved (p.address % 65536))
      v.control.configuration
  unfolding lock_cycle settle
  lock_register lock.Protect = refl
  lock_register lock.Unprotect = refl
  lock_register lock.Configure = refl
  lock_register lock.Unknown = refl

-- only 03h after a lock set-up writes the register: what it stores is the address modulo 65,536 without its reserved bits
pub cycle_register : (g : Geometry) (v : View) (c : Setup) (p : Place) (w : ℕ) → (cycle g v c p w).control.configuration ≡ cond (configures c w) (without_reserved (p.address % 65536)) v.control.configuration
unfolding cycle
cycle_register g v setup.Nothing p w = register_stays g v p w setup.Nothing refl
cycle_register g v setup.Program p w = register_stays g v p w setup.Program refl
cycle_register g v setup.Erase p w = register_stays g v p w setup.Erase refl
cycle_register g v setup.Lock p w = lock_register g v p w (lock_command_of (w % 256))
cycle_register g v (setup.BufferCount b) p w = register_stays g v p w (setup.BufferCount b) refl
cycle_register g v (setup.BufferFirst b n) p w = register_stays g v p w (setup.BufferFirst b n) refl
cycle_register g v (setup.BufferWords l n due) p w = register_stays g v p w (setup.BufferWords l n due) refl

-- so the reserved bits stay 0
pub cycle_zero : (g : Geometry) (v : View) (c : Setup) (p : Place) (w : ℕ) → reserved_zero v.control.configuration ≡ true → reserved_zero (cycle g v c p w).control.configuration ≡ true
cycle_zero g v c p w h =
    ap reserved_zero (cycle_register g v c p w) ∙ of_cond (λ (x : ℕ). reserved_zero x ≡ true) (configures c w) _ _
    (masked_zero (p.address % 65536) (omega arith)) h
