-- `protection::set_block` meets its contract: the shifted 1 is the digit's power of two, and a block that has the protection is one that the definition leaves.
use borrow.Author.Tests.{lt-ltb, le-ltb}
use native.Mathlib.Omega.{arith}
use mathlib.Core.Bool.{Bool, true, false, not, beq, cond}
use mathlib.Core.List.{List}
use mathlib.Core.Path.{◌≡◌, refl, sym, ap, ◌∙◌}
use lib.Bits.{bit_xor}
use lib.ListN.{get_or, set}
use Prim.Native.Nat.{ℕ, zero, suc, ◌/◌, ◌%◌, ◌^◌, ◌<◌}
use Rattle.std.specs.Prelude.{eqb}
use Rattle.protection.specs.Words.{bit_at, is_unprotected, with_unprotected}
use Rattle.protection.specs.Digits.{bit_lt, shift_one, turned}
use Rattle.protection.specs.Laws.{with_own_block}
use Rattle.protection.proofs.set_block.Goals as goal
use Rattle.protection.proofs.set_block.Goals.{else-block-lt-BLOCKS-via-then-block-lt-BLOCKS+else-is_unprotected-value, else-block-lt-BLOCKS-via-else-block-lt-BLOCKS}

-- a digit that is not so already
other : (x : ℕ) (on value : Bool) → x < 2 → on ≡ eqb x 1 → not (beq on value) ≡ true → x ≡ cond value 0 1
other zero true value l e h = cc
other zero false true l e h = refl
other zero false false l e h = cc
other (suc zero) false value l e h = cc
other (suc zero) true true l e h = cc
other (suc zero) true false l e h = refl
other (suc (suc x)) on value l e h = absurd (omega arith)

-- a block that is so already
same : (on value : Bool) → not (beq on value) ≡ false → value ≡ on
same true true h = refl
same true false h = cc
same false true h = cc
same false false h = refl

-- the block's digit is turned round
changed : (ws : List ℕ) (b : ℕ) (on value : Bool) → b < 259 → on ≡ is_unprotected ws b → not (beq on value) ≡ true
    → set ws (b / 64) (bit_xor (get_or ws (b / 64) 0) (2 ^ (b % 64))) ≡ with_unprotected ws b value
unfolding is_unprotected with_unprotected bit_at
changed ws b on value h e n =
    let w : ℕ = get_or ws (b / 64) 0 in
    let d = rw (lt-ltb b 259 h) at e in
    rw (lt-ltb b 259 h) (ap (set ws (b / 64)) (sym (turned w (b % 64) value (other _ on value (bit_lt w (b % 64)) d n))))

pub returns-then-is_unprotected-value : goal.returns-then-is_unprotected-value
returns-then-is_unprotected-value c =
    let b : ℕ = c.args.block in
    rw (shift_one (b % 64) (omega arith)) (changed _ b _ _ c.if-block-lt-BLOCKS.true c.is_unprotected.ensures c.if-is_unprotected-value.true)

pub returns-else-block-lt-BLOCKS : goal.returns-else-block-lt-BLOCKS
unfolding with_unprotected
returns-else-block-lt-BLOCKS c =
    elim c.else-block-lt-BLOCKS.branch [
      | else-block-lt-BLOCKS-via-then-block-lt-BLOCKS+else-is_unprotected-value w ↦
          sym (ap (with_unprotected c.args.words.now c.args.block) (same _ _ w.if-is_unprotected-value.false ∙ w.is_unprotected.ensures) ∙ with_own_block c.args.words.now c.args.block)
      | else-block-lt-BLOCKS-via-else-block-lt-BLOCKS w ↦ rw (le-ltb _ _ w.if-block-lt-BLOCKS.false)
    ]
