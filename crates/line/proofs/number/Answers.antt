-- `line::number`: each byte is a digit of the base, or one is none and the text makes no number.
use Rattle.std.proofs.Common.{◌≡◌, ◌≤◌, length, ℕ, suc, zero, ◌+◌, ◌*◌, ◌<◌, true, false, List, get_or, Some, None, refl, ap, arith, lit<}
use Rattle.std.proofs.Math.Nat.{pow-le-pow_left, pow-le-pow_right, mul-le-mul}
use Rattle.std.proofs.lemmas.Grind.{common_steps}
use Rattle.line.specs.Forms.{digits, number}
use Rattle.line.specs.Numbers.{digit_of, number_of}
use Rattle.line.specs.Laws.{number_lt}
use Rattle.line.proofs.number.Goals as goal

module _ (base : ℕ) (xs : List ℕ) where
  -- at most five digits, and one more, of a base up to 16
  small : (i m : ℕ) → base ≤ 16 → i ≤ 5 → digits base xs 0 i ≡ true → m ≡ number base xs 0 i → m * base ≤ 1048575 * 16
  small i m b k d e =
      let l = number_lt base xs 0 i d in
      let p = pow-le-pow_left b i in
      let q = pow-le-pow_right {n = 16} (lit< tt) k in
      mul-le-mul {n₂ = 1048575} {m₂ = 16} (omega (arith, l, p, q, e)) b

  one_more : (i v : ℕ) → digits base xs 0 i ≡ true → Some v ≡ digit_of base (get_or xs i 0)
      → (digits base xs 0 (i + 1) ≡ true) × (number base xs 0 i * base + v ≡ number base xs 0 (i + 1))
  unfolding digits number
  one_more i v d e = grind (arith, common_steps)

  digit_lt : (b : ℕ) (v : ℕ) → Some v ≡ digit_of base b → v < base
  digit_lt b v e = grind (arith, common_steps)

  -- a byte that is no digit
  none_at : (i : ℕ) → None ≡ digit_of base (get_or xs i 0) → (n : ℕ) → i < n → digits base xs 0 n ≡ false
  unfolding digits
  none_at i e zero h = absurd (omega arith)
  none_at i e (suc n) h = grind (arith, common_steps, none_at i e n)

pub loop-b-init : goal.loop-b-init
unfolding digits number
loop-b-init c = (refl, refl)

pub overflow_mul-made : goal.overflow_mul-made
overflow_mul-made c = omega (arith, c.from.ensures, ap (λ (x : ℕ). c.loop-b.made * x) c.from.ensures, small c.args.base c.args.digits.now c.loop-b.b-index c.loop-b.made c.requires.base (omega (arith, c.requires.few)) c.loop-b.invariant.0 c.loop-b.invariant.1)

pub returns-in_err-digit : goal.returns-in_err-digit
unfolding number_of
returns-in_err-digit c = rw (none_at _ _ _ c.in_err-digit.ensures _ c.loop-b-test.true) c.from_residual.ensures

pub overflow_add-made : goal.overflow_add-made
overflow_add-made c = omega (arith, c.requires.base, c.from-in-loop-b.ensures, digit_lt c.args.base c.args.digits.now _ _ c.in_ok-digit.ensures, ap (λ (x : ℕ). c.loop-b.made * x) c.from.ensures, small c.args.base c.args.digits.now c.loop-b.b-index c.loop-b.made c.requires.base (omega (arith, c.requires.few)) c.loop-b.invariant.0 c.loop-b.invariant.1)

pub loop-b-preserved : goal.loop-b-preserved
loop-b-preserved c = rw (c.from.ensures, c.from-in-loop-b.ensures, c.loop-b.invariant.1) (one_more _ _ _ _ c.loop-b.invariant.0 c.in_ok-digit.ensures)

pub returns : goal.returns
unfolding number_of
returns c =
    let e : c.loop-b.b-index ≡ length c.args.digits.now = omega arith in
    rw (← e, c.loop-b.invariant.0, c.loop-b.invariant.1)
