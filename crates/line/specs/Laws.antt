-- Laws of a script's lines: which are of no form for their length, and how large the numbers of a step are.
-- Assumes nothing.
use Rattle.std.specs.Prelude.{ℕ, zero, suc, ◌+◌, ◌-◌, ◌^◌, ◌<◌, ◌≤◌, Bool, true, false, ◌&&◌, List, [], ◌≡◌, refl, eqb, leb, length, get_or, Option, Some, None}
use Rattle.std.proofs.Common.{true≢false, sym, subst, suc-mul, mul-le-mul_right, pow-suc, lt_of_lt_of_le, arith, lit<}
use Rattle.std.proofs.Math.Nat.{pow-le-pow_right, pow-zero}
use borrow.Author.Tests.{ltb-true, leb-true, eqb-true}
use Rattle.semantics.specs.declared.Step.{Step}
use Rattle.semantics.specs.declared.Step.TheVariants.{Read, Write, Work, Supply, Reset}
use Rattle.semantics.specs.Branches.{by_cond}
use Rattle.line.specs.Forms.{hex_value, digits, number, hex_digits, hex_number, decimal_digits, decimal_number, begins}
use Rattle.line.specs.Forms.{is_read, is_write, is_work, is_supply, is_reset, step_of_line}

-- ---- tests

-- both of two tests pass
both : (a b : Bool) → (a && b) ≡ true → (a ≡ true) × (b ≡ true)
both true b h = (refl, h)
both false b h = absurd (true≢false (sym h))

-- ---- the forms

-- n digits make a number below the base's power
pub number_lt : (base : ℕ) (xs : List ℕ) (at n : ℕ) → digits base xs at n ≡ true → number base xs at n < base ^ n
unfolding digits number
number_lt base xs at zero h = rw pow-zero (omega arith)
number_lt base xs at (suc n) h =
    let d = both (digits base xs at n) _ h in
    let m = number_lt base xs at n d.0 in
    let p = rw (suc-mul, ← pow-suc) at (mul-le-mul_right base m) in
    omega (arith, p, ltb-true (hex_value (get_or xs (at + n) 0)) base d.1)

module _ (xs : List ℕ) where
  module _ (h : is_read xs ≡ true) where
    read_parts : (length xs ≡ 8) × (hex_digits xs 2 6 ≡ true)
    unfolding is_read
    read_parts = let p = both (eqb (length xs) 8) _ h in (eqb-true _ _ p.0, (both (begins xs 82) _ p.1).1)

    pub read_address : hex_number xs 2 6 < 16777216
    read_address = number_lt 16 xs 2 6 read_parts.1

  module _ (h : is_write xs ≡ true) where
    write_parts : (length xs ≡ 13) × (hex_digits xs 2 6 ≡ true) × (hex_digits xs 9 4 ≡ true)
    unfolding is_write
    write_parts =
        let p = both (eqb (length xs) 13) _ h in
        let q = both (hex_digits xs 2 6) _ (both (begins xs 87) _ p.1).1 in
        (eqb-true _ _ p.0, q.0, (both (eqb (get_or xs 8 0) 32) _ q.1).1)

    pub write_address : hex_number xs 2 6 < 16777216
    write_address = number_lt 16 xs 2 6 write_parts.1

    pub write_data : hex_number xs 9 4 < 65536
    write_data = number_lt 16 xs 9 4 write_parts.2

  module _ (h : is_work xs ≡ true) where
    work_parts : (3 ≤ length xs) × (length xs ≤ 7) × (decimal_digits xs 2 (length xs - 2) ≡ true)
    unfolding is_work
    work_parts =
        let p = both (leb 3 (length xs)) _ h in
        let q = both (leb (length xs) 7) _ p.1 in
        let r = both (begins xs 75) _ q.1 in
        (leb-true _ _ p.0, leb-true _ _ q.0, (both (decimal_digits xs 2 (length xs - 2)) _ r.1).0)

    pub work_length : (3 ≤ length xs) × (length xs ≤ 7)
    work_length = (work_parts.0, work_parts.1)

    pub work_count : decimal_number xs 2 (length xs - 2) < 100000
    work_count =
        let n : length xs - 2 ≤ 5 = omega (arith, work_parts.1) in
        lt_of_lt_of_le (number_lt 10 xs 2 (length xs - 2) work_parts.2) (pow-le-pow_right {n = 10} (lit< tt) n)

  supply_length : is_supply xs ≡ true → length xs ≡ 3
  unfolding is_supply
  supply_length h = eqb-true _ _ (both (eqb (length xs) 3) _ h).0

  reset_length : is_reset xs ≡ true → length xs ≡ 1
  unfolding is_reset
  reset_length h = eqb-true _ _ (both (eqb (length xs) 1) _ h).0

-- ---- the step of a line

abbrev NoStep : Option Step → Type 0
NoStep d = d ≡ None

-- "A line over 16 bytes, or empty, is refused 6."
pub long_invalid : (xs : List ℕ) → 16 < length xs → step_of_line xs ≡ None
unfolding step_of_line
long_invalid xs l =
    by_cond NoStep (is_read xs) _ _ (λ h. absurd (omega (arith, (read_parts xs h).0)))
    (λ _. by_cond NoStep (is_write xs) _ _ (λ h. absurd (omega (arith, (write_parts xs h).0)))
    (λ _. by_cond NoStep (is_work xs) _ _ (λ h. absurd (omega (arith, (work_parts xs h).1)))
    (λ _. by_cond NoStep (is_supply xs) _ _ (λ h. absurd (omega (arith, supply_length xs h)))
    (λ _. by_cond NoStep (is_reset xs) _ _ (λ h. absurd (omega (arith, reset_length xs h)))
    (λ _. refl)))))

pub empty_invalid : step_of_line [] ≡ None
unfolding step_of_line is_read is_write is_work is_supply is_reset
empty_invalid = refl

-- the limits of a step's numbers. Refusal 3 is for an address of 16,777,216 or more, so no line of a script gets it.
abbrev pub Bounded : Step → Type 0
Bounded (Read address) = address < 16777216
Bounded (Write address word) = (address < 16777216) × (word < 65536)
Bounded (Work n) = n < 100000
Bounded (Supply on) = Unit {0}
Bounded Reset = Unit {0}

-- the same of what a line stands for
abbrev BoundedIf : Option Step → Type 0
BoundedIf (Some x) = Bounded x
BoundedIf None = Unit {0}

pub bounded : (xs : List ℕ) (x : Step) → step_of_line xs ≡ Some x → Bounded x
unfolding step_of_line
bounded xs x e =
    subst BoundedIf e
    (by_cond BoundedIf (is_read xs) _ _ (λ h. read_address xs h)
    (λ _. by_cond BoundedIf (is_write xs) _ _ (λ h. (write_address xs h, write_data xs h))
    (λ _. by_cond BoundedIf (is_work xs) _ _ (λ h. work_count xs h)
    (λ _. by_cond BoundedIf (is_supply xs) _ _ (λ h. tt)
    (λ _. by_cond BoundedIf (is_reset xs) _ _ (λ h. tt)
    (λ _. tt))))))
