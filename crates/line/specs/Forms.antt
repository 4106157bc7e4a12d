-- The step that one line of a script stands for: document 01, "The script program". A line is the list of its bytes,
-- without the LF that ends it.
-- A place past the end of the line reads 0, which stands in no form. Definitions only; the laws are in Laws.
-- Assumes nothing.
use Rattle.std.specs.Prelude.{ℕ, zero, suc, ◌+◌, ◌-◌, ◌*◌, Bool, true, not, cond, ◌&&◌, ◌||◌, List, eqb, ltb, leb, length, get_or, Option, Some, None}
use Rattle.semantics.specs.declared.Step.{Step}
use Rattle.semantics.specs.declared.Step.TheVariants.{Read, Write, Work, Supply, Reset}

-- ---- digits

-- "upper-case hex": `0` to `9` are 48 to 57, `A` to `F` are 65 to 70; 16 for a byte that is no digit
unfoldable pub hex_value : ℕ → ℕ
hex_value b = cond (leb 48 b && leb b 57) (b - 48) (cond (leb 65 b && leb b 70) (b - 55) 16)

-- n digits of a base up to 16 stand from place `at` on
unfoldable pub digits : ℕ → List ℕ → ℕ → ℕ → Bool
digits base xs at zero = true
digits base xs at (suc n) = digits base xs at n && ltb (hex_value (get_or xs (at + n) 0)) base

-- the number that they make, the highest digit first
unfoldable pub number : ℕ → List ℕ → ℕ → ℕ → ℕ
number base xs at zero = 0
number base xs at (suc n) = number base xs at n * base + hex_value (get_or xs (at + n) 0)

abbrev pub hex_digits : List ℕ → ℕ → ℕ → Bool
hex_digits = digits 16

abbrev pub hex_number : List ℕ → ℕ → ℕ → ℕ
hex_number = number 16

abbrev pub decimal_digits : List ℕ → ℕ → ℕ → Bool
decimal_digits = digits 10

abbrev pub decimal_number : List ℕ → ℕ → ℕ → ℕ
decimal_number = number 10

-- ---- the forms

-- a letter and a space: "single spaces"
unfoldable pub begins : List ℕ → ℕ → Bool
begins xs letter = eqb (get_or xs 0 0) letter && eqb (get_or xs 1 0) 32

-- "`R` and 6 hex digits"
unfoldable pub is_read : List ℕ → Bool
is_read xs = eqb (length xs) 8 && (begins xs 82 && hex_digits xs 2 6)

-- "`W`, 6 digits, 4 digits"
unfoldable pub is_write : List ℕ → Bool
is_write xs = eqb (length xs) 13 && (begins xs 87 && (hex_digits xs 2 6 && (eqb (get_or xs 8 0) 32 && hex_digits xs 9 4)))

-- "`K` and 1 to 5 decimal digits without leading zero (`K 0` is a form)"
unfoldable pub is_work : List ℕ → Bool
is_work xs =
    leb 3 (length xs)
    && (leb (length xs) 7
    && (begins xs 75 && (decimal_digits xs 2 (length xs - 2) && (not (eqb (get_or xs 2 0) 48) || eqb (length xs) 3))))

-- "`V 0` or `V 1`"
unfoldable pub is_supply : List ℕ → Bool
is_supply xs = eqb (length xs) 3 && (begins xs 86 && (eqb (get_or xs 2 0) 48 || eqb (get_or xs 2 0) 49))

-- "`Z`"
unfoldable pub is_reset : List ℕ → Bool
is_reset xs = eqb (length xs) 1 && eqb (get_or xs 0 0) 90

-- the step of the form that the line has; None for a line of no form, which is refused 6
unfoldable pub step_of_line : List ℕ → Option Step
step_of_line xs =
    cond (is_read xs) (Some (Read (hex_number xs 2 6)))
    (cond (is_write xs) (Some (Write (hex_number xs 2 6) (hex_number xs 9 4)))
    (cond (is_work xs) (Some (Work (decimal_number xs 2 (length xs - 2))))
    (cond (is_supply xs) (Some (Supply (eqb (get_or xs 2 0) 49)))
    (cond (is_reset xs) (Some Reset)
    None))))
