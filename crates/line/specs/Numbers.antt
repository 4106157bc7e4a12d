-- A digit and a number of a line, where they are of the base: what is said of the functions that read them.
-- Assumes nothing.
use Rattle.std.specs.Prelude.{ℕ, cond, List, length, ltb, Option, Some, None}
use Rattle.line.specs.Forms.{hex_value, digits, number}

-- the value of a digit of a base up to 16
abbrev pub digit_of : ℕ → ℕ → Option ℕ
digit_of base b = cond (ltb (hex_value b) base) (Some (hex_value b)) None

-- the number that a text makes whose bytes are all digits of the base
unfoldable pub number_of : ℕ → List ℕ → Option ℕ
number_of base xs = cond (digits base xs 0 (length xs)) (Some (number base xs 0 (length xs))) None
