-- Document 01, "Refusal card": the rows of it that are of a step, and the row whose number is given. A step is refused
-- for this row by definition (Steps, and Steps of wear); the number of each is in the crate refusal (Numbers). Row 6 is
-- of a script's lines, row 7 of the lookup. CardCases computes every row at its limits.
-- Assumes nothing.
use Rattle.std.specs.Prelude.{ℕ, Bool, false, cond, not, List, [], ◌∷◌, eqb, ltb, leb, Option, Some, None}
use Rattle.refusal.specs.declared.Refusal.{Refusal}
use Rattle.refusal.specs.declared.Refusal.TheVariants as refusal
use Rattle.refusal.specs.Numbers.{number}
use Rattle.geometry.specs.declared.Geometry.{Geometry}
use Rattle.geometry.specs.Blocks.{words, blocks, location, block_of}
use Rattle.semantics.specs.declared.Step.{Step}
use Rattle.semantics.specs.declared.Step.TheVariants.{Read, Write, Work, Supply, Reset}

-- a row of the card: what it refuses for, and whether it applies
pub record Row : Type 0 where
  pub refusal : Refusal
  pub applies : Bool

abbrev pub row : Refusal → Bool → Row
row e t = record { refusal = e; applies = t }

-- "The lowest number is given": of the rows that apply, and none where none does
abbrev pub lower : Refusal → Option Refusal → Refusal
lower e None = e
lower e (Some d) = cond (leb (number e) (number d)) e d

unfoldable pub given : List Row → Option Refusal
given [] = None
given (r ∷ l) = cond r.applies (Some (lower r.refusal (given l))) (given l)

-- the number that is given: 0 where none is
abbrev pub number_given : Option Refusal → ℕ
number_given None = 0
number_given (Some e) = number e

-- "Given by": read and write, where their address is so
abbrev pub at_address : (ℕ → Bool) → Step → Bool
at_address p (Read address) = p address
at_address p (Write address w) = p address
at_address p (Work n) = false
at_address p (Supply on) = false
at_address p Reset = false

-- and work, where its count is so
abbrev pub at_count : (ℕ → Bool) → Step → Bool
at_count p (Read address) = false
at_count p (Write address w) = false
at_count p (Work n) = p n
at_count p (Supply on) = false
at_count p Reset = false

-- the rows of a step, beside an array of n words and a state that is well formed (document 01: well made) or not
unfoldable pub card : Geometry → Bool → ℕ → Step → List Row
card g formed n x =
    -- "array length is not 256u": "every step"
    row refusal.ArrayLength (not (eqb n (words g)))
    -- "state not well made": "all that take a device"
    ∷ row refusal.Malformed (not formed)
    -- "address 16,777,216 or more": "read, write"
    ∷ row refusal.Address (at_address (λ a. leb 16777216 a) x)
    -- "work count above 65,535": "work"
    ∷ row refusal.WorkCount (at_count (λ m. ltb 65535 m) x)
    -- "location lies in no block": "read, write"
    ∷ row refusal.NoBlock (at_address (λ a. leb (blocks g) (block_of g (location g a))) x)
    ∷ []
