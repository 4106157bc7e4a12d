-- The refusal of a step in two parts, as the code finds it: what every step is refused for, which a list tests once, and
-- what a step's own numbers are refused for. Both are read off the card. Definitions only; that they come to the card's refusal is in proofs/Split.
-- Assumes nothing.
use Rattle.std.specs.Prelude.{true, drop, Option}
use Rattle.std.specs.Option.{option_or}
use Rattle.refusal.specs.declared.Refusal.{Refusal}
use Rattle.geometry.specs.declared.Geometry.{Geometry}
use Rattle.semantics.specs.declared.Step.{Step}
use Rattle.semantics.specs.Card.{given, card}

-- the rows after the first two, which alone look at the state and the array
unfoldable pub step_refusal : Geometry → Step → Option Refusal
step_refusal g x = given (drop 2 (card g true 0 x))

-- the first of two, or the second where there is no first
abbrev pub first_refusal : Option Refusal → Option Refusal → Option Refusal
first_refusal a b = option_or a b
