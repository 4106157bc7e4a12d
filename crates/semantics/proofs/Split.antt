-- The refusal of a step in two parts, as the code finds it: what every step is refused for, which a list tests once, and
-- what a step's own numbers are refused for. Both are read off the card.
-- Assumes nothing.
use Rattle.std.specs.Prelude.{[], ℕ, ◌<◌, ◌≤◌, Bool, true, false, cond, not, ◌∷◌, ◌≡◌, refl, eqb, leb, Option, Some, None}
use Rattle.std.proofs.Common.{ap}
use borrow.Author.Tests.{lt-ltb, le-ltb, lt-leb, le-leb}
use Rattle.refusal.specs.declared.Refusal.{Refusal}
use Rattle.refusal.specs.declared.Refusal.TheVariants as refusal
use Rattle.geometry.specs.declared.Geometry.{Geometry}
use Rattle.geometry.specs.Blocks.{words, blocks, location, block_of, Sound}
use Rattle.geometry.specs.Laws as laws
use Rattle.semantics.specs.declared.Step.{Step}
use Rattle.semantics.specs.declared.Step.TheVariants.{Read, Work, Reset}
use Rattle.semantics.specs.Card.{row, lower, given, card}
use Rattle.semantics.specs.Split.{step_refusal, first_refusal}

-- ---- the lowest of the rows

-- no number is lower than that of the first row
lowest_1 : (o : Option Refusal) → lower refusal.ArrayLength o ≡ refusal.ArrayLength
lowest_1 None = refl
lowest_1 (Some refusal.ArrayLength) = refl
lowest_1 (Some refusal.Malformed) = refl
lowest_1 (Some refusal.Address) = refl
lowest_1 (Some refusal.WorkCount) = refl
lowest_1 (Some refusal.NoBlock) = refl
lowest_1 (Some refusal.NoStep) = refl
lowest_1 (Some refusal.NoPart) = refl
lowest_1 (Some refusal.RecordForm) = refl
lowest_1 (Some refusal.RecordSum) = refl
lowest_1 (Some refusal.RecordType) = refl
lowest_1 (Some refusal.OutsideArray) = refl
lowest_1 (Some refusal.NoEndRecord) = refl
lowest_1 (Some refusal.RoomLength) = refl

lowest_2 : (t u v : Bool)
    → lower refusal.Malformed (given (row refusal.Address t ∷ row refusal.WorkCount u ∷ row refusal.NoBlock v ∷ [])) ≡ refusal.Malformed
unfolding given
lowest_2 true true true = refl
lowest_2 true true false = refl
lowest_2 true false true = refl
lowest_2 true false false = refl
lowest_2 false true true = refl
lowest_2 false true false = refl
lowest_2 false false true = refl
lowest_2 false false false = refl

lowest_3 : (v : Bool) → lower refusal.Address (given (row refusal.NoBlock v ∷ [])) ≡ refusal.Address
unfolding given
lowest_3 true = refl
lowest_3 false = refl

reset_rows : (a f : Bool)
    → given (row refusal.ArrayLength (not a) ∷ row refusal.Malformed (not f) ∷ row refusal.Address false ∷ row refusal.WorkCount false ∷ row refusal.NoBlock false ∷ [])
    ≡ cond a (cond f None (Some refusal.Malformed)) (Some refusal.ArrayLength)
unfolding given
reset_rows true true = refl
reset_rows true false = refl
reset_rows false true = refl
reset_rows false false = refl

first_rows : (a f t u v : Bool)
    → given (row refusal.ArrayLength (not a) ∷ row refusal.Malformed (not f) ∷ row refusal.Address t ∷ row refusal.WorkCount u ∷ row refusal.NoBlock v ∷ [])
    ≡ first_refusal (cond a (cond f None (Some refusal.Malformed)) (Some refusal.ArrayLength))
    (given (row refusal.Address t ∷ row refusal.WorkCount u ∷ row refusal.NoBlock v ∷ []))
unfolding given
first_rows false f t u v =
    ap Some (lowest_1 (given (row refusal.Malformed (not f) ∷ row refusal.Address t ∷ row refusal.WorkCount u ∷ row refusal.NoBlock v ∷ [])))
first_rows true false t u v = ap Some (lowest_2 t u v)
first_rows true true t u v = refl

-- ---- the two parts

module _ (g : Geometry) (formed : Bool) (n : ℕ) where
  -- a reset has no numbers of its own: it is refused for what every step is, 1 and then 2
  pub reset_refused : given (card g formed n Reset) ≡ cond (eqb n (words g)) (cond formed None (Some refusal.Malformed)) (Some refusal.ArrayLength)
  unfolding card
  reset_refused = reset_rows (eqb n (words g)) formed

  -- then a step is refused for its own numbers
  pub refused_first : (x : Step)
      → given (card g formed n x) ≡ first_refusal (given (card g formed n Reset)) (step_refusal g x)
  unfolding step_refusal card
  refused_first x = rw (reset_rows (eqb n (words g)) formed) (first_rows (eqb n (words g)) formed _ _ _)

-- ---- a step's own numbers

module _ (g : Geometry) where
  -- an address in range is refused for nothing: after reduction every location lies in a block
  pub address_good : Sound g → (a : ℕ) → a < 16777216 → step_refusal g (Read a) ≡ None
  unfolding step_refusal card given
  address_good sound a h =
      let i = laws.block_lt g sound (location g a) (laws.location_lt g sound a) in
      rw (lt-leb 16777216 a h, lt-leb (blocks g) (block_of g (location g a)) i)

  pub address_bad : (a : ℕ) → 16777216 ≤ a → step_refusal g (Read a) ≡ Some refusal.Address
  unfolding step_refusal card given
  address_bad a h = rw (le-leb 16777216 a h) (ap Some (lowest_3 (leb (blocks g) (block_of g (location g a)))))

  pub count_good : (n : ℕ) → n ≤ 65535 → step_refusal g (Work n) ≡ None
  unfolding step_refusal card given
  count_good n h = rw (le-ltb 65535 n h)

  pub count_bad : (n : ℕ) → 65535 < n → step_refusal g (Work n) ≡ Some refusal.WorkCount
  unfolding step_refusal card given
  count_bad n h = rw (lt-ltb 65535 n h)
