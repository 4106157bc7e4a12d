-- What demand 3 says of a list of steps: definitions only, from the steps and the recorder, with nothing of the device. That it holds of every list is
-- `demand_3_whole` (Standing).
-- Assumes nothing.
use Rattle.std.specs.Prelude.{◌≡◌, List, [], ◌∷◌, ◌++◌, Bool, true, false, ◌⊎◌, ℕ, ◌<◌, ◌%◌, length, get_or}
use Rattle.geometry.specs.declared.Part.{Part}
use Rattle.geometry.specs.declared.Geometry.{Geometry}
use Rattle.geometry.specs.Blocks.{geometry_of, words, location, block_of}
use Rattle.semantics.specs.declared.Step.{Step}
use Rattle.semantics.specs.declared.Step.TheVariants.{Read, Write, Work, Supply, Reset}
use Rattle.semantics.specs.Numbers.{within}
use Rattle.semantics.specs.Entries.{Entry, entry}
use Rattle.semantics.specs.Recorder.{Operation, program, erase, buffer, Setup, program_setup, erase_setup, lock_setup, words_setup, accept, block_in, Recorder, beginning, recorded, recorded_all, journal_of, event, applied}

-- ---- what a step is, told from the step itself and from the set-up that is pending before it

-- no step of a list switches the supply
abbrev pub NoSupply : List Step → Type 0
NoSupply [] = Unit {0}
NoSupply (s ∷ l) = ((on : Bool) → s ≡ Supply on → ⊥) × NoSupply l

-- supply is on after a list of steps from power-up: the last of them that switches it switched it on. Power-up has it off, and reset keeps it
pub record SupplyOn (l : List Step) : Type 0 where
  pub earlier : List Step
  pub since : List Step
  pub whole : l ≡ earlier ++ (Supply true ∷ since)
  pub none_since : NoSupply since

-- the data of the protection commands: D0h unprotects, 01h protects
abbrev pub protection_code : Bool → ℕ
protection_code true = 0xD0
protection_code false = 0x01

module _ (g : Geometry) where
  -- the step is a protection command for block b, which unprotects it (v true) or protects it: the second cycle after a lock set-up, at an address in b.
  -- The set-up p is the one that the recorder holds before the step; it draws it up from the steps alone
  abbrev pub ProtectionCommand : ℕ → Bool → Setup → Step → Type 0
  ProtectionCommand b v p (Read a) = ⊥
  ProtectionCommand b v p (Write a w) = (a < 16777216) × (p ≡ lock_setup) × (w % 256 ≡ protection_code v) × (block_of g (location g a) ≡ b)
  ProtectionCommand b v p (Work n) = ⊥
  ProtectionCommand b v p (Supply on) = ⊥
  ProtectionCommand b v p Reset = ⊥

  -- a write of w to address a is the cycle that an operation is accepted at, after its set-up: of a program with its data at its location, of an erase with D0h in its block, of
  -- a buffer program with D0h in its block, after all its words
  abbrev pub AcceptingCycle : Setup → ℕ → ℕ → Operation → Type 0
  AcceptingCycle p a w (program l d) = (a < 16777216) × (p ≡ program_setup) × (location g a ≡ l) × (w ≡ d)
  AcceptingCycle p a w (erase b) = (a < 16777216) × (p ≡ erase_setup) × (w % 256 ≡ 0xD0) × (block_of g (location g a) ≡ b)
  AcceptingCycle p a w (buffer l ws) = (a < 16777216) × (p ≡ words_setup l ws 0) × (w % 256 ≡ 0xD0) × (block_of g (location g a) ≡ block_of g l)

  -- the words that an operation covers
  abbrev pub Covers : Operation → ℕ → Type 0
  Covers (program l w) L = L ≡ l
  Covers (erase b) L = block_of g L ≡ b
  Covers (buffer l ws) L = within l (length ws) L ≡ true

  abbrev pub operation_of : Entry Operation → Operation
  operation_of (entry k u t) = k

  -- entry n of the journal, counted from the oldest, which is entry 0, is of the operation k
  abbrev pub Holds : Operation → ℕ → List (Entry Operation) → Type 0
  Holds k n [] = ⊥
  Holds k n (e ∷ j) = ((k ≡ operation_of e) × (length j ≡ n)) ⊎ Holds k n j

  -- ---- the last protection command for a block since power-up or the last reset

  -- no step resets, and none is a protection command for b; c is the recorder before them
  abbrev pub Undisturbed : ℕ → Recorder → List Step → Type 0
  Undisturbed b c [] = Unit {0}
  Undisturbed b c (s ∷ l) = (s ≡ Reset → ⊥) × ((v : Bool) → ProtectionCommand b v c.conditions.setup s → ⊥) × Undisturbed b (recorded g c s) l

  -- one of the steps is a protection command that unprotects b, and none after it resets or is a protection command for b
  pub data LastUnprotected (b : ℕ) : Recorder → List Step → Type 0 where
    at_this : (c : Recorder) (s : Step) (l : List Step) → ProtectionCommand b true c.conditions.setup s → Undisturbed b (recorded g c s) l → LastUnprotected b c (s ∷ l)
    at_later : (c : Recorder) (s : Step) (l : List Step) → LastUnprotected b (recorded g c s) l → LastUnprotected b c (s ∷ l)

-- ---- the claim

-- "An entry stands only where, at its acceptance, supply was on and the last protection command for its block since power-up or reset had opened it.": entry n of
-- the journal, which is of the operation k, stands. The steps are those before its acceptance, the write that is its accepting cycle, and those after; when it came
-- the journal had n entries. Which set-up was pending at a step is the recorder's, which has it from the steps before alone
pub record Stands (g : Geometry) (k : Operation) (n : ℕ) (l : List Step) : Type 0 where
  pub before : List Step
  pub address : ℕ
  pub word : ℕ
  pub later : List Step
  pub whole : l ≡ before ++ (Write address word ∷ later)
  pub accepting_cycle : AcceptingCycle g (recorded_all g beginning before).conditions.setup address word k
  pub accepts : event g (Write address word) (recorded_all g beginning before) ≡ accept k
  pub place : length (recorded_all g beginning before).journal ≡ n
  pub supply_on : SupplyOn before
  pub last_unprotected : LastUnprotected g (block_in g k) beginning before

-- what demand 3 says of the array ys that a list l of steps makes of power-up of the part p on the array xs
pub record Demand3 (p : Part) (l : List Step) (xs ys : List ℕ) : Type 0 where
  -- the array is as long as it was
  pub length_same : length ys ≡ length xs
  -- every word is the word at the start with the journal of the list applied in order of acceptance
  pub word : (L : ℕ) → L < words (geometry_of p) → get_or ys L 0 ≡ applied (geometry_of p) (journal_of (geometry_of p) l) L (get_or xs L 0)
  -- every entry of the journal covers words of its block alone
  pub in_block : (k : Operation) (n : ℕ) → Holds (geometry_of p) k n (journal_of (geometry_of p) l) → (L : ℕ) → Covers (geometry_of p) k L → block_of (geometry_of p) L ≡ block_in (geometry_of p) k
  -- and stands
  pub stands : (k : Operation) (n : ℕ) → Holds (geometry_of p) k n (journal_of (geometry_of p) l) → Stands (geometry_of p) k n l
