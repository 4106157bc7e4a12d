-- Steps and the numbers that encode them, at numbers written out as a C program makes them (host/m58.h), and numbers
-- that encode none: the checker computes each, in both directions. That each step is read back from its number would
-- hold as well of kinds or fields that are exchanged in both.
-- Assumes nothing.
use Rattle.std.specs.Prelude.{ℕ, true, false, List, [], ◌∷◌, map, ◌≡◌, refl, replicate, Some, None}
use Rattle.semantics.specs.declared.Step.{Step}
use Rattle.semantics.specs.declared.Step.TheVariants.{Read, Write, Work, Supply, Reset}
use Rattle.semantics.specs.Encoding.{encode, decoded_as, decode}

infix 20 ◌⟶◌
-- a step, and its number
pub data Case : Type 0 where
  ◌⟶◌ : Step → ℕ → Case

abbrev step_of : Case → Step
step_of (x ⟶ c) = x

abbrev number_of : Case → ℕ
number_of (x ⟶ c) = c

abbrev pub steps : List Case
steps =
    -- the kind from bit 48, the data of a write from bit 32, the address, the count or the supply from bit 0
    (Read 0 ⟶ 0) ∷ (Read 0x123456 ⟶ 0x123456) ∷ (Read 0xFFFFFFFF ⟶ 0xFFFFFFFF)
    ∷ (Write 0 0 ⟶ 0x1000000000000) ∷ (Write 0x123456 0xABCD ⟶ 0x1ABCD00123456)
    ∷ (Write 0xFFFFFFFF 0xFFFF ⟶ 0x1FFFFFFFFFFFF)
    ∷ (Work 0 ⟶ 0x2000000000000) ∷ (Work 65536 ⟶ 0x2000000010000) ∷ (Work 0xFFFFFFFF ⟶ 0x20000FFFFFFFF)
    ∷ (Supply false ⟶ 0x3000000000000) ∷ (Supply true ⟶ 0x3000000000001)
    ∷ (Reset ⟶ 0x4000000000000)
    ∷ []

-- "All other bits are 0": data beside a step that is no write, a supply that is neither on nor off, a number beside a
-- reset, kinds above 4, and the highest bits
abbrev pub none : List ℕ
none =
    0x000100000000 ∷ 0x800000123456 ∷ 0x2000100000001 ∷ 0x2FFFF00000000 ∷ 0x3000100000001 ∷ 0x3800000000000
    ∷ 0x3000000000002 ∷ 0x30000FFFFFFFF ∷ 0x4000000000001 ∷ 0x4000100000000
    ∷ 0x5000000000000 ∷ 0x5000000000001 ∷ 0xFFFF000000000000 ∷ 0x10001000000000000 ∷ 0xFFFFFFFFFFFFFFFF
    ∷ []

pub steps_hold : (map (λ c. encode (step_of c)) steps ≡ map number_of steps)
    × (map (λ c. decode (number_of c)) steps ≡ map (λ c. Some (step_of c)) steps)
unfolding decoded_as decode
steps_hold = (refl, refl)

pub none_hold : map decode none ≡ replicate 15 None
unfolding decoded_as decode
none_hold = refl
