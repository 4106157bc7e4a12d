-- A step as a number of 64 bits, for programs that hand over lists of them: bits 0 to 31 the address, the count or the supply (1 on, 0 off),
-- bits 32 to 47 the data of a write, from bit 48 up the kind: 0 read, 1 write, 2 work, 3 supply, 4 reset. All other bits are 0.
-- The encoding is ours: document 01 has none.
-- Assumes nothing.
use Rattle.std.specs.Prelude.{ℕ, ◌+◌, ◌*◌, ◌/◌, ◌%◌, ◌<◌, Bool, true, false, not, cond, ◌≡◌, refl, eqb, ltb, Option, Some, None}
use Rattle.std.proofs.Common.{true≢false, sym, subst, arith, eqb-true, ltb-true}
use Rattle.std.proofs.lemmas.Bool.{eqb-false}
use Rattle.semantics.specs.declared.Step.{Step}
use Rattle.semantics.specs.declared.Step.TheVariants.{Read, Write, Work, Supply, Reset}
use Rattle.semantics.specs.Branches.{by_cond}
use Rattle.semantics.specs.Reading.{bit_if}

abbrev pub coded : ℕ → ℕ → ℕ → ℕ
coded kind word operand = kind * 281474976710656 + (word * 4294967296 + operand)

abbrev pub encode : Step → ℕ
encode (Read address) = coded 0 0 address
encode (Write address w) = coded 1 w address
encode (Work n) = coded 2 0 n
encode (Supply on) = coded 3 0 (bit_if on 1)
encode Reset = coded 4 0 0

-- the step of a kind, with its data and operand
unfoldable pub decoded_as : ℕ → ℕ → ℕ → Option Step
decoded_as kind word operand =
    cond (eqb kind 1) (Some (Write operand word))
    (cond (not (eqb word 0)) None
    (cond (eqb kind 0) (Some (Read operand))
    (cond (eqb kind 2) (Some (Work operand))
    (cond (eqb kind 3) (cond (ltb operand 2) (Some (Supply (eqb operand 1))) None)
    (cond (eqb kind 4) (cond (eqb operand 0) (Some Reset) None)
    None)))))

unfoldable pub decode : ℕ → Option Step
decode code = decoded_as (code / 281474976710656) (code / 4294967296 % 65536) (code % 4294967296)

-- the numbers of a step fit their bits
abbrev pub Fitting : Step → Type 0
Fitting (Read address) = address < 4294967296
Fitting (Write address w) = (address < 4294967296) × (w < 65536)
Fitting (Work n) = n < 4294967296
Fitting (Supply on) = Unit {0}
Fitting Reset = Unit {0}

decode_coded : (kind word operand : ℕ) → word < 65536 → operand < 4294967296 → decode (coded kind word operand) ≡ decoded_as kind word operand
unfolding decode
decode_coded kind word operand h k =
    let a : coded kind word operand / 281474976710656 ≡ kind = omega arith in
    let b : coded kind word operand / 4294967296 % 65536 ≡ word = omega arith in
    let c : coded kind word operand % 4294967296 ≡ operand = omega arith in
    rw (a, b, c)

-- every step is read back from its number
pub decode_encode : (x : Step) → Fitting x → decode (encode x) ≡ Some x
unfolding decoded_as
decode_encode (Read address) h = decode_coded 0 0 address (omega arith) h
decode_encode (Write address w) h = decode_coded 1 w address h.1 h.0
decode_encode (Work n) h = decode_coded 2 0 n (omega arith) h
decode_encode (Supply true) h = decode_coded 3 0 1 (omega arith) (omega arith)
decode_encode (Supply false) h = decode_coded 3 0 0 (omega arith) (omega arith)
decode_encode Reset h = decode_coded 4 0 0 (omega arith) (omega arith)

-- ---- a number that encodes a step is the number of that step

-- n is the number of the step that was read, if one was
abbrev NumberOf : ℕ → Option Step → Type 0
NumberOf n (Some x) = encode x ≡ n
NumberOf n None = Unit {0}

supply_number : (operand : ℕ) → operand < 2 → bit_if (eqb operand 1) 1 ≡ operand
supply_number operand h = go (eqb operand 1) refl
  where
    go : (b : Bool) → eqb operand 1 ≡ b → bit_if b 1 ≡ operand
    go true e = sym (eqb-true operand 1 e)
    go false e = let n = eqb-false operand 1 e in omega arith

number_as : (kind word operand : ℕ) → NumberOf (coded kind word operand) (decoded_as kind word operand)
unfolding decoded_as
number_as kind word operand =
    by_cond (NumberOf n) (eqb kind 1) _ _ (λ e. let k = eqb-true kind 1 e in omega arith)
    (λ e. by_cond (NumberOf n) (not (eqb word 0)) _ _ (λ w. tt)
    (λ w. let z : word ≡ 0 = zero_word (eqb word 0) refl w in
    by_cond (NumberOf n) (eqb kind 0) _ _ (λ k. let j = eqb-true kind 0 k in omega arith)
    (λ k. by_cond (NumberOf n) (eqb kind 2) _ _ (λ k. let j = eqb-true kind 2 k in omega arith)
    (λ k. by_cond (NumberOf n) (eqb kind 3) _ _
    (λ k. let j = eqb-true kind 3 k in
    by_cond (NumberOf n) (ltb operand 2) _ _ (λ o. let i = supply_number operand (ltb-true operand 2 o) in omega arith) (λ o. tt))
    (λ k. by_cond (NumberOf n) (eqb kind 4) _ _
    (λ k. let j = eqb-true kind 4 k in
    by_cond (NumberOf n) (eqb operand 0) _ _ (λ o. let i = eqb-true operand 0 o in omega arith) (λ o. tt))
    (λ k. tt))))))
  where
    n : ℕ
    n = coded kind word operand

    zero_word : (b : Bool) → eqb word 0 ≡ b → not b ≡ false → word ≡ 0
    zero_word true e w = eqb-true word 0 e
    zero_word false e w = absurd (true≢false w)

-- so no two numbers encode one step
pub encode_decode : (c : ℕ) (x : Step) → decode c ≡ Some x → encode x ≡ c
unfolding decode
encode_decode c x e =
    let h : encode x ≡ coded (c / 281474976710656) (c / 4294967296 % 65536) (c % 4294967296) =
    subst (λ (d : Option Step). NumberOf (coded (c / 281474976710656) (c / 4294967296 % 65536) (c % 4294967296)) d) e
    (number_as (c / 281474976710656) (c / 4294967296 % 65536) (c % 4294967296))
    in
    omega arith
