-- `playback::decoded` meets its contract, arm by arm. Assumes nothing.
use Rattle.std.proofs.Common.{ℕ, ◌/◌, ◌%◌, ◌<◌, ◌≤◌, ◌≡◌, false, Some, eqb, arith, eq-eqb, ne_eqb, lt-ltb, le-ltb}
use Rattle.semantics.specs.declared.Step.TheVariants.{Read}
use Rattle.semantics.specs.Encoding.{decode, decoded_as}
use Rattle.playback.proofs.decoded.Goals as goal

-- a number below 2 ^ 32 encodes a read; another one whose word is 0 is of another kind
read : (code : ℕ) → code < 4294967296 → Some (Read (code % 4294967296)) ≡ decode code
unfolding decode decoded_as
read code h =
    let kind : code / 281474976710656 ≡ 0 = omega arith in
    let word : code / 4294967296 % 65536 ≡ 0 = omega arith in
    rw (kind, word)

no_read : (code : ℕ) → 4294967296 ≤ code → code / 4294967296 % 65536 ≡ 0 → eqb (code / 281474976710656) 0 ≡ false
no_read code h word = ne_eqb _ _ (λ (kind : code / 281474976710656 ≡ 0). omega arith)

pub returns-then-code-lt4294967296 : goal.returns-then-code-lt4294967296
returns-then-code-lt4294967296 c = read _ c.if-code-lt4294967296.true

pub returns-in-1 : goal.returns-in-1
unfolding decode decoded_as
returns-in-1 c = simp (eq-eqb _ _ c.in-1.is)

pub returns-in_default : goal.returns-in_default
unfolding decode decoded_as
returns-in_default c = simp (ne_eqb _ _ c.in_default.in_default-own.rest.1, ne_eqb _ _ c.if-word-ne0.true)

pub returns-in-2 : goal.returns-in-2
unfolding decode decoded_as
returns-in-2 c = rw (c.in-2.is, eq-eqb _ _ c.if-word-ne0.false)

pub returns-in-3 : goal.returns-in-3
unfolding decode decoded_as
returns-in-3 c = rw (c.in-3.is, eq-eqb _ _ c.if-word-ne0.false, lt-ltb _ _ c.if-operand-lt2.true)

pub returns-in-4 : goal.returns-in-4
unfolding decode decoded_as
returns-in-4 c = rw (c.in-4.is, eq-eqb _ _ c.if-word-ne0.false, eq-eqb _ _ c.if-operand-eq0.true)

pub returns-in_default-2 : goal.returns-in_default-2
unfolding decode decoded_as
returns-in_default-2 c = rw (c.in-3.is, eq-eqb _ _ c.if-word-ne0.false, le-ltb _ _ c.if-operand-lt2.false)

pub returns-in_default-2-2 : goal.returns-in_default-2-2
unfolding decode decoded_as
returns-in_default-2-2 c = rw (c.in-4.is, eq-eqb _ _ c.if-word-ne0.false, ne_eqb _ _ c.if-operand-eq0.false)

pub returns-in_default-2-3 : goal.returns-in_default-2-3
unfolding decode decoded_as
returns-in_default-2-3 c = simp (ne_eqb _ _ c.in_default.in_default-own.rest.1, eq-eqb _ _ c.if-word-ne0.false, no_read _ c.if-code-lt4294967296.false c.if-word-ne0.false, ne_eqb _ _ c.in_default-2.in_default-2-own.rest.0.0.1, ne_eqb _ _ c.in_default-2.in_default-2-own.rest.0.1, ne_eqb _ _ c.in_default-2.in_default-2-own.rest.1)
