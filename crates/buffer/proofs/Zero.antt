-- The words from a place on are 0 where their join by `or` is. Assumes nothing.
use Rattle.std.proofs.Common.{ℕ, zero, suc, ◌+◌, ◌<◌, ◌≤◌, List, [], ◌∷◌, ◌≡◌, min, sym, ap, ◌∙◌, refl, arith, eqb, Bool, true, false, ◌&&◌, bit_or, drop, length, get_or}
use Rattle.std.specs.Prelude.{fold}
use Rattle.std.proofs.Math.Bool.{and-true}
use Rattle.std.proofs.Math.Seq.{drop-nil}
use mathlib.Core.Bool.{and_assoc}
use lib.Bits.{or_add_and, and_le_l, and_le_r}
use borrow.Author.Tests.{eq-eqb, ne_eqb, eqb-true, eqb-false}
use Rattle.semantics.specs.WellFormed.{zero_from}

-- past the end there is no word
pub zero_past : (n : ℕ) (l : List ℕ) → length l ≤ n → zero_from n l ≡ true
unfolding zero_from
zero_past n [] h = refl
zero_past zero (x ∷ l) h = absurd (omega arith)
zero_past (suc n) (x ∷ l) h = zero_past n l (omega arith)

zero_next : (n : ℕ) (l : List ℕ) → n < length l → zero_from n l ≡ (eqb (get_or l n 0) 0 && zero_from (suc n) l)
unfolding zero_from
zero_next n [] h = absurd (omega arith)
zero_next zero (x ∷ l) h = refl
zero_next (suc n) (x ∷ l) h = zero_next n l (omega arith)

or_zero : (a b : ℕ) → eqb (bit_or a b) 0 ≡ (eqb a 0 && eqb b 0)
or_zero a b = go (eqb a 0) (eqb b 0) refl refl
  where
    go : (x y : Bool) → eqb a 0 ≡ x → eqb b 0 ≡ y → eqb (bit_or a b) 0 ≡ (x && y)
    go true true e f = eq-eqb (bit_or a b) 0 (omega (arith, or_add_and a b, eqb-true a 0 e, eqb-true b 0 f))
    go true false e f = ne_eqb (bit_or a b) 0 (λ q. eqb-false b 0 f (omega (arith, or_add_and a b, and_le_l a b)))
    go false y e f = ne_eqb (bit_or a b) 0 (λ q. eqb-false a 0 e (omega (arith, or_add_and a b, and_le_r a b)))

-- one word more
pub zero_more : (n i any : ℕ) (l : List ℕ) → i < length l → zero_from n l ≡ (eqb any 0 && zero_from i l) → zero_from n l ≡ (eqb (bit_or any (get_or l i 0)) 0 && zero_from (i + 1) l)
zero_more n i any l h p =
    let e : i + 1 ≡ suc i = omega arith in
    p ∙ ap (λ (t : Bool). eqb any 0 && t) (zero_next i l h) ∙ sym (and_assoc (eqb any 0) (eqb (get_or l i 0) 0) (zero_from (suc i) l)) ∙ rw (or_zero any (get_or l i 0), e)

-- a join that begins with a
begun : (a : ℕ) (l : List ℕ) → eqb (fold bit_or a l) 0 ≡ (eqb a 0 && zero_from 0 l)
unfolding zero_from
begun a [] = sym (and-true (eqb a 0))
begun a (x ∷ l) = begun (bit_or a x) l ∙ ap (λ (t : Bool). t && zero_from 0 l) (or_zero a x) ∙ and_assoc (eqb a 0) (eqb x 0) (zero_from 0 l)

-- the join of the words from place n on; past the end there is none
pub joined : (n : ℕ) (l : List ℕ) → eqb (fold bit_or 0 (drop (min n (length l)) l)) 0 ≡ zero_from n l
unfolding zero_from
joined n [] = rw (drop-nil {A = ℕ} (min n 0)) refl
joined zero (x ∷ l) =
    let e : min 0 (suc (length l)) ≡ 0 = omega arith in
    rw e (begun 0 (x ∷ l))
joined (suc n) (x ∷ l) =
    let e : min (suc n) (suc (length l)) ≡ suc (min n (length l)) = omega arith in
    rw e (joined n l)
