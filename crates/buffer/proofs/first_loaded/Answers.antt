-- `buffer::first_loaded` meets its contract: what the closure returns at each place is what the definition has there. Assumes nothing.
use Rattle.std.proofs.Common.{◌≡◌, refl, ◌∙◌, subst, ℕ, zero, suc, ◌+◌, ◌<◌, ◌≤◌, List, arith, cond, Bool, true, false, eqb, ltb, get_or, rules}
use Rattle.std.specs.Array.{IsFromFnResult, IsFromFnResultFrom}
use Rattle.std.specs.Iterator.{ActsAs}
use borrow.Author.Tests.{eqb-true, eqb-false}
use denote.Param.Members.{Mut, Called}
use Rattle.semantics.specs.Tabulate.{tabulate, tabulate_is}
use Rattle.semantics.specs.Writing.{first_loaded}
use Rattle.buffer.proofs.first_loaded.Goals as goal

-- an array that a closure made, which acts as h
module _ {F : Type 0} (g : Mut F (ℕ × Unit {0}) ℕ) (f : F) (h : ℕ → ℕ) (acts : ActsAs g f h) where
  made : (n i : ℕ) (p : F) (ys : List ℕ) → p ≡ f → IsFromFnResultFrom g p ys i n → (k : ℕ) → i ≤ k → k < i + n → get_or ys k 0 ≡ h k
  made zero i p ys e r k a b = absurd (omega arith)
  made (suc n) i p ys e r k a b =
      go (eqb k i) refl (λ z. made n (i + 1) r.0 ys said.0 r.4 k (omega arith) (omega arith))
    where
      said : (r.0 ≡ f) × (r.1 ≡ h i)
      said = acts i r.1 r.0 (subst (λ (z : F). Called g z (i, tt) r.1 r.0) e r.3)

      go : (t : Bool) → eqb k i ≡ t → ((k ≡ i → ⊥) → get_or ys k 0 ≡ h k) → get_or ys k 0 ≡ h k
      go true q later = rw (eqb-true k i q) (r.2.1 0 ∙ said.1)
      go false q later = later (eqb-false k i q)

  made_tabulated : (n : ℕ) (ys : List ℕ) → IsFromFnResult g f ys n → ys ≡ tabulate n h
  made_tabulated n ys r = tabulate_is n h ys r.long (λ k b. made n 0 f ys refl r.each k (omega arith) (omega arith))

pub returns : goal.returns
unfolding first_loaded
returns c = made_tabulated _ _ (λ i. cond (eqb i 0) c.args.word (cond (ltb i c.args.n) 0xFFFF 0)) (λ x y q called. (search rules, search rules)) 32 c.from_fn.result c.from_fn.ensures.items
