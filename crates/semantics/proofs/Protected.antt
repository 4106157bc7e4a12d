-- A block that no step unprotected keeps its words (protected_keeps): every entry lies in one block, and was accepted
-- with that block unprotected.
-- Assumes nothing.
use Rattle.std.specs.Prelude.{◌≡◌, refl, List, ◌∷◌, ◌++◌, Bool, cond, ℕ, ◌-◌, ◌<◌, length, get_or}
use Rattle.std.proofs.Common.{sym, ap, ◌∙◌, subst, inl, inr, arith}
use Rattle.geometry.specs.declared.Part.{Part}
use Rattle.geometry.specs.declared.Geometry.{Geometry}
use Rattle.geometry.specs.Blocks.{Sound, geometry_of, words, block_of}
use Rattle.geometry.specs.Laws as laws
use Rattle.semantics.specs.declared.Step.{Step}
use Rattle.semantics.specs.declared.Step.TheVariants.{Write}
use Rattle.semantics.specs.Numbers.{within_out}
use Rattle.semantics.specs.Layout.{only}
use Rattle.semantics.specs.Steps.{after_all, fresh}
use Rattle.semantics.specs.Entries as entries
use Rattle.semantics.specs.Entries.{Entry, entry, is_finished}
use Rattle.semantics.specs.Recorder.{Operation, program, erase, buffer, base, put, kinds, block_in, Recorder, beginning, recorded, journal_of}
use Rattle.semantics.specs.Demand.{Holds, LastUnprotected, at_this, at_later}
use Rattle.semantics.proofs.Engine.{Lies, InK, buffer_in_lem, Lying, After}
use Rattle.semantics.proofs.Theorem.{reached}
use Rattle.semantics.proofs.Standing.{every_entry_stands}
use Rattle.semantics.specs.Protected.{NeverUnprotected}

module _ (g : Geometry) where
  never_last : (b : ℕ) (m l : List Step) (c : Recorder) → NeverUnprotected g b (m ++ l) c → LastUnprotected g b c m → ⊥
  never_last b _ l c n (at_this _ s m p u) = n.0 p
  never_last b _ l c n (at_later _ s m x) = never_last b m l (recorded g c s) n.1 x

  -- an operation of the block was never accepted
  never_held : (b : ℕ) (l : List Step) → NeverUnprotected g b l beginning → (k : Operation) (n : ℕ) → Holds g k n (journal_of g l) → block_in g k ≡ b → ⊥
  never_held b l u k n x e =
      let r = every_entry_stands g k n l x in
      never_last b r.before (Write r.address r.word ∷ r.later) beginning (subst (λ (i : List Step). NeverUnprotected g b i beginning) r.whole u)
      (subst (λ (i : ℕ). LastUnprotected g i beginning r.before) e r.last_unprotected)

  -- an operation that lies in the array changes words of its block alone
  lies_in : Sound g → (k : Operation) → Lies g k → (L : ℕ) → InK g k L → block_of g L ≡ block_in g k
  lies_in sound (program l d) x L i = ap (λ (z : ℕ). block_of g z) (omega arith)
  lies_in sound (erase b) x L i = only g sound b L i.0 i.1
  lies_in sound (buffer l ws) x L i = buffer_in_lem g sound l ws x L i

  module _ (sound : Sound g) (L w : ℕ) where
    -- a journal without an entry of the word's block leaves the word
    abbrev Free : List (Entry Operation) → Type 0
    Free j = Lying g j → ((k : Operation) (n : ℕ) → Holds g k n j → block_in g k ≡ block_of g L → ⊥) → After g j L w ≡ w

    free : (k : Operation) (u : ℕ) (t : entries.Phase) (j : List (Entry Operation)) → entries.Whole (kinds g) k (is_finished t) u → Free j → Free (entry k u t ∷ j)
    free k u t j e f x h =
        let i = entries.whole_le (kinds g) k (is_finished t) u e in
        ap (λ (b : Bool). cond b (put g k (L - base g k) (After g j L w)) (After g j L w))
        (within_out (base g k) u L (λ y z. h k (length j) (inl (refl, refl)) (sym (lies_in sound k x.0 L (y, omega arith)))))
        ∙ f x.1 (λ i n y. h i n (inr y))

-- a block that no step unprotected keeps every word
pub protected_keeps : (p : Part) (l : List Step) (xs : List ℕ) → length xs ≡ words (geometry_of p) → (L : ℕ) → L < words (geometry_of p)
    → NeverUnprotected (geometry_of p) (block_of (geometry_of p) L) l beginning → get_or (after_all (fresh p xs) l).array L 0 ≡ get_or xs L 0
protected_keeps p l xs h L k n =
    let a = reached p l xs h in
    a.word L k
    ∙ entries.match_each (kinds (geometry_of p)) (Free (geometry_of p) (laws.sound p) L (get_or xs L 0)) (λ x y. refl) (free (geometry_of p) (laws.sound p) L (get_or xs L 0)) a.sim.match a.sim.lying
    (never_held (geometry_of p) (block_of (geometry_of p) L) l n)
