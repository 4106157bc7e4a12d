-- DEMAND 3 whole (demand_3_whole): the words, and that every entry of the journal was accepted with supply on and its block unprotected, which is said of the
-- steps before its acceptance.
-- Assumes nothing.
use Rattle.std.specs.Prelude.{◌≡◌, List, [], ◌∷◌, true, false, ◌⊎◌, ℕ, length}
use Rattle.std.proofs.Common.{sym, ap, ◌∙◌, subst, inl, inr}
use Rattle.std.proofs.lemmas.Bool.{false≢true}
use Rattle.geometry.specs.declared.Part.{Part}
use Rattle.geometry.specs.declared.Geometry.{Geometry}
use Rattle.geometry.specs.Blocks.{Sound, geometry_of, words, block_of}
use Rattle.geometry.specs.Laws as laws
use Rattle.semantics.specs.declared.Step.{Step}
use Rattle.semantics.specs.Numbers.{within_true}
use Rattle.semantics.specs.Steps.{after_all, fresh}
use Rattle.semantics.specs.Entries.{Entry}
use Rattle.semantics.specs.Recorder.{Operation, program, erase, buffer, block_in, beginning, journal_of}
use Rattle.semantics.specs.Demand.{NoSupply, SupplyOn, Covers, Holds, Undisturbed, LastUnprotected, Stands, Demand3}
use Rattle.semantics.proofs.Engine.{Lies, buffer_in_lem, Lying}
use Rattle.semantics.proofs.Theorem.{demand_3, reached, reached_length}
use Rattle.semantics.proofs.Accepted.{Accepted, accepted}
use Rattle.semantics.proofs.Since.{supply_since, unprotected_since}

module _ (g : Geometry) where
  -- an operation that lies in the array covers words of its block alone
  covers_in : Sound g → (k : Operation) → Lies g k → (L : ℕ) → Covers g k L → block_of g L ≡ block_in g k
  covers_in sound (program l d) x L e = ap (block_of g) e
  covers_in sound (erase b) x L e = e
  covers_in sound (buffer l ws) x L e = buffer_in_lem g sound l ws x L (within_true l (length ws) L e)

  lying_holds : (k : Operation) (n : ℕ) (j : List (Entry Operation)) → Lying g j → Holds g k n j → Lies g k
  lying_holds k n [] x h = absurd h
  lying_holds k n (e ∷ j) x (inl h) = subst (Lies g) (sym h.0) x.0
  lying_holds k n (e ∷ j) x (inr h) = lying_holds k n j x.1 h

-- every entry of the journal stands so
pub every_entry_stands : (g : Geometry) (k : Operation) (n : ℕ) (l : List Step) → Holds g k n (journal_of g l) → Stands g k n l
every_entry_stands g k n l h = go (accepted g k n l beginning h)
  where
    last : (b : ℕ) (i : List Step) → LastUnprotected g b beginning i ⊎ ((false ≡ true) × Undisturbed g b beginning i) → LastUnprotected g b beginning i
    last b i (inl x) = x
    last b i (inr x) = absurd (false≢true x.0)

    on : (i : List Step) → SupplyOn i ⊎ ((false ≡ true) × NoSupply i) → SupplyOn i
    on i (inl x) = x
    on i (inr x) = absurd (false≢true x.0)

    go : ⊥ ⊎ Accepted g k n beginning l → Stands g k n l
    go (inl x) = absurd x
    go (inr r) = record {
      before = r.before;
      address = r.address;
      word = r.word;
      later = r.later;
      whole = r.whole;
      accepting_cycle = r.accepting_cycle;
      accepts = r.accepts;
      place = r.place;
      supply_on = on r.before (supply_since g r.before beginning r.supply_on);
      last_unprotected = last (block_in g k) r.before (unprotected_since g (block_in g k) r.before beginning r.unprotected);
    }

-- DEMAND 3, as one claim: for every part p, every list l of the five steps, refused ones included, and every array xs of the part's length
pub demand_3_whole : (p : Part) (l : List Step) (xs : List ℕ) → length xs ≡ words (geometry_of p) → Demand3 p l xs (after_all (fresh p xs) l).array
demand_3_whole p l xs h = record {
  length_same = reached_length p l xs h ∙ sym h;
  word = demand_3 p l xs h;
  in_block = λ k n x L c. covers_in (geometry_of p) (laws.sound p) k (lying_holds (geometry_of p) k n (journal_of (geometry_of p) l) (reached p l xs h).sim.lying x) L c;
  stands = λ k n. every_entry_stands (geometry_of p) k n l;
}
