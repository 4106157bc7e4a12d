-- Every entry of the journal was accepted at a write that is its accepting cycle, with supply on and its block
-- unprotected as the recorder has it. Assumes nothing.
use Rattle.std.specs.Prelude.{◌≡◌, refl, List, [], ◌∷◌, ◌++◌, map, true, ◌⊎◌, ℕ, suc, length}
use Rattle.std.proofs.Common.{sym, ap, ◌∙◌, inl, inr}
use Rattle.geometry.specs.declared.Geometry.{Geometry}
use Rattle.semantics.specs.declared.Step.{Step}
use Rattle.semantics.specs.declared.Step.TheVariants.{Write}
use Rattle.semantics.specs.Entries.{Phase, Entry, entry, worked}
use Rattle.semantics.specs.Recorder.{Operation, Event, accept, kinds, block_in, Recorder, recorded, recorded_all, event, journal_after}
use Rattle.semantics.specs.Demand.{AcceptingCycle, operation_of, Holds}
use Rattle.semantics.proofs.Events.{OnJournal, adds, works, rephases, changes}
use Rattle.semantics.proofs.Causes.{Caused, by_accept, event_cause}

module _ (g : Geometry) where
  -- ---- where an entry of the journal comes from

  length_map : (f : Entry Operation → Entry Operation) (j : List (Entry Operation)) → length (map f j) ≡ length j
  length_map f [] = refl
  length_map f (e ∷ j) = ap suc (length_map f j)

  holds_map : (k : Operation) (n : ℕ) (f : Entry Operation → Entry Operation) → ((i : Operation) (u : ℕ) (t : Phase) → operation_of g (f (entry i u t)) ≡ i) → (j : List (Entry Operation)) → Holds g k n (map f j) → Holds g k n j
  holds_map k n f h [] x = x
  holds_map k n f h (entry i u t ∷ j) (inl x) = inl (x.0 ∙ h i u t, sym (length_map f j) ∙ x.1)
  holds_map k n f h (entry i u t ∷ j) (inr x) = inr (holds_map k n f h j x)

  holds_after : (k : Operation) (n : ℕ) (v : Event) (j : List (Entry Operation)) → Holds g k n (journal_after g v j) → Holds g k n j ⊎ ((v ≡ accept k) × (length j ≡ n))
  holds_after k n v j x = go (changes g v).0 x
    where
      go : {v : Event} → OnJournal g v → Holds g k n (journal_after g v j) → Holds g k n j ⊎ ((v ≡ accept k) × (length j ≡ n))
      go (adds i) (inl y) = inr (ap accept (sym y.0), y.1)
      go (adds i) (inr y) = inl y
      go (works m) y = inl (holds_map k n (worked (kinds g) m) (λ i u t. refl) j y)
      go (rephases v f h q) y = inl (holds_map k n f (λ i u t. ap (operation_of g) (h i u t).0) j (rw (q j) at y))

  -- ---- where an operation was accepted: the steps before, the write, and the steps after; c is the recorder before them all

  pub record Accepted (k : Operation) (n : ℕ) (c : Recorder) (l : List Step) : Type 0 where
    pub before : List Step
    pub address : ℕ
    pub word : ℕ
    pub later : List Step
    pub whole : l ≡ before ++ (Write address word ∷ later)
    pub accepting_cycle : AcceptingCycle g (recorded_all g c before).conditions.setup address word k
    pub accepts : event g (Write address word) (recorded_all g c before) ≡ accept k
    pub place : length (recorded_all g c before).journal ≡ n
    pub supply_on : (recorded_all g c before).conditions.supply ≡ true
    pub unprotected : (recorded_all g c before).conditions.unprotected (block_in g k) ≡ true

  here : (k : Operation) (n : ℕ) (c : Recorder) (s : Step) (l : List Step) → event g s c ≡ accept k → length c.journal ≡ n → Caused g c s (accept k) → Accepted k n c (s ∷ l)
  here k n c s l e z (by_accept _ a w i x o) =
      record { before = []; address = a; word = w; later = l; whole = ap (λ (y : Step). y ∷ l) i; accepting_cycle = x; accepts = ap (λ (y : Step). event g y c) (sym i) ∙ e; place = z; supply_on = o.0; unprotected = o.1 }

  further : (k : Operation) (n : ℕ) (c : Recorder) (s : Step) (l : List Step) → Accepted k n (recorded g c s) l → Accepted k n c (s ∷ l)
  further k n c s l r =
      record { before = s ∷ r.before; address = r.address; word = r.word; later = r.later; whole = ap (λ (m : List Step). s ∷ m) r.whole; accepting_cycle = r.accepting_cycle; accepts = r.accepts; place = r.place; supply_on = r.supply_on; unprotected = r.unprotected }

  -- every entry was accepted so
  pub accepted : (k : Operation) (n : ℕ) (l : List Step) (c : Recorder) → Holds g k n (recorded_all g c l).journal → Holds g k n c.journal ⊎ Accepted k n c l
  accepted k n [] c x = inl x
  accepted k n (s ∷ l) c x = go (accepted k n l (recorded g c s) x)
    where
      new : Holds g k n c.journal ⊎ ((event g s c ≡ accept k) × (length c.journal ≡ n)) → Holds g k n c.journal ⊎ Accepted k n c (s ∷ l)
      new (inl y) = inl y
      new (inr e) = inr (here k n c s l e.0 e.1 (event_cause g c s (accept k) e.0))

      go : Holds g k n (recorded g c s).journal ⊎ Accepted k n (recorded g c s) l → Holds g k n c.journal ⊎ Accepted k n c (s ∷ l)
      go (inr a) = inr (further k n c s l a)
      go (inl y) = new (holds_after k n (event g s c) c.journal y)
