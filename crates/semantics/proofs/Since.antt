-- What the recorder holds of supply and of a block's protection, said of the steps: the last step that switched the
-- supply, and the last protection command for the block since power-up or the last reset. Both ways. Assumes nothing.
use Rattle.std.specs.Prelude.{◌≡◌, refl, List, [], ◌∷◌, ◌++◌, Bool, true, false, ◌⊎◌, ℕ, eqb}
use Rattle.std.proofs.Common.{sym, ap, ◌∙◌, subst, true≢false, inl, inr, arith, eqb-true, eq-eqb}
use Rattle.std.proofs.lemmas.Bool.{false≢true}
use Rattle.geometry.specs.declared.Geometry.{Geometry}
use Rattle.semantics.specs.declared.Step.{Step}
use Rattle.semantics.specs.declared.Step.TheVariants.{Read, Write, Work, Supply, Reset}
use Rattle.semantics.specs.Recorder.{Event, supplied, was_reset, unprotected_is, no_setup, Conditions, conditions_after, Recorder, recorded, recorded_all, event}
use Rattle.semantics.specs.Demand.{NoSupply, SupplyOn, ProtectionCommand, Undisturbed, LastUnprotected, at_this, at_later}
use Rattle.semantics.proofs.Events.{OnConditions, switches, resets, protects, leaves, changes}
use Rattle.semantics.proofs.Causes.{event_cause, protection_event, cause_protection, cause_reset, supply_kept}

-- every block is unprotected, or every one protected
abbrev all_are : Bool → Conditions
all_are o = record { supply = false; unprotected = λ c. o; setup = no_setup }

-- an event that leaves the protection of block b, whatever it is
abbrev Leaves : ℕ → Event → Type 0
Leaves b v = (d : Conditions) → (conditions_after v d).unprotected b ≡ d.unprotected b

sets_block : (b : ℕ) (o : Bool) (d : Conditions) → (conditions_after (unprotected_is b o) d).unprotected b ≡ o
sets_block b o d = rw (eq-eqb b b refl)

not_left : (b : ℕ) (o : Bool) → Leaves b (unprotected_is b o) → ⊥
not_left b true f = true≢false (sym (sets_block b true (all_are false)) ∙ f (all_are false))
not_left b false f = false≢true (sym (sets_block b false (all_are true)) ∙ f (all_are true))

-- a step switches the supply or does not
pub supply_or_not : (s : Step) → ((on : Bool) × (s ≡ Supply on)) ⊎ ((on : Bool) → s ≡ Supply on → ⊥)
supply_or_not (Supply on) = inl (on, refl)
supply_or_not (Read a) = inr (λ on e. let z : ◌≡◌ {A = ℕ} 0 1 = cc in omega arith)
supply_or_not (Write a w) = inr (λ on e. let z : ◌≡◌ {A = ℕ} 0 1 = cc in omega arith)
supply_or_not (Work n) = inr (λ on e. let z : ◌≡◌ {A = ℕ} 0 1 = cc in omega arith)
supply_or_not Reset = inr (λ on e. let z : ◌≡◌ {A = ℕ} 0 1 = cc in omega arith)

module _ (g : Geometry) where
  -- ---- protection

  -- a step resets, is a protection command for block b, or is neither and leaves the block's protection
  data Touches (b : ℕ) (c : Recorder) (s : Step) : Type 0 where
    shuts : s ≡ Reset → Touches b c s
    sets : (o : Bool) → ProtectionCommand g b o c.conditions.setup s → Touches b c s
    misses : (s ≡ Reset → ⊥) → ((o : Bool) → ProtectionCommand g b o c.conditions.setup s → ⊥) → (recorded g c s).conditions.unprotected b ≡ c.conditions.unprotected b → Touches b c s

  touches : (b : ℕ) (c : Recorder) (s : Step) → Touches b c s
  touches b c s = go (event g s c) refl (changes g (event g s c)).1
    where
      missed : (v : Event) → event g s c ≡ v → Leaves b v → Touches b c s
      missed v e f =
          misses (λ x. false≢true (subst (Leaves b) (sym e ∙ ap (λ (y : Step). event g y c) x) f (all_are true)))
          (λ o x. not_left b o (subst (Leaves b) (sym e ∙ protection_event g b o c s x) f))
          (ap (λ (w : Event). (conditions_after w c.conditions).unprotected b) e ∙ f c.conditions)

      block : (i : ℕ) (o : Bool) → event g s c ≡ unprotected_is i o → (t : Bool) → eqb b i ≡ t → Touches b c s
      block i o e true x = sets o (cause_protection g (event_cause g c s (unprotected_is b o) (e ∙ ap (λ (n : ℕ). unprotected_is n o) (sym (eqb-true b i x)))))
      block i o e false x = missed (unprotected_is i o) e (λ d. rw x)

      go : (v : Event) → event g s c ≡ v → OnConditions v → Touches b c s
      go v e (switches on) = missed (supplied on) e (λ d. refl)
      go v e resets = shuts (cause_reset g (event_cause g c s was_reset e))
      go v e (protects i o) = block i o e (eqb b i) refl
      go v e (leaves _ f) = missed v e (λ d. ap (λ (u : ℕ → Bool). u b) (f d).1)

  command_sets : (b : ℕ) (o : Bool) (c : Recorder) (s : Step) → ProtectionCommand g b o c.conditions.setup s → (recorded g c s).conditions.unprotected b ≡ o
  command_sets b o c s p = ap (λ (v : Event). (conditions_after v c.conditions).unprotected b) (protection_event g b o c s p) ∙ sets_block b o c.conditions

  pub unprotected_since : (b : ℕ) (l : List Step) (c : Recorder) → (recorded_all g c l).conditions.unprotected b ≡ true
      → LastUnprotected g b c l ⊎ ((c.conditions.unprotected b ≡ true) × Undisturbed g b c l)
  unprotected_since b [] c h = inr (h, tt)
  unprotected_since b (s ∷ l) c h = go (unprotected_since b l (recorded g c s) h)
    where
      by_touch : (recorded g c s).conditions.unprotected b ≡ true → Undisturbed g b (recorded g c s) l → Touches b c s → LastUnprotected g b c (s ∷ l) ⊎ ((c.conditions.unprotected b ≡ true) × Undisturbed g b c (s ∷ l))
      by_touch x u (shuts e) = absurd (false≢true (sym (ap (λ (y : Step). (recorded g c y).conditions.unprotected b) e) ∙ x))
      by_touch x u (sets true p) = inl (at_this c s l p u)
      by_touch x u (sets false p) = absurd (false≢true (sym (command_sets b false c s p) ∙ x))
      by_touch x u (misses n m q) = inr (sym q ∙ x, (n, m, u))

      go : LastUnprotected g b (recorded g c s) l ⊎ (((recorded g c s).conditions.unprotected b ≡ true) × Undisturbed g b (recorded g c s) l)
          → LastUnprotected g b c (s ∷ l) ⊎ ((c.conditions.unprotected b ≡ true) × Undisturbed g b c (s ∷ l))
      go (inl x) = inl (at_later c s l x)
      go (inr x) = by_touch x.0 x.1 (touches b c s)

  unprotected_quiet : (b : ℕ) (l : List Step) (c : Recorder) → Undisturbed g b c l → (recorded_all g c l).conditions.unprotected b ≡ c.conditions.unprotected b
  unprotected_quiet b [] c u = refl
  unprotected_quiet b (s ∷ l) c u = unprotected_quiet b l (recorded g c s) u.2 ∙ go (touches b c s)
    where
      go : Touches b c s → (recorded g c s).conditions.unprotected b ≡ c.conditions.unprotected b
      go (shuts e) = absurd (u.0 e)
      go (sets o p) = absurd (u.1 o p)
      go (misses n m q) = q

  -- and no less: what is said of the steps holds only where the recorder has the block unprotected
  pub last_unprotected_only : (b : ℕ) (l : List Step) (c : Recorder) → LastUnprotected g b c l → (recorded_all g c l).conditions.unprotected b ≡ true
  last_unprotected_only b _ c (at_this _ s l p u) = unprotected_quiet b l (recorded g c s) u ∙ command_sets b true c s p
  last_unprotected_only b _ c (at_later _ s l x) = last_unprotected_only b l (recorded g c s) x

  -- ---- supply

  -- a step that does not switch the supply leaves it
  supply_same : (c : Recorder) (s : Step) → ((on : Bool) → s ≡ Supply on → ⊥) → (recorded g c s).conditions.supply ≡ c.conditions.supply
  supply_same c s n = supply_kept g (event_cause g c s (event g s c) refl) n

  pub supply_since : (l : List Step) (c : Recorder) → (recorded_all g c l).conditions.supply ≡ true → SupplyOn l ⊎ ((c.conditions.supply ≡ true) × NoSupply l)
  supply_since [] c h = inr (h, tt)
  supply_since (s ∷ l) c h = go (supply_since l (recorded g c s) h)
    where
      switched : (recorded g c s).conditions.supply ≡ true → NoSupply l → (on : Bool) → s ≡ Supply on → SupplyOn (s ∷ l)
      switched x n true e = record { earlier = []; since = l; whole = ap (λ (y : Step). y ∷ l) e; none_since = n }
      switched x n false e = absurd (false≢true (sym (ap (λ (y : Step). (recorded g c y).conditions.supply) e) ∙ x))

      last : (recorded g c s).conditions.supply ≡ true → NoSupply l → ((on : Bool) × (s ≡ Supply on)) ⊎ ((on : Bool) → s ≡ Supply on → ⊥) → SupplyOn (s ∷ l) ⊎ ((c.conditions.supply ≡ true) × NoSupply (s ∷ l))
      last x n (inl e) = inl (switched x n e.0 e.1)
      last x n (inr m) = inr (sym (supply_same c s m) ∙ x, (m, n))

      go : SupplyOn l ⊎ (((recorded g c s).conditions.supply ≡ true) × NoSupply l) → SupplyOn (s ∷ l) ⊎ ((c.conditions.supply ≡ true) × NoSupply (s ∷ l))
      go (inl x) = inl (record { earlier = s ∷ x.earlier; since = x.since; whole = ap (λ (m : List Step). s ∷ m) x.whole; none_since = x.none_since })
      go (inr x) = last x.0 x.1 (supply_or_not s)

  recorded_append : (l m : List Step) (c : Recorder) → recorded_all g c (l ++ m) ≡ recorded_all g (recorded_all g c l) m
  recorded_append [] m c = refl
  recorded_append (s ∷ l) m c = recorded_append l m (recorded g c s)

  supply_quiet : (l : List Step) (c : Recorder) → NoSupply l → (recorded_all g c l).conditions.supply ≡ c.conditions.supply
  supply_quiet [] c n = refl
  supply_quiet (s ∷ l) c n = supply_quiet l (recorded g c s) n.1 ∙ supply_same c s n.0

  -- and no less: what is said of the steps holds only where the recorder has supply on
  pub supply_on_only : (l : List Step) (c : Recorder) → SupplyOn l → (recorded_all g c l).conditions.supply ≡ true
  supply_on_only l c h =
      ap (λ (m : List Step). (recorded_all g c m).conditions.supply) h.whole
      ∙ ap (λ (r : Recorder). r.conditions.supply) (recorded_append h.earlier (Supply true ∷ h.since) c)
      ∙ supply_quiet h.since (recorded g (recorded_all g c h.earlier) (Supply true)) h.none_since
