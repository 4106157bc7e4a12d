-- What each of the recorder's events changes, in one list, which every walk over the events goes by. Of the journal an
-- event adds an entry, works on it, or changes phases alone; of supply and protection it switches the supply, resets,
-- protects or unprotects a block, or leaves both. Assumes nothing.
use Rattle.std.specs.Prelude.{◌≡◌, refl, List, [], ◌∷◌, map, Bool, true, false, ℕ}
use Rattle.std.proofs.Common.{ap, ◌∙◌}
use Rattle.geometry.specs.declared.Geometry.{Geometry}
use Rattle.semantics.specs.Entries.{Entry, Rephases, paused, resumed, paused_rephases, resumed_rephases, broken_rephases}
use Rattle.semantics.specs.Recorder.{Operation, kinds, is_program, is_erase, is_any, is_none, Conditions, conditions_after, journal_after, all_broken, running_broken, suspended_broken}
use Rattle.semantics.specs.Recorder.{Event, nothing, supplied, was_reset, units, suspend, resume_program, resume_erase, end_program, end_erase, setup_is, unprotected_is, accept}

pub data OnJournal (g : Geometry) : Event → Type 0 where
  adds : (k : Operation) → OnJournal g (accept k)
  works : (n : ℕ) → OnJournal g (units n)
  rephases : (v : Event) (f : Entry Operation → Entry Operation) → Rephases (kinds g) f → ((j : List (Entry Operation)) → journal_after g v j ≡ map f j) → OnJournal g v

pub data OnConditions : Event → Type 0 where
  switches : (on : Bool) → OnConditions (supplied on)
  resets : OnConditions was_reset
  protects : (b : ℕ) (o : Bool) → OnConditions (unprotected_is b o)
  leaves : (v : Event) → ((d : Conditions) → ((conditions_after v d).supply ≡ d.supply) × ((conditions_after v d).unprotected ≡ d.unprotected)) → OnConditions v

pub map_same : (j : List (Entry Operation)) → j ≡ map (λ e. e) j
map_same [] = refl
map_same (e ∷ j) = ap (λ (i : List (Entry Operation)). e ∷ i) (map_same j)

module _ (g : Geometry) where
  -- an event that leaves the journal
  abbrev pub stays : (v : Event) → ((j : List (Entry Operation)) → journal_after g v j ≡ j) → OnJournal g v
  stays v h = rephases v (λ e. e) (λ k u t. (refl, refl)) (λ j. h j ∙ map_same j)

  abbrev pub changes : (v : Event) → OnJournal g v × OnConditions v
  changes nothing = (stays nothing (λ j. refl), leaves nothing (λ d. (refl, refl)))
  changes (supplied true) = (stays (supplied true) (λ j. refl), switches true)
  changes (supplied false) = (rephases (supplied false) running_broken (broken_rephases (kinds g) true is_none) (λ j. refl), switches false)
  changes was_reset = (rephases was_reset all_broken (broken_rephases (kinds g) true is_any) (λ j. refl), resets)
  changes (units n) = (works n, leaves (units n) (λ d. (refl, refl)))
  changes suspend = (rephases suspend paused (paused_rephases (kinds g)) (λ j. refl), leaves suspend (λ d. (refl, refl)))
  changes resume_program = (rephases resume_program (resumed is_program) (resumed_rephases (kinds g) is_program) (λ j. refl), leaves resume_program (λ d. (refl, refl)))
  changes resume_erase = (rephases resume_erase (resumed is_erase) (resumed_rephases (kinds g) is_erase) (λ j. refl), leaves resume_erase (λ d. (refl, refl)))
  changes end_program = (rephases end_program (suspended_broken is_program) (broken_rephases (kinds g) false is_program) (λ j. refl), leaves end_program (λ d. (refl, refl)))
  changes end_erase = (rephases end_erase (suspended_broken is_erase) (broken_rephases (kinds g) false is_erase) (λ j. refl), leaves end_erase (λ d. (refl, refl)))
  changes (setup_is s) = (stays (setup_is s) (λ j. refl), leaves (setup_is s) (λ d. (refl, refl)))
  changes (unprotected_is b o) = (stays (unprotected_is b o) (λ j. refl), protects b o)
  changes (accept k) = (adds k, leaves (accept k) (λ d. (refl, refl)))
