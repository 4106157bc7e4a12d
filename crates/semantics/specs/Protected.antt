-- No step unprotects a block: what `protected_keeps` (proofs/Protected) asks of a list of steps.
-- Assumes nothing.
use Rattle.std.specs.Prelude.{[], List, ◌∷◌, true, ℕ}
use Rattle.geometry.specs.declared.Geometry.{Geometry}
use Rattle.semantics.specs.declared.Step.{Step}
use Rattle.semantics.specs.Recorder.{Recorder, recorded}
use Rattle.semantics.specs.Demand.{ProtectionCommand}

module _ (g : Geometry) where
  -- no step unprotects b; c is the recorder before them
  abbrev pub NeverUnprotected : ℕ → List Step → Recorder → Type 0
  NeverUnprotected b [] c = Unit {0}
  NeverUnprotected b (s ∷ l) c = (ProtectionCommand g b true c.conditions.setup s → ⊥) × NeverUnprotected b l (recorded g c s)
