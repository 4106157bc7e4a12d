-- An erase reached a word: what sets a bit, by `only_erases_set` (proofs/SingleBits).
-- Assumes nothing.
use Rattle.std.specs.Prelude.{[], ◌≡◌, List, ◌∷◌, ◌⊎◌, ℕ, ◌-◌, ◌<◌, ◌%◌, ◌/◌, ◌^◌}
use Rattle.geometry.specs.declared.Geometry.{Geometry}
use Rattle.geometry.specs.Blocks.{block_of, start_of}
use Rattle.semantics.specs.Entries.{Entry, entry}
use Rattle.semantics.specs.Recorder.{Operation, program, erase, buffer}

-- bit i of a word
abbrev pub bit : ℕ → ℕ → ℕ
bit w i = w / 2 ^ i % 2

module _ (g : Geometry) where
  -- the journal has an erase of L's block that has had more units than words of the block lie below L
  abbrev pub Erased : List (Entry Operation) → ℕ → Type 0
  Erased [] L = ⊥
  Erased (entry (program l d) u t ∷ j) L = Erased j L
  Erased (entry (buffer l ws) u t ∷ j) L = Erased j L
  Erased (entry (erase b) u t ∷ j) L = ((b ≡ block_of g L) × (L - start_of g b < u)) ⊎ Erased j L
