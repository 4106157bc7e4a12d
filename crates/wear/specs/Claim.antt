-- What the counts are after a list of steps from power-up: definitions only, from the steps and the recorder, with nothing of the device. That it holds of every list is
-- `counts_stand` (Theorem).
-- Assumes nothing.
use Rattle.std.specs.Prelude.{ℕ, suc, ◌<◌, min, Bool, true, false, cond, ◌&&◌, List, [], ◌∷◌, ◌≡◌, eqb}
use Rattle.geometry.specs.declared.Part.{Part}
use Rattle.geometry.specs.Blocks.{geometry_of, blocks}
use Rattle.semantics.specs.declared.Step.{Step}
use Rattle.semantics.specs.Entries.{Entry, entry, is_finished}
use Rattle.semantics.specs.Recorder.{Operation, program, erase, buffer, journal_of}
use Rattle.wear.specs.Counts.{Counts, count_of, shared_zero}

-- an operation is an erase of block b, and an entry of the journal a finished one
abbrev pub erases : ℕ → Operation → Bool
erases b (program l w) = false
erases b (erase c) = eqb c b
erases b (buffer l ws) = false

abbrev pub is_finished_erase : ℕ → Entry Operation → Bool
is_finished_erase b (entry k u t) = is_finished t && erases b k

-- "the number of finished erases of that block in the journal"
abbrev pub finished_erases : ℕ → List (Entry Operation) → ℕ
finished_erases b [] = 0
finished_erases b (e ∷ j) = cond (is_finished_erase b e) (suc (finished_erases b j)) (finished_erases b j)

-- "after any steps from power-up that each count is the lesser of 65,535 and the number of finished erases of that block in the journal": of the counts k after the steps l of the
-- part p; and the shared place is 0
pub record CountsStand (p : Part) (l : List Step) (k : Counts) : Type 0 where
  pub count : (b : ℕ) → b < blocks (geometry_of p) → count_of k b ≡ min 65535 (finished_erases b (journal_of (geometry_of p) l))
  pub shared : shared_zero k.main ≡ true
