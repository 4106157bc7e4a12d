-- Calls in a row: power-up and any number of runs, each on the words and the array that the last one left, are one list
-- of steps (calls_are_one_list).
-- Assumes nothing.
use Rattle.std.specs.Prelude.{ℕ, ◌+◌, true, ◌≡◌}
use mathlib.Core.List.{List, [], ◌++◌, map}
use Rattle.std.proofs.Math.ListN.{length, take}
use Rattle.geometry.specs.declared.Part.{Part}
use Rattle.geometry.specs.Blocks.{geometry_of, words}
use Rattle.semantics.specs.declared.Step.{Step}
use Rattle.semantics.specs.Demand.{Demand3}
use Rattle.wear.specs.Counts.{Counts}
use Rattle.wear.specs.Steps.{after_all_with, answers_with, fresh_with}
use Rattle.wear.specs.Claim.{CountsStand}
use Rattle.device.specs.Outcomes.{holding}
use Rattle.playback.specs.Playback.{playable, answer_code, machine_of}
use Rattle.saved.specs.Saved.{saved_of, is_saved, state_of}
use Rattle.m58.specs.Calls.{powers_up, powered_up, unworn, Ran}

-- calls on one device, which began as power-up of the part of a number beside the array xs₀: how many steps they said
-- they played, the answers that they wrote, one call after the other, the words, the counts and the array that stand,
-- and the steps that were played
pub data Sequence (part : ℕ) (xs₀ : List ℕ) : ℕ → List ℕ → List ℕ → Counts → List ℕ → List Step → Type 0 where
  -- m58_power_up
  powered : (room : List ℕ) (k : Counts) → powers_up part room ≡ true → Sequence part xs₀ 0 [] (powered_up part room) (unworn part room k) xs₀ []
  -- m58_run, on the words, the counts and the array that stand, with steps and room of its own
  ran : (m : ℕ) (given ws : List ℕ) (k : Counts) (xs : List ℕ) (l : List Step) → Sequence part xs₀ m given ws k xs l → (codes room : List ℕ) (n : ℕ) (after : List ℕ) (counts : Counts) (answers array : List ℕ)
      → Ran ws k codes room xs n after counts answers array → Sequence part xs₀ (m + n) (given ++ take n answers) after counts array (l ++ playable codes (length room))

-- what holds of them is what holds of the whole list of steps, played on power-up
pub record OneList (p : Part) (xs₀ : List ℕ) (m : ℕ) (given ws : List ℕ) (k : Counts) (xs : List ℕ) (l : List Step) : Type 0 where
  -- as many steps as the calls said
  pub count : m ≡ length l
  -- every answer
  pub answers : given ≡ map answer_code (answers_with (fresh_with p xs₀) l)
  -- the state of the words, the counts and the array
  pub machine : machine_of (holding (state_of ws)) k xs ≡ after_all_with (fresh_with p xs₀) l
  -- the words are the saved state
  pub saved : is_saved ws ≡ true
  pub words_are : ws ≡ saved_of (after_all_with (fresh_with p xs₀) l).machine.state
  -- and demand 3 of the whole, where the array had the part's length; and the counts are those of its journal
  pub demand_3 : length xs₀ ≡ words (geometry_of p) → Demand3 p l xs₀ xs
  pub wear : length xs₀ ≡ words (geometry_of p) → CountsStand p l k
