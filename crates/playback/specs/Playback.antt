-- What it is to play a list of encoded steps on a device, its counts and an array: which steps are played, the answers that are written, and what holds of the device
-- and of the array afterwards, demand 3 among it. Definitions only; the laws are in Laws.
-- Assumes nothing.
use Rattle.std.specs.Prelude.{ℕ, zero, suc, ◌+◌, ◌*◌, true, List, [], ◌∷◌, ◌++◌, map, ◌≡◌, length, drop, Option, Some, None}
use Rattle.geometry.specs.declared.Part.{Part}
use Rattle.geometry.specs.Blocks.{geometry_of, words}
use Rattle.semantics.specs.declared.Step.{Step}
use Rattle.semantics.specs.declared.Answer.{Answer}
use Rattle.semantics.specs.Steps.{number_of, value_of, after_all, fresh}
use Rattle.semantics.specs.Encoding.{decode}
use Rattle.semantics.specs.Demand.{Demand3}
use Rattle.wear.specs.Counts.{Counts, shared_zero}
use Rattle.wear.specs.Steps.{Counted, beside, after_all_with, answers_with, fresh_with}
use Rattle.wear.specs.Claim.{CountsStand}
use Rattle.device.specs.declared.Device.{Device}
use Rattle.playback.specs.declared.RunEnd.{RunEnd}

-- the list that goes on with a step, where a number encodes one, and ends where it does not
abbrev pub go_on : Option Step → (Step → List Step) → List Step
go_on (Some x) f = f x
go_on None f = []

-- the steps that are played of a list of numbers, with room for n answers: up to the first number that encodes no step, and no more than there is room for
unfoldable pub playable : List ℕ → ℕ → List Step
playable [] n = []
playable (c ∷ l) zero = []
playable (c ∷ l) (suc n) = go_on (decode c) (λ x. x ∷ playable l n)

-- an answer as a number of 64 bits: document 01's refusal number in the upper half, its value in the lower
abbrev pub answer_code : Answer → ℕ
answer_code a = number_of a * 4294967296 + value_of a

-- the room after answers were written into it from its start: the places past them stay
unfoldable pub room_after : List ℕ → List Answer → List ℕ
room_after room l = map answer_code l ++ drop (length l) room

-- a device with its counts on an array
abbrev pub machine_of : Device → Counts → List ℕ → Counted
machine_of d k xs = beside d.state xs k

-- DEMAND 3, of a list that is played in pieces: wherever the device and the array are what steps l₀ made of power-up and an array xs₀ of the part's length,
-- demand 3 holds whole of the steps l₀ and l together: the length, every word, and every entry of their journal. With l₀ empty it is demand 3 from power-up. Of the
-- counts it asks only that the shared place is 0.
unfoldable pub Journaled : Counted → List Step → List ℕ → Type 0
Journaled m l ys =
    (p : Part) (xs₀ : List ℕ) (l₀ : List Step) → length xs₀ ≡ words (geometry_of p) → after_all (fresh p xs₀) l₀ ≡ m.machine → shared_zero m.counts.main ≡ true → Demand3 p (l₀ ++ l) xs₀ ys

-- and where the counts too are what the steps l₀ made of power-up, they are those of that journal
unfoldable pub CountsJournaled : Counted → List Step → Counts → Type 0
CountsJournaled m l k =
    (p : Part) (xs₀ : List ℕ) (l₀ : List Step) → length xs₀ ≡ words (geometry_of p) → after_all_with (fresh_with p xs₀) l₀ ≡ m → CountsStand p (l₀ ++ l) k

-- what holds after the numbers `codes` were played on a device with its counts and an array, with a room for the answers
pub record Played (d : Device) (k : Counts) (codes room xs : List ℕ) (r : RunEnd) (counts : Counts) (answers array : List ℕ) : Type 0 where
  -- how many steps were played
  pub count : r.played ≡ length (playable codes (length room))
  -- the device, the array and the counts are those after these steps
  pub device : r.device.state ≡ (after_all_with (machine_of d k xs) (playable codes (length room))).machine.state
  pub array_is : array ≡ (after_all_with (machine_of d k xs) (playable codes (length room))).machine.array
  pub counts_are : counts ≡ (after_all_with (machine_of d k xs) (playable codes (length room))).counts
  -- each answer is written, and the rest of the room stays
  pub answers_are : answers ≡ room_after room (answers_with (machine_of d k xs) (playable codes (length room)))
  -- demand 3 holds
  pub journal : Journaled (machine_of d k xs) (playable codes (length room)) array
  -- and the counts are the journal's
  pub wear : CountsJournaled (machine_of d k xs) (playable codes (length room)) counts
