-- The five steps whole, with their refusals, and a list of them played: document 01, "The five steps" and "Refusal card", and document 02, item 5, for the supply step.
-- Assumes nothing.
use Rattle.std.specs.Prelude.{ℕ, Bool, cond, List, [], ◌∷◌, length, Option, Result, Ok, Err}
use Rattle.std.specs.Option.{option_map_or}
use Rattle.refusal.specs.declared.Refusal.{Refusal}
use Rattle.refusal.specs.declared.Refusal.TheVariants as refusal
use Rattle.refusal.specs.Numbers.{number}
use Rattle.geometry.specs.declared.Part.{Part}
use Rattle.protection.specs.declared.Report.{Report}
use Rattle.protection.specs.Words.{report_of}
use Rattle.semantics.specs.declared.State.{State}
use Rattle.semantics.specs.declared.Step.{Step}
use Rattle.semantics.specs.declared.Step.TheVariants.{Read, Write, Work, Supply, Reset}
use Rattle.semantics.specs.declared.Answer.{Answer}
use Rattle.semantics.specs.declared.Answer.TheVariants.{Word, Units, Done, Refused}
use Rattle.semantics.specs.declared.Next.{Next}
use Rattle.semantics.specs.State.{geometry, with_control, with_buffer, with_supply, power_up}
use Rattle.semantics.specs.Supply.{switched}
use Rattle.semantics.specs.WellFormed.{well_formed}
use Rattle.semantics.specs.Card.{given, card}
use Rattle.semantics.specs.Reading.{read_word}
use Rattle.semantics.specs.Writing.{written}
use Rattle.semantics.specs.Working.{units_done, buffer_after, worked, worked_array}

-- what a step on an array of n words is refused for, if anything: the card's
unfoldable pub refusal_of : State → ℕ → Step → Option Refusal
refusal_of s n x = given (card (geometry s) (well_formed s) n x)

-- ---- a step

abbrev pub next : State → Answer → Next
next s a = record { state = s; answer = a }

-- the state after the supply is switched: what runs ends where it goes off, and the buffer is empty where a buffer program ends
unfoldable pub switched_to : State → Bool → State
switched_to s on =
    with_buffer (with_control s (switched s.control on)) (buffer_after s.control.activity.running (switched s.control on).activity.running s.buffer)

-- the state after, and the answer of, a step that is accepted, that is, not refused. "Reset gives the power-up state but keeps the supply"
unfoldable pub accepted : State → List ℕ → Step → Next
accepted s xs (Read address) = next s (Word (read_word s xs address))
accepted s xs (Write address w) = next (written s address w) Done
accepted s xs (Work n) = next (worked s n) (Units (units_done (geometry s) s.control.activity.running n))
accepted s xs (Supply on) = next (switched_to s on) Done
accepted s xs Reset = next (with_supply (power_up s.part) s.control.supply) Done

-- the array after a step that is not refused: only work touches it
unfoldable pub accepted_array : State → List ℕ → Step → List ℕ
accepted_array s xs (Read address) = xs
accepted_array s xs (Write address w) = xs
accepted_array s xs (Work n) = worked_array s n xs
accepted_array s xs (Supply on) = xs
accepted_array s xs Reset = xs

-- "A refusal gives its number beside the answer 0, gives back the state it got and leaves all lent memory."
unfoldable pub step_of : State → List ℕ → Step → Next
step_of s xs x = option_map_or (λ e. next s (Refused e)) (refusal_of s (length xs) x) (accepted s xs x)

unfoldable pub array_of : State → List ℕ → Step → List ℕ
array_of s xs x = option_map_or (λ e. xs) (refusal_of s (length xs) x) (accepted_array s xs x)

-- document 01's refusal number, and its value, of each answer
abbrev pub number_of : Answer → ℕ
number_of (Word w) = 0
number_of (Units n) = 0
number_of Done = 0
number_of (Refused e) = number e

abbrev pub value_of : Answer → ℕ
value_of (Word w) = w
value_of (Units n) = n
value_of Done = 0
value_of (Refused e) = 0

-- ---- the report of unprotected blocks (document 01: open report)

-- "how many blocks are open and the lowest open one, 259 if none"; refused where the state is not well formed
unfoldable pub reported_of : State → Result Report Refusal
reported_of s = cond (well_formed s) (Ok (report_of s.unprotected)) (Err refusal.Malformed)

-- ---- a list of steps

-- a device's state and its array
pub record Machine : Type 0 where
  pub state : State
  pub array : List ℕ

-- one step, whatever it answers
abbrev pub after : Machine → Step → Machine
after m x = record { state = (step_of m.state m.array x).state; array = array_of m.state m.array x }

abbrev pub after_all : Machine → List Step → Machine
after_all m [] = m
after_all m (x ∷ l) = after_all (after m x) l

-- the answers on the way
abbrev pub answers_of : Machine → List Step → List Answer
answers_of m [] = []
answers_of m (x ∷ l) = (step_of m.state m.array x).answer ∷ answers_of (after m x) l

-- power-up of a part, on an array
abbrev pub fresh : Part → List ℕ → Machine
fresh p xs = record { state = power_up p; array = xs }
