-- A script played whole and its transcript: document 01, "The script program". A text is the list of its bytes. Definitions only; the laws are in
-- Laws.
-- Assumes nothing.
use Rattle.std.specs.Prelude.{ℕ, suc, ◌≤◌, List, [], ◌∷◌, ◌++◌, ◌≡◌, length, take, drop, Option, Some, None}
use Rattle.geometry.specs.declared.Part.TheVariants.{BenchBottom}
use Rattle.geometry.specs.Blocks.{geometry_of, words}
use Rattle.semantics.specs.declared.Step.{Step}
use Rattle.semantics.specs.declared.Step.TheVariants.{Reset}
use Rattle.semantics.specs.declared.Answer.{Answer}
use Rattle.semantics.specs.declared.Answer.TheVariants.{Refused}
use Rattle.std.specs.Option.{unwrap_or}
use Rattle.refusal.specs.declared.Refusal.{Refusal}
use Rattle.refusal.specs.declared.Refusal.TheVariants.{NoStep}
use Rattle.semantics.specs.Demand.{Demand3}
use Rattle.wear.specs.Counts.{Counts}
use Rattle.wear.specs.Steps.{refusal_with, Counted, beside, answer_with, after_with, fresh_with}
use Rattle.wear.specs.Claim.{CountsStand}
use Rattle.device.specs.declared.Device.{Device}
use Rattle.lines.specs.Lines.{lines}
use Rattle.line.specs.Forms.{step_of_line}
use Rattle.printing.specs.Text.{line_text, end_text}
use Rattle.printing.specs.Room.{Put}
use Rattle.script.specs.declared.Played.{Played}
use Rattle.script.specs.declared.Progress.{Progress}

-- ---- the text of a script

-- "Only the first 16,384 bytes are the script."
unfoldable pub script_of : List ℕ → List ℕ
script_of text = take 16384 text

-- ---- a line played

-- what a line without a form is refused for: 6 "script line not one of the forms below", but "The lowest number is given.", and 1 "array length is not 256u"
-- is given by "every step, and all else that takes an array" (and 2 by "all that take a device", though no script comes
-- to a state that is not well formed): so what a reset is refused for comes first, which has no numbers of its own
unfoldable pub line_refusal : Counted → Refusal
line_refusal m = unwrap_or (refusal_with m.machine.state m.counts (length m.machine.array) Reset) NoStep

-- what a line answers: its step's answer, or that it is refused. "A line over 16 bytes, or empty" has no form
abbrev pub answer_of : Counted → Option Step → Answer
answer_of m (Some x) = answer_with m x
answer_of m None = Refused (line_refusal m)

-- the machine, with its counts, after a line: a refusal "gives back the state it got and leaves all lent memory"
abbrev pub machine_after : Counted → Option Step → Counted
machine_after m (Some x) = after_with m x
machine_after m None = m

-- a device with its counts on an array
abbrev pub machine_of : Device → Counts → List ℕ → Counted
machine_of d k xs = beside d.state xs k

-- what holds after a line was played on a device with its counts and an array, and its text put at a place of a room: `r` has the device and the place then, `counts`, `array` and
-- `after` are the counts, the array and the room
pub record LinePlayed (line : List ℕ) (d : Device) (number : ℕ) (k : Counts) (xs room : List ℕ) (place : ℕ) (r : Played) (counts : Counts) (array after : List ℕ) : Type 0 where
  pub machine : machine_of r.device counts array ≡ machine_after (machine_of d k xs) (step_of_line line)
  pub written : Put room place (line_text number (answer_of (machine_of d k xs) (step_of_line line))) after r.place

-- ---- lines played in turn

-- the steps of a line: one, or none
abbrev pub steps_of : Option Step → List Step → List Step
steps_of (Some x) l = x ∷ l
steps_of None l = l

abbrev pub after_lines : Counted → List (List ℕ) → Counted
after_lines m [] = m
after_lines m (l ∷ ls) = after_lines (machine_after m (step_of_line l)) ls

-- "Each line prints its number, a space, then" its answer: the text of lines that are numbered from n on
abbrev pub spoken : Counted → ℕ → List (List ℕ) → List ℕ
spoken m n [] = []
spoken m n (l ∷ ls) = line_text n (answer_of m (step_of_line l)) ++ spoken (machine_after m (step_of_line l)) (suc n) ls

abbrev pub steps_of_lines : List (List ℕ) → List Step
steps_of_lines [] = []
steps_of_lines (l ∷ ls) = steps_of (step_of_line l) (steps_of_lines ls)

-- ---- a script played

-- the steps of the lines that have a form, in order
unfoldable pub steps_of_script : List ℕ → List Step
steps_of_script text = steps_of_lines (lines (script_of text))

-- "plays it on a bench bottom part": power-up on an array, and the machine after the last line
unfoldable pub machine_at_end : List ℕ → List ℕ → Counted
machine_at_end xs text = after_lines (fresh_with BenchBottom xs) (lines (script_of text))

-- what is printed: each line's text, from 1 on, and "At the end: `end` and the count of lines."
unfoldable pub transcript_of : List ℕ → List ℕ → List ℕ
transcript_of xs text = spoken (fresh_with BenchBottom xs) 1 (lines (script_of text)) ++ end_text (length (lines (script_of text)))

-- what holds after the lines of a script were played from power-up on an array, and their text put into a room: `r` has the device, the number of lines and
-- the place then
pub record LinesPlayed (script xs room : List ℕ) (r : Progress) (counts : Counts) (array after : List ℕ) : Type 0 where
  pub machine : machine_of r.device counts array ≡ after_lines (fresh_with BenchBottom xs) (lines script)
  pub written : Put room 0 (spoken (fresh_with BenchBottom xs) 1 (lines script)) after r.place
  pub counted : r.count ≡ length (lines script)

-- what holds after a text was played on an array, with room for the transcript: `next` is its length, `counts`, `array` and `after` are the counts, the array and the room then
pub record Transcribed (text xs room : List ℕ) (next : ℕ) (counts : Counts) (array after : List ℕ) : Type 0 where
  -- "What is written into lent room comes with its length, and places past it stay.": the whole transcript, from the room's start on
  pub written : after ≡ transcript_of xs text ++ drop (length (transcript_of xs text)) room
  pub length_is : next ≡ length (transcript_of xs text)
  pub size : length after ≡ length room
  -- so it lies in the room
  pub within : next ≤ length after
  pub array_is : array ≡ (machine_at_end xs text).machine.array
  pub counts_are : counts ≡ (machine_at_end xs text).counts
  -- DEMAND 3, on an array of the part's length: its length, every word, and every entry of the journal of the script's steps
  pub journal : length xs ≡ words (geometry_of BenchBottom) → Demand3 BenchBottom (steps_of_script text) xs array
  -- and the counts are those of its journal
  pub wear : length xs ≡ words (geometry_of BenchBottom) → CountsStand BenchBottom (steps_of_script text) counts
