-- The five steps of a device with its counts beside it, a list of them, and the reports: document 02, item 6. What the step makes of the device is the definition of
-- semantics; the counts add one refusal, and count the erases that finish.
-- Assumes nothing.
use Rattle.std.specs.Prelude.{ℕ, Bool, cond, ◌&&◌, List, [], ◌∷◌, length, Option, Result, Ok, Err}
use Rattle.std.specs.Option.{option_map_or}
use Rattle.refusal.specs.declared.Refusal.{Refusal}
use Rattle.refusal.specs.declared.Refusal.TheVariants as refusal
use Rattle.geometry.specs.declared.Part.{Part}
use Rattle.protection.specs.declared.Report.{Report}
use Rattle.protection.specs.Words.{report_of}
use Rattle.semantics.specs.declared.State.{State}
use Rattle.semantics.specs.declared.Step.{Step}
use Rattle.semantics.specs.declared.Step.TheVariants.{Read, Write, Work, Supply, Reset}
use Rattle.semantics.specs.declared.Answer.{Answer}
use Rattle.semantics.specs.declared.Answer.TheVariants.{Refused}
use Rattle.semantics.specs.declared.Next.{Next}
use Rattle.semantics.specs.State.{geometry}
use Rattle.semantics.specs.WellFormed.{well_formed}
use Rattle.semantics.specs.Working.{units_done, running_after}
use Rattle.semantics.specs.Card.{given, card}
use Rattle.semantics.specs.Steps.{next, accepted, accepted_array, Machine, fresh}
use Rattle.wear.specs.declared.Worn.{Worn}
use Rattle.wear.specs.Counts.{Counts, count_of, shared_zero, no_counts, counts_after, most_worn}

-- ---- refusals

-- "Refusals: 2 as before, also when the shared place is not 0": the one rule, by which all that take a device with its counts give 2
unfoldable pub formed_with : State → Counts → Bool
formed_with s k = well_formed s && shared_zero k.main

-- what a step on an array of n words is refused for, if anything: the card's
unfoldable pub refusal_with : State → Counts → ℕ → Step → Option Refusal
refusal_with s k n x = given (card (geometry s) (formed_with s k) n x)

-- ---- a step

-- the counts after a step that is not refused: only work finishes an erase. "Reset keeps counts"
unfoldable pub accepted_counts : State → Counts → Step → Counts
accepted_counts s k (Read address) = k
accepted_counts s k (Write address w) = k
accepted_counts s k (Work n) =
    counts_after s.control.activity.running (running_after (geometry s) s.control.activity.running (units_done (geometry s) s.control.activity.running n)) k
accepted_counts s k (Supply on) = k
accepted_counts s k Reset = k

-- a refusal "gives back the state it got and leaves all lent memory", the counts among it
unfoldable pub step_with : State → Counts → List ℕ → Step → Next
step_with s k xs x = option_map_or (λ e. next s (Refused e)) (refusal_with s k (length xs) x) (accepted s xs x)

unfoldable pub array_with : State → Counts → List ℕ → Step → List ℕ
array_with s k xs x = option_map_or (λ e. xs) (refusal_with s k (length xs) x) (accepted_array s xs x)

unfoldable pub counts_with : State → Counts → List ℕ → Step → Counts
counts_with s k xs x = option_map_or (λ e. k) (refusal_with s k (length xs) x) (accepted_counts s k x)

-- ---- a list of steps

-- a device's state and its array, with the counts beside them
pub record Counted : Type 0 where
  pub machine : Machine
  pub counts : Counts

abbrev pub beside : State → List ℕ → Counts → Counted
beside s xs k = record { machine = record { state = s; array = xs }; counts = k }

abbrev pub answer_with : Counted → Step → Answer
answer_with c x = (step_with c.machine.state c.counts c.machine.array x).answer

abbrev pub after_with : Counted → Step → Counted
after_with c x =
    beside (step_with c.machine.state c.counts c.machine.array x).state (array_with c.machine.state c.counts c.machine.array x)
    (counts_with c.machine.state c.counts c.machine.array x)

abbrev pub after_all_with : Counted → List Step → Counted
after_all_with c [] = c
after_all_with c (x ∷ l) = after_all_with (after_with c x) l

abbrev pub answers_with : Counted → List Step → List Answer
answers_with c [] = []
answers_with c (x ∷ l) = answer_with c x ∷ answers_with (after_with c x) l

-- power-up of a part, on an array
abbrev pub fresh_with : Part → List ℕ → Counted
fresh_with p xs = record { machine = fresh p xs; counts = no_counts }

-- ---- the reports, or a refusal in place of each

-- the report of unprotected blocks
unfoldable pub reported_with : State → Counts → Result Report Refusal
reported_with s k = cond (formed_with s k) (Ok (report_of s.unprotected)) (Err refusal.Malformed)

-- "It reports the most worn block, the lowest number on a tie", with its count
unfoldable pub most_worn_with : State → Counts → Result Worn Refusal
most_worn_with s k = cond (formed_with s k) (Ok (record { block = most_worn k; count = count_of k (most_worn k) })) (Err refusal.Malformed)

-- the count of a block that is asked for by its number
unfoldable pub erase_count_with : State → Counts → ℕ → Result Worn Refusal
erase_count_with s k b = cond (formed_with s k) (Ok (record { block = b; count = count_of k b })) (Err refusal.Malformed)
