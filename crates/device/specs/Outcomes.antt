-- A device holds a state of the crate semantics and nothing else: what the definitions there say of a state is said here of the device that holds it.
-- Assumes nothing.
use Rattle.std.specs.Prelude.{List, ℕ}
use Rattle.refusal.specs.declared.Refusal.{Refusal}
use Rattle.semantics.specs.declared.State.{State}
use Rattle.semantics.specs.declared.Step.{Step}
use Rattle.semantics.specs.declared.Next.{Next}
use Rattle.semantics.specs.declared.Answer.TheVariants.{Refused}
use Rattle.wear.specs.Counts.{Counts}
use Rattle.wear.specs.Steps.{step_with, array_with, counts_with}
use Rattle.device.specs.declared.Device.{Device}
use Rattle.device.specs.declared.Outcome.{Outcome}

abbrev pub holding : State → Device
holding s = record { state = s }

abbrev pub outcome_of : Next → Outcome
outcome_of n = record { device = holding n.state; answer = n.answer }

-- that of a refused step
abbrev pub refused : Device → Refusal → Outcome
refused d e = record { device = d; answer = Refused e }

-- the outcome of a step of a device with its counts, and the array and the counts after it
abbrev pub outcome : Device → Counts → List ℕ → Step → Outcome
outcome d k xs x = outcome_of (step_with d.state k xs x)

abbrev pub array_out : Device → Counts → List ℕ → Step → List ℕ
array_out d k xs x = array_with d.state k xs x

abbrev pub counts_out : Device → Counts → List ℕ → Step → Counts
counts_out d k xs x = counts_with d.state k xs x
