-- The value that a step's answer gives. That it does is `answer_value` (proofs/Refusals).
-- Assumes nothing.
use Rattle.std.specs.Prelude.{List, ℕ}
use Rattle.semantics.specs.declared.State.{State}
use Rattle.semantics.specs.declared.Step.{Step}
use Rattle.semantics.specs.declared.Step.TheVariants.{Read, Write, Work, Supply, Reset}
use Rattle.semantics.specs.State.{geometry}
use Rattle.semantics.specs.Reading.{read_word}
use Rattle.semantics.specs.Working.{units_done}

-- the value of a step that is accepted: the word that was read, the units that were done, or 0
abbrev pub value_given : State → List ℕ → Step → ℕ
value_given s xs (Read a) = read_word s xs a
value_given s xs (Write a w) = 0
value_given s xs (Work n) = units_done (geometry s) s.control.activity.running n
value_given s xs (Supply on) = 0
value_given s xs Reset = 0
