-- "Flags once set stay until 50h or reset, and never block a later command.": what that says of a step. Definitions only; that it is so is `flags_stay` and `flags_never_block`
-- (proofs/FlagLaws).
-- Assumes nothing.
use Rattle.std.specs.Prelude.{◌≡◌, true, ℕ, ◌%◌}
use Rattle.semantics.specs.declared.Setup.{Setup}
use Rattle.semantics.specs.declared.Setup.TheVariants as setup
use Rattle.semantics.specs.declared.Command.TheVariants as command
use Rattle.semantics.specs.declared.Flags.{Flags}
use Rattle.semantics.specs.declared.State.{State}
use Rattle.semantics.specs.declared.Step.{Step}
use Rattle.semantics.specs.declared.Step.TheVariants.{Read, Write, Work, Supply, Reset}
use Rattle.semantics.specs.declared.Answer.{Answer}
use Rattle.semantics.specs.declared.Answer.TheVariants.{Word, Units, Done, Refused}
use Rattle.semantics.specs.State.{with_flags, no_flags}
use Rattle.semantics.specs.Writing.{command_of}

-- each flag that is set in f is set in g
pub record Stay (f g : Flags) : Type 0 where
  pub sr5 : f.sr5 ≡ true → g.sr5 ≡ true
  pub sr4 : f.sr4 ≡ true → g.sr4 ≡ true
  pub sr3 : f.sr3 ≡ true → g.sr3 ≡ true
  pub sr1 : f.sr1 ≡ true → g.sr1 ≡ true

-- the write is 50h with no set-up pending
abbrev pub ClearCommand : Setup → ℕ → Type 0
ClearCommand setup.Nothing w = command_of (w % 256) ≡ command.ClearStatus
ClearCommand setup.Program w = ⊥
ClearCommand setup.Erase w = ⊥
ClearCommand setup.Lock w = ⊥
ClearCommand (setup.BufferCount b) w = ⊥
ClearCommand (setup.BufferFirst b n) w = ⊥
ClearCommand (setup.BufferWords l n due) w = ⊥

-- the step may clear the flags: a reset, or 50h with no set-up pending. (Refused, neither does; nor does 50h while something runs.)
abbrev pub MayClear : State → Step → Type 0
MayClear s (Read a) = ⊥
MayClear s (Write a w) = ClearCommand s.control.activity.setup w
MayClear s (Work n) = ⊥
MayClear s (Supply on) = ⊥
MayClear s Reset = Unit {0}

-- a state, and a view, but for its flags
abbrev pub unflagged : State → State
unflagged s = with_flags s no_flags

-- the units that an answer tells of
abbrev pub told_by : Answer → ℕ
told_by (Word w) = 0
told_by (Units n) = n
told_by Done = 0
told_by (Refused e) = 0
