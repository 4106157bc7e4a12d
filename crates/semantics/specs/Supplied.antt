-- D0h among the commands of a first cycle. The laws of the supply are in proofs/Supplied.
-- Assumes nothing.
use Rattle.std.specs.Prelude.{Bool, true, false}
use Rattle.semantics.specs.declared.Command.{Command}
use Rattle.semantics.specs.declared.Command.TheVariants as command

-- the command is D0h
abbrev pub is_resume : Command → Bool
is_resume command.ReadArray = false
is_resume command.ReadStatus = false
is_resume command.ReadSignature = false
is_resume command.ReadQuery = false
is_resume command.Suspend = false
is_resume command.Resume = true
is_resume command.ClearStatus = false
is_resume command.SetUpProgram = false
is_resume command.SetUpErase = false
is_resume command.SetUpLock = false
is_resume command.SetUpBuffer = false
is_resume command.Unknown = false
