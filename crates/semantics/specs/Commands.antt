-- The device's commands are the recorder's, and those that it does not know bear on no word. Assumes nothing.
use Rattle.std.specs.Prelude.{◌≡◌, true, ℕ, eqb}
use Rattle.std.proofs.Common.{ap, eqb-true}
use Rattle.semantics.specs.declared.Command.{Command}
use Rattle.semantics.specs.declared.Command.TheVariants as command
use Rattle.semantics.specs.Branches.{by_cond}
use Rattle.semantics.specs.Writing.{command_of}
use Rattle.semantics.specs.Recorder as recorder

-- what a command of the device is for the recorder
abbrev pub bears : Command → recorder.Command
bears command.ReadArray = recorder.other_command
bears command.ReadStatus = recorder.other_command
bears command.ReadSignature = recorder.other_command
bears command.ReadQuery = recorder.other_command
bears command.Suspend = recorder.suspend_command
bears command.Resume = recorder.resume_command
bears command.ClearStatus = recorder.other_command
bears command.SetUpProgram = recorder.program_command
bears command.SetUpErase = recorder.erase_command
bears command.SetUpLock = recorder.lock_command
bears command.SetUpBuffer = recorder.buffer_command
bears command.Unknown = recorder.other_command

module _ (c : ℕ) where
  abbrev Bears : Command → Type 0
  Bears x = recorder.command_of c ≡ bears x

  at : (n : ℕ) → eqb c n ≡ true → recorder.command_of c ≡ recorder.command_of n
  at n e = ap recorder.command_of (eqb-true c n e)

  pub commands_agree : recorder.command_of c ≡ bears (command_of c)
  unfolding command_of
  commands_agree =
      by_cond Bears (eqb c 0xFF) _ _ (at 0xFF) (λ x.
      by_cond Bears (eqb c 0x70) _ _ (at 0x70) (λ x.
      by_cond Bears (eqb c 0x90) _ _ (at 0x90) (λ x.
      by_cond Bears (eqb c 0x98) _ _ (at 0x98) (λ x.
      by_cond Bears (eqb c 0xB0) _ _ (at 0xB0) (λ a.
      by_cond Bears (eqb c 0xD0) _ _ (at 0xD0) (λ b.
      by_cond Bears (eqb c 0x50) _ _ (at 0x50) (λ x.
      by_cond Bears (eqb c 0x10) _ _ (at 0x10) (λ d.
      by_cond Bears (eqb c 0x40) _ _ (at 0x40) (λ e.
      by_cond Bears (eqb c 0x60) _ _ (at 0x60) (λ f.
      by_cond Bears (eqb c 0x20) _ _ (at 0x20) (λ h.
      by_cond Bears (eqb c 0xE8) _ _ (at 0xE8) (λ i.
      rw (a, b, d, e, f, h, i)))))))))))))
