-- `hexread::record_end` meets its contract. Assumes nothing.
use Rattle.std.proofs.Common.{sym, arith}
use Rattle.hexread.specs.Ends.{end_cr, end_last, end_empty, end_plain}
use Rattle.hexread.proofs.record_end.Goals.{else-to-text-via-then-to-text+then-to-gt0+else-text-to-eq13, else-to-text-via-then-to-text+else-to-gt0, else-to-text-via-else-to-text}
use Rattle.hexread.proofs.record_end.Goals as goal

pub returns-then-text-to-eq13 : goal.returns-then-text-to-eq13
returns-then-text-to-eq13 c = sym (end_cr _ _ (omega arith) (omega arith) c.if-text-to-eq13.true)

pub returns-else-to-text : goal.returns-else-to-text
returns-else-to-text c =
    elim c.else-to-text.branch [
      | else-to-text-via-then-to-text+then-to-gt0+else-text-to-eq13 w ↦ sym (end_plain _ _ w.if-text-to-eq13.false)
      | else-to-text-via-then-to-text+else-to-gt0 w ↦ sym (end_empty _ _ (omega arith))
      | else-to-text-via-else-to-text w ↦ sym (end_last _ _ (omega arith))
    ]
