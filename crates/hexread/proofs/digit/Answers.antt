-- `hexread::digit` meets its contract. Assumes nothing.
use Rattle.hexread.specs.Bytes.{digit_value, digit_none}
use Rattle.hexread.proofs.digit.Goals as goal

pub returns-then-decimal-upper : goal.returns-then-decimal-upper
returns-then-decimal-upper c = digit_value c.args.b c.if-decimal-upper.true

pub returns-else-decimal-upper : goal.returns-else-decimal-upper
returns-else-decimal-upper c = digit_none c.args.b c.if-decimal-upper.false
