-- `hexwrite::Record::put_byte` meets its contract: two stores, and a sum that wraps. Assumes nothing.
use Rattle.std.proofs.Common.{◌≡◌, ◌/◌, ◌%◌, arith}
use Rattle.intelhex.specs.Records.{total}
use Rattle.intelhex.specs.Text.{digits_of}
use Rattle.hexwrite.specs.Records.{placed_two}
use Rattle.hexwrite.proofs.Record.put_byte.Goals as goal

pub returns : goal.returns
unfolding digits_of total
returns c = let high : c.args.byte / 16 % 16 ≡ c.args.byte / 16 = omega arith in record {
  room = rw (c.digit.ensures, c.digit-2.ensures, c.from.ensures, c.from-2.ensures, high) (placed_two _ _ _ _ c.requires);
  place = omega arith;
  summed = λ h. omega arith;
}
