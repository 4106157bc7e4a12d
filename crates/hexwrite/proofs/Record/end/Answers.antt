-- `hexwrite::Record::end` meets its contract. Assumes nothing.
use Rattle.std.proofs.Common.{◌≡◌, ◌+◌, ◌-◌, ◌%◌, arith}
use Rattle.intelhex.specs.Text.{digits_of}
use Rattle.hexwrite.specs.Records.{ended, placed_last}
use Rattle.hexwrite.proofs.Record.end.Goals as goal

pub returns-clause-text : goal.returns-clause-text
unfolding ended digits_of
returns-clause-text c =
    let e : (0 + (256 - c.args.self.sum)) % 256 ≡ (256 - c.args.self.sum) % 256 = omega arith in
    rw (c.put_byte-last.ensures.room, e) (placed_last _ _ _ 10 c.put_byte-last.ensures.place (omega arith))
