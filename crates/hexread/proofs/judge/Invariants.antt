-- `hexread::judge` meets its contract. Assumes nothing.
use Rattle.intelhex.specs.Records.{record_lines}
use Rattle.hexread.specs.Judging.{Judging}
use Rattle.hexread.proofs.judge.Given as goal

abbrev pub invariant-loop-record : goal.invariant-loop-record
invariant-loop-record l = Judging l.text l.size (record_lines l.record-iterator.rest.now) l.upper l.line
