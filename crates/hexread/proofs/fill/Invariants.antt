-- `hexread::fill` meets its contract. Assumes nothing.
use Rattle.intelhex.specs.Records.{record_lines}
use Rattle.hexread.specs.Filling.{Filling}
use Rattle.hexread.proofs.fill.Given as goal

abbrev pub invariant-loop-line : goal.invariant-loop-line
invariant-loop-line l = Filling (record_lines l.text) l.initial.array l.array (record_lines l.line-iterator.rest.now) l.upper
