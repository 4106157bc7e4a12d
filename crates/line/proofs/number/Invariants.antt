-- `line::number`: the bytes before the index are digits of the base, and `made` is the number that they make.
use Rattle.std.proofs.Common.{◌≡◌, true}
use Rattle.line.specs.Forms.{digits, number}
use Rattle.line.proofs.number.Given as goal

abbrev pub invariant-loop-b : goal.invariant-loop-b
invariant-loop-b l = (digits l.base l.digits 0 l.b-index ≡ true) × (l.made ≡ number l.base l.digits 0 l.b-index)
