-- `hexread::scan` meets its contract. Assumes nothing.
use Rattle.std.proofs.Common.{◌≡◌}
use Rattle.std.specs.Slice.Iter.{chunks_exact_rest, chunks_exact_size}
use Rattle.hexread.specs.Bytes.{Scanning}
use Rattle.hexread.proofs.scan.Given as goal

abbrev pub invariant-loop-pair : goal.invariant-loop-pair
invariant-loop-pair l = (chunks_exact_size l.pair-iterator ≡ 2) × Scanning l.digits (chunks_exact_rest l.pair-iterator) l.good l.sum
