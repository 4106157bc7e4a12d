-- `hexread::store` meets its contract. Assumes nothing.
use Rattle.std.proofs.Common.{◌≡◌}
use Rattle.std.specs.Iterator.Adapters.{enumerate_source, enumerate_count}
use Rattle.std.specs.Slice.Iter.{chunks_exact_rest, chunks_exact_size}
use Rattle.hexread.specs.Storing.{Storing}
use Rattle.hexread.proofs.store.Given as goal

abbrev pub invariant-loop-i : goal.invariant-loop-i
invariant-loop-i l =
    let chunks = enumerate_source l.i-iterator in
    (chunks_exact_size chunks ≡ 2) × Storing l.digits l.start l.initial.array l.array (chunks_exact_rest chunks) (enumerate_count l.i-iterator)
