-- `hexwrite::put_text` meets its contract. The invariant: the first k sixteens are put, and `at` is the place after
-- them. Assumes nothing.
use Rattle.std.proofs.Common.{◌≡◌, ◌*◌, ◌≤◌, length, drop}
use Rattle.std.specs.Iterator.Adapters.{enumerate_source, enumerate_count}
use Rattle.std.specs.Slice.Iter.{chunks_exact_rest, chunks_exact_size}
use Rattle.printing.specs.Room.{placed}
use Rattle.intelhex.specs.Text.{bytes_of, sixteens}
use Rattle.hexwrite.proofs.put_text.Given as goal

abbrev pub invariant-loop-k : goal.invariant-loop-k
invariant-loop-k l =
    let chunks = enumerate_source l.k-iterator in
    let k = enumerate_count l.k-iterator in
    record {
      size : chunks_exact_size chunks ≡ 8;
      within : 8 * k ≤ length l.array;
      rest : chunks_exact_rest chunks ≡ drop (8 * k) l.array;
      same : length l.text ≡ length l.initial.text;
      place : l.at ≡ length (sixteens 65536 (bytes_of l.array) k);
      room : l.text ≡ placed l.initial.text 0 (sixteens 65536 (bytes_of l.array) k);
    }
