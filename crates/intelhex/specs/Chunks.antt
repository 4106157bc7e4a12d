-- A slice that is gone over by chunks of one size: what a round takes, and where it ends. Assumes nothing.
use Rattle.std.specs.Prelude.{◌≡◌, ℕ, ◌+◌, ◌<◌, List, ◌++◌, length, Option, Some, None}
use Rattle.std.proofs.Common.{◌∙◌, arith}
use Rattle.std.specs.declared.slice.ChunksExact.{ChunksExact}
use Rattle.std.specs.declared.iter.Enumerate.{Enumerate}
use Rattle.std.specs.Slice.Iter.{chunks_exact_rest, chunks_exact_size, chunks_exact_steps}
use Rattle.std.specs.Iterator.Adapters.{enumerate_source, enumerate_count, enumerate_steps}
use denote.Ref.{Bor}

-- n elements are taken
pub record Chunk {A : Type 0} (n : ℕ) (s t : ChunksExact A) (items : List A) : Type 0 where
  pub split : chunks_exact_rest s ≡ items ++ chunks_exact_rest t
  pub many : length items ≡ n
  pub size : chunks_exact_size t ≡ n

module _ {A : Type 0} (n : ℕ) (s t : ChunksExact A) (size : chunks_exact_size s ≡ n) where
  taken : (x : Bor (List A)) → chunks_exact_steps s (Some x) t → Chunk n s t x.now
  taken x steps = record { split = steps.1.0; many = steps.1.1 ∙ size; size = steps.0 ∙ size }

  ended : chunks_exact_steps s None t → length (chunks_exact_rest s) < n
  ended steps = omega (arith, steps.1.0, size)

  pub chunk_more : (r : Option (Bor (List A))) (x : Bor (List A)) → r ≡ Some x → chunks_exact_steps s r t → Chunk n s t x.now
  chunk_more r x e steps = taken x (rw e at steps)

  pub chunk_none : (r : Option (Bor (List A))) → r ≡ None → chunks_exact_steps s r t → length (chunks_exact_rest s) < n
  chunk_none r e steps = ended (rw e at steps)

-- the same, counted
module _ {A : Type 0} (n : ℕ) (s t : Enumerate (ChunksExact A)) (size : chunks_exact_size (enumerate_source s) ≡ n) where
  pub counted_more : (r : Option (ℕ × Bor (List A))) (i : ℕ) (x : Bor (List A)) → r ≡ Some (i, x) → enumerate_steps chunks_exact_steps s r t
      → Chunk n (enumerate_source s) (enumerate_source t) x.now × (i ≡ enumerate_count s) × (enumerate_count t ≡ i + 1)
  counted_more r i x e steps =
      let k : enumerate_steps chunks_exact_steps s (Some (i, x)) t = rw e at steps in
      (taken n (enumerate_source s) (enumerate_source t) size x k.0, k.1, omega (arith, k.1, k.2))

  pub counted_none : (r : Option (ℕ × Bor (List A))) → r ≡ None → enumerate_steps chunks_exact_steps s r t
      → length (chunks_exact_rest (enumerate_source s)) < n
  counted_none r e steps =
      let k : enumerate_steps chunks_exact_steps s None t = rw e at steps in
      ended n (enumerate_source s) (enumerate_source t) size k.0
