-- `geometry::not_above` meets its contract: in a rising table the entries that are not above come first. Assumes nothing.
use native.Mathlib.Omega.{arith}
use borrow.Author.Tests.{leb-true, leb-false}
use Rattle.std.specs.Prelude.{leb}
use borrow.Author.Rules.{rules}
use Prim.Native.Nat.{ℕ}
use mathlib.Core.List.{List}
use mathlib.Core.Path.{sym}
use Rattle.std.proofs.lemmas.List.Sorted.{IsPartitionPoint-from_clause, IsPartitionedBy-leb}
use Rattle.geometry.specs.Listed.{split, rises_level}
use Rattle.geometry.proofs.not_above.Goals as goal

pub returns : goal.returns
returns c =
    let xs : List ℕ = c.args.table.now in
    let l : ℕ = c.args.location in
    let level = IsPartitionedBy-leb (λ (x : ℕ). x) xs l (rises_level xs c.requires) in
    let point = IsPartitionPoint-from_clause (λ (x : ℕ). leb x l) xs _ c.partition_point.ensures.partitioned level (λ a r q k. search rules) in
    sym (split xs l _ c.partition_point.ensures.bound (λ k h. leb-true _ _ (point.0 k 0 (omega arith) h)) (λ k t h. leb-false _ _ (point.1 k 0 t h)))
