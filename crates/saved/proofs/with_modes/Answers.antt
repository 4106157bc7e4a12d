-- `saved::with_modes` meets its contract. Assumes nothing.
use Prim.Native.Nat.{ℕ, suc, ◌+◌, ◌/◌}
use mathlib.Core.Path.{◌≡◌, refl, ap, ◌∙◌, sym}
use native.Mathlib.Omega.{arith}
use borrow.Author.Rules.{rules}
use Rattle.semantics.specs.declared.Mode.TheVariants.{Array}
use Rattle.semantics.specs.Tabulate.{tabulate}
use Rattle.saved.specs.Saved.{bank_numbered, from_byte}
use Rattle.saved.specs.Laws.{tabulate_next, from_next}
use Rattle.saved.proofs.with_modes.Goals as goal

pub loop-i-preserved : goal.loop-i-preserved
loop-i-preserved c =
    let w = c.args.w in
    let i = c.loop-i.i in
    let v = c.loop-i.invariant in
    let e : i + 1 ≡ suc i = omega arith in (
      tabulate_next (record { mode = Array }) 8 (λ k. bank_numbered (from_byte k w)) _ _ _ i _ _ _ (search rules) refl refl v.0 (c.bank_numbered.ensures ∙ ap bank_numbered v.1),
      rw e (ap (λ (x : ℕ). x / 256) v.1 ∙ sym (from_next i w)),
    )

pub returns : goal.returns
unfolding tabulate
returns c = let e : c.loop-i.i ≡ 8 = omega arith in c.loop-i.invariant.0 ∙ rw e
