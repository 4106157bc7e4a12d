-- `lines::taken_at` meets its contract: what stands before the first LF is what `position` counts.
use Rattle.std.proofs.Common.{◌≡◌, ℕ, ◌+◌, ◌<◌, List, Some, None, length, drop, refl, sym, ◌∙◌, arith, length-drop}
use Rattle.std.specs.Prelude.{position, ◌==◌}
use Rattle.std.specs.List.{position_or_len}
use Rattle.std.proofs.lemmas.List.Recursion.{is_position_or_len}
use Rattle.std.proofs.lemmas.List.Sums.{prefix_len-le-length}
use Rattle.std.proofs.lemmas.Grind.{common_steps}
use Rattle.lines.specs.Lines.{before_lf, line_end, taken_at, next_past, next_none}
use Rattle.lines.proofs.taken_at.Goals as goal

before_is : (t : List ℕ) → before_lf t ≡ position_or_len (λ b. b == 10) t
unfolding before_lf
before_is t = is_position_or_len before_lf (λ b. b == 10) refl (λ x xs. grind arith) t

lf_at : (t : List ℕ) (n : ℕ) → position (λ b. b == 10) t ≡ Some n → (before_lf t ≡ n) × (n < length t)
lf_at t n e = grind (arith, common_steps, before_is t)

lf_none : (t : List ℕ) → position (λ b. b == 10) t ≡ None → before_lf t ≡ length t
lf_none t e = grind (arith, common_steps, before_is t, prefix_len-le-length)

module _ (text : List ℕ) (at : ℕ) where
  with_lf : (n : ℕ) → position (λ b. b == 10) (drop at text) ≡ Some n → record { from = at; to = at + n; next = at + n + 1 } ≡ taken_at text at
  unfolding line_end
  with_lf n e =
      let f = lf_at (drop at text) n e in
      rw (next_past text at (omega (arith, f.0, f.1, length-drop at text)), f.0)

  without_lf : position (λ b. b == 10) (drop at text) ≡ None → record { from = at; to = at + length (drop at text); next = at + length (drop at text) } ≡ taken_at text at
  unfolding line_end
  without_lf e =
      let f = lf_none (drop at text) e in
      rw (next_none text at (omega (arith, f, length-drop at text)), f)

pub returns-in-Some : goal.returns-in-Some
returns-in-Some c =
    let rest : c.unwrap_or_default-rest.result.now ≡ drop c.args.at c.args.text.now = grind (arith, common_steps) in
    with_lf _ _ _ (rw rest at (sym c.first_lf.ensures ∙ c.in-Some.is))

pub returns-in-None : goal.returns-in-None
returns-in-None c =
    let rest : c.unwrap_or_default-rest.result.now ≡ drop c.args.at c.args.text.now = grind (arith, common_steps) in
    rw rest (without_lf _ _ (rw rest at (sym c.first_lf.ensures ∙ c.in-None.is)))
