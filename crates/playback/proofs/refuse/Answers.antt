-- `playback::refuse` meets its contract. The invariant: of every device that is refused so, the first i numbers have been played. Assumes nothing.
use mathlib.Core.Path.{◌≡◌, refl, sym, ◌∙◌}
use native.Mathlib.Omega.{arith}
use native.Mathlib.Numerals.{add-one}
use lib.ListN.{length-set}
use Rattle.semantics.specs.State.{geometry}
use Rattle.playback.specs.Laws.{going_none, going_on, sofar_end, all_refused, plays_refused}
use Rattle.playback.proofs.refuse.Goals as goal

pub loop-i-init : goal.loop-i-init
loop-i-init c = (λ s k xs h. going_none _ _ _ _ _ _ h, c.min-n.ensures, omega arith, refl)

pub returns-in_default : goal.returns-in_default
returns-in_default c =
    let l = c.loop-i in
    λ s k xs h. sofar_end _ _ _ _ _ _ _ _ _ _ (l.invariant.0 s k xs h).sofar (λ p q. sym c.decoded.ensures ∙ c.in_default.is)

pub loop-i-smaller : goal.loop-i-smaller
loop-i-smaller c = let l = c.loop-i in omega (arith, l.invariant.2)

pub loop-i-preserved : goal.loop-i-preserved
loop-i-preserved c =
    let l = c.loop-i in (
      λ s k xs h. rw (add-one, c.answer_code.ensures)
          (going_on _ _ _ _ _ _ _ _ _ _ _ _ _ _ _ (l.invariant.0 s k xs h) (omega arith) (omega arith)
          (plays_refused _ _ _ _ h _ _ _ _ _ _ (all_refused _ (geometry s) _ _ (sym c.decoded.ensures ∙ c.in-Some.is)) refl refl refl refl)),
      l.invariant.1,
      omega arith,
      length-set l.answers _ _ ∙ l.invariant.3,
    )

pub returns : goal.returns
returns c =
    let l = c.loop-i in
    let e : l.i ≡ c.min-n.result = omega arith in
    λ s k xs h. rw (← e) (sofar_end _ _ _ _ _ _ _ _ _ _ (l.invariant.0 s k xs h).sofar (λ p q. absurd (omega arith)))
