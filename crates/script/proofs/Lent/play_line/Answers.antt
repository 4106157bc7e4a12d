-- `Lent::play_line`: a line with a step, and a line with none.
use Rattle.std.specs.Option.{unwrap_or}
use Rattle.std.proofs.Common.{◌∙◌, Option, sym, ap}
use Rattle.refusal.specs.declared.Refusal.{Refusal}
use Rattle.refusal.specs.declared.Refusal.TheVariants.{NoStep}
use Rattle.script.proofs.Laws.{line_made, line_refused}
use Rattle.script.proofs.Lent.play_line.Goals as goal
use Rattle.script.proofs.Lent.play_line.Goals.{in-Some, in-None}

pub returns-clause-played : goal.returns-clause-played
returns-clause-played c =
    elim c.match-step_of_line.branch [
      | in-Some w ↦
          rw w.self-is (line_made _ _ _ _ _ _ _ _ _ _ _ _ _ (sym c.step_of_line.ensures ∙ w.in-Some.is) (w.o-is ∙ w.step-o.ensures.outcome) w.step-o.ensures.array w.step-o.ensures.counts (rw w.self-is at c.put_line.ensures))
      | in-None w ↦
          rw (w.self-is, w.o-is) (line_refused _ _ _ _ _ _ _ _ _ _ (sym c.step_of_line.ensures ∙ w.in-None.is)
          (w.unwrap_or.ensures ∙ ap (λ (o : Option Refusal). unwrap_or o NoStep) (w.refusal_of-refusal.ensures _)) (rw (w.self-is, w.o-is) at c.put_line.ensures))
    ]
