-- `hexread::judge` meets its contract. Assumes nothing.
use Rattle.std.proofs.Common.{sym, ◌∙◌}
use Rattle.hexread.specs.Ends.{records_more, records_end}
use Rattle.hexread.specs.Judging.{judge_start, judge_none, judge_bad, judge_end, judge_names, judge_moves}
use Rattle.hexread.proofs.judge.Goals as goal

pub loop-record-init : goal.loop-record-init
loop-record-init c = rw c.into_iter-record-iterator.ensures.into_iter_gives (judge_start _ _)

pub loop-record-preserved-in-Ok-Names : goal.loop-record-preserved-in-Ok-Names
loop-record-preserved-in-Ok-Names c =
    let more = records_more c.loop-record.record-iterator c.next.new.self _ c.next.ensures.steps _ c.in-Some.is in
    let names = rw c.in-Ok-Names.field-0-is at (sym c.in-Ok-Names.is ∙ c.look.ensures) in
    judge_names _ _ _ _ _ _ (rw more at c.loop-record.invariant) names

pub loop-record-preserved : goal.loop-record-preserved
loop-record-preserved c =
    let more = records_more c.loop-record.record-iterator c.next.new.self _ c.next.ensures.steps _ c.in-Some.is in
    let moves = rw c.in-Ok-Moves.field-0-is at (sym c.in-Ok-Moves.is ∙ c.look.ensures) in
    judge_moves _ _ _ _ _ _ (rw more at c.loop-record.invariant) moves

pub returns-in-Ok-Ends : goal.returns-in-Ok-Ends
returns-in-Ok-Ends c =
    let more = records_more c.loop-record.record-iterator c.next.new.self _ c.next.ensures.steps _ c.in-Some.is in
    let ends = rw c.in-Ok-Ends.field-0-is at (sym c.in-Ok-Ends.is ∙ c.look.ensures) in
    judge_end _ _ _ _ _ _ (rw more at c.loop-record.invariant) ends

pub returns-in-Err : goal.returns-in-Err
returns-in-Err c =
    let more = records_more c.loop-record.record-iterator c.next.new.self _ c.next.ensures.steps _ c.in-Some.is in
    judge_bad _ _ _ _ _ _ (rw more at c.loop-record.invariant) (sym c.in-Err.is ∙ c.look.ensures)

pub returns : goal.returns
returns c = judge_none _ _ _ _ (rw (records_end c.loop-record.record-iterator c.next.new.self _ c.next.ensures.steps c.in-None.is) at c.loop-record.invariant)
