-- `hexread::fill` meets its contract. Assumes nothing.
use Rattle.std.proofs.Common.{◌+◌, ◌*◌, ◌≤◌, length, sym, ◌∙◌, rules}
use Rattle.hexread.specs.Ends.{records_more, records_end}
use Rattle.hexread.specs.Filling.{fill_start, fill_none, fill_end, fill_storable, fill_within, fill_data, fill_moves, line_long, line_upper}
use Rattle.hexread.proofs.fill.Goals as goal

pub loop-line-init : goal.loop-line-init
loop-line-init c = rw c.into_iter-line-iterator.ensures.into_iter_gives (fill_start _ _ c.requires)

pub of-requires : goal.of-requires
of-requires c =
    let more = records_more c.loop-line.line-iterator c.next.new.self _ c.next.ensures.steps _ c.in-Some.is in
    line_long _ _ _ _ _ _ (rw more at c.loop-line.invariant)

pub record-requires-clause-upper : goal.record-requires-clause-upper
record-requires-clause-upper c =
    let more = records_more c.loop-line.line-iterator c.next.new.self _ c.next.ensures.steps _ c.in-Some.is in
    line_upper _ _ _ _ _ _ (rw more at c.loop-line.invariant)

pub slice_bounds-store-end : goal.slice_bounds-store-end
slice_bounds-store-end c =
    let more = records_more c.loop-line.line-iterator c.next.new.self _ c.next.ensures.steps _ c.in-Some.is in
    let h : 9 + 2 * c.in-Names.count ≤ length c.in-Some.line.now =
    fill_within _ _ _ _ _ _ (rw more at c.loop-line.invariant) (sym c.in-Names.is ∙ c.«record».ensures) in
    search rules

pub store-requires : goal.store-requires
store-requires c =
    let more = records_more c.loop-line.line-iterator c.next.new.self _ c.next.ensures.steps _ c.in-Some.is in
    fill_storable _ _ _ _ _ _ (rw more at c.loop-line.invariant) (sym c.in-Names.is ∙ c.«record».ensures)

pub loop-line-preserved-in-Names : goal.loop-line-preserved-in-Names
loop-line-preserved-in-Names c =
    let more = records_more c.loop-line.line-iterator c.next.new.self _ c.next.ensures.steps _ c.in-Some.is in
    fill_data _ _ _ _ _ _ (rw more at c.loop-line.invariant) (sym c.in-Names.is ∙ c.«record».ensures) _ c.store.ensures

pub loop-line-preserved : goal.loop-line-preserved
loop-line-preserved c =
    let more = records_more c.loop-line.line-iterator c.next.new.self _ c.next.ensures.steps _ c.in-Some.is in
    fill_moves _ _ _ _ _ _ (rw more at c.loop-line.invariant) (sym c.in-Moves.is ∙ c.«record».ensures)

pub returns-in-Ends : goal.returns-in-Ends
returns-in-Ends c =
    let more = records_more c.loop-line.line-iterator c.next.new.self _ c.next.ensures.steps _ c.in-Some.is in
    fill_end _ _ _ _ _ _ (rw more at c.loop-line.invariant) (sym c.in-Ends.is ∙ c.«record».ensures)

pub returns : goal.returns
returns c = absurd (fill_none _ _ _ _ (rw (records_end c.loop-line.line-iterator c.next.new.self _ c.next.ensures.steps c.in-None.is) at c.loop-line.invariant))
