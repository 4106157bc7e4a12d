-- The records of a text, one after the other. Assumes nothing.
use Rattle.std.proofs.Common.{◌<◌, length, ap, arith, rules}
use Rattle.hexread.specs.Ends.{no_records, taken_end, taken_next, record_length, records_step}
use Rattle.hexread.proofs.RecordsIterator.next.Goals as goal

pub returns-then-is_empty-clause-steps : goal.returns-then-is_empty-clause-steps
returns-then-is_empty-clause-steps c = let none = no_records c.args.self.now.rest.now (search rules) in (none, none)

pub slice_bounds-self-count : goal.slice_bounds-self-count
slice_bounds-self-count c = let h : 0 < length c.args.self.now.rest.now = search rules in taken_next _ _ h c.taken_at-taken.ensures

pub slice_bounds-self-start : goal.slice_bounds-self-start
slice_bounds-self-start c = let h : 0 < length c.args.self.now.rest.now = search rules in taken_next _ _ h c.taken_at-taken.ensures

pub record_end-requires : goal.record_end-requires
record_end-requires c = let h : 0 < length c.args.self.now.rest.now = search rules in taken_end _ _ h c.taken_at-taken.ensures

pub slice_bounds-result-end : goal.slice_bounds-result-end
slice_bounds-result-end c =
    let h : 0 < length c.args.self.now.rest.now = search rules in
    record_length _ _ h c.taken_at-taken.ensures _ c.record_end.ensures

pub returns-clause-steps : goal.returns-clause-steps
returns-clause-steps c =
    let h : 0 < length c.args.self.now.rest.now = search rules in
    records_step _ _ h c.taken_at-taken.ensures _ c.record_end.ensures

pub returns-clause-goes : goal.returns-clause-goes
returns-clause-goes c =
    let h : 0 < length c.args.self.now.rest.now = search rules in
    record {
      on = λ _. (tt, tt, omega (arith, ap length (records_step _ _ h c.taken_at-taken.ensures _ c.record_end.ensures)));
      keeps = tt;
      rests = λ _. tt;
    }
