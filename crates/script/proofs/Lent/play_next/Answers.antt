-- `Lent::play_next`: what is taken at the place is a part of the script, and is played.
use Rattle.lines.specs.Lines.{taken_within}
use Rattle.script.proofs.Laws.{played_at}
use Rattle.script.proofs.Lent.play_next.Goals as goal

pub slice_bounds-line-count : goal.slice_bounds-line-count
slice_bounds-line-count c = (taken_within _ _ _ c.requires.0 c.taken_at-taken.ensures).0

pub slice_bounds-line-start : goal.slice_bounds-line-start
slice_bounds-line-start c = (taken_within _ _ _ c.requires.0 c.taken_at-taken.ensures).0

pub slice_bounds-line-end : goal.slice_bounds-line-end
slice_bounds-line-end c = (taken_within _ _ _ c.requires.0 c.taken_at-taken.ensures).1

pub returns-clause-played : goal.returns-clause-played
returns-clause-played c = played_at _ _ _ _ _ _ _ _ _ _ _ c.taken_at-taken.ensures c.play_line-played.ensures.played
