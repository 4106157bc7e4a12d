-- `saved::save` meets its contract, by that of `put_state`. Assumes nothing.
use mathlib.Core.Path.{◌∙◌}
use borrow.Author.Tests.{eq-eqb, ne_eqb}
use lib.ListN.{length}
use Rattle.saved.specs.Saved.{put_into}
use Rattle.saved.proofs.Fits.{fits}
use Rattle.saved.proofs.save.Goals as goal

pub returns-in-Some-clause-words_after : goal.returns-in-Some-clause-words_after
unfolding put_into
returns-in-Some-clause-words_after c = c.put_state.ensures ∙ rw (eq-eqb (length c.args.words.now) 25 c.in-Some.ensures.cases.long)

pub returns-in-Some-clause-fitting : goal.returns-in-Some-clause-fitting
returns-in-Some-clause-fitting c = fits _ _ c.well_formed.0

pub returns-in_default-clause-words_after : goal.returns-in_default-clause-words_after
unfolding put_into
returns-in_default-clause-words_after c = rw (ne_eqb (length c.args.words.now) 25 c.in_default.ensures.cases)

pub returns-in_default-clause-fitting : goal.returns-in_default-clause-fitting
returns-in_default-clause-fitting c = fits _ _ c.well_formed.0
