-- `playback::few_reads` meets its contract. Assumes nothing.
use Rattle.std.proofs.Common.{ℕ, List, [], ◌∷◌, ◌&&◌, ◌≡◌, ◌∙◌, refl, ap, rules, le-leb}
use borrow.Author.Tests.{tests}
use Rattle.std.proofs.lemmas.Bool.{lt-leb}
use Rattle.std.proofs.lemmas.Iterator.{YieldsList-from_slice}
use Rattle.std.proofs.lemmas.Iterator.Search.{all_from_yields_List}
use Rattle.std.specs.List.{list_all}
use Rattle.playback.specs.Reads.{is_read, all_reads, few_reads}
use Rattle.playback.proofs.few_reads.Goals as goal

-- what the iterator tests of each is the definition's test of all
all_alike : (l : List ℕ) → list_all is_read l ≡ all_reads l
unfolding all_reads
all_alike [] = refl
all_alike (c ∷ l) = ap (λ b. is_read c && b) (all_alike l)

pub returns-then-steps-le8 : goal.returns-then-steps-le8
unfolding few_reads
returns-then-steps-le8 c =
    rw (le-leb _ _ c.if-steps-le8.true)
    (all_from_yields_List is_read _ _ _ c.all.ensures.ran (YieldsList-from_slice c.args.steps.now cc) (λ x b q k. search (rules, tests)) ∙ all_alike _)

pub returns-else-steps-le8 : goal.returns-else-steps-le8
unfolding few_reads
returns-else-steps-le8 c = rw (lt-leb _ _ c.if-steps-le8.false)
