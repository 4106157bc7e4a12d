-- `m58::m58_run` meets its contract, by those of the functions that it calls. Assumes nothing.
use Rattle.std.specs.Prelude.{is_ok}
use Rattle.std.proofs.Common.{List, ℕ, Result, ◌≡◌, ◌∙◌, sym, ap}
use Rattle.semantics.specs.declared.State.{State}
use Rattle.saved.specs.Saved.{is_saved, state_of, found_of}
use Rattle.saved.specs.Ranges.{either, found_is_ok, either_found}
use Rattle.m58.specs.Laws.{ran_reads, ran_saved, ran_unsaved}
use Rattle.m58.proofs.m58_run.Goals as goal
use Rattle.m58.proofs.m58_run.Goals.{else-not-few_reads-via-then-not-few_reads+else-is_ok, else-not-few_reads-via-else-not-few_reads}

-- the state of what was found is that of the words, and it is `Ok` where they are a saved one
state_is : (ws : List ℕ) (found : Result State State) → found ≡ found_of ws → either found ≡ state_of ws
state_is ws found e = ap either e ∙ either_found ws

saved_is : (ws : List ℕ) (found : Result State State) → found ≡ found_of ws → is_saved ws ≡ is_ok found
saved_is ws found e = sym (ap is_ok e ∙ found_is_ok ws)

pub returns-then-is_ok : goal.returns-then-is_ok
returns-then-is_ok c =
    let e = c.found_in-found.ensures in
    ran_saved _ (state_is _ _ e) (rw c.device_of.ensures at c.run-end.ensures) (saved_is _ _ e ∙ sym c.is_ok.ensures.value ∙ c.if-is_ok.true)
    c.save.ensures.fitting c.save.ensures.words_after

pub returns-else-not-few_reads : goal.returns-else-not-few_reads
returns-else-not-few_reads c =
    let e = c.found_in-found.ensures in
    let p = rw c.device_of.ensures at c.run-end.ensures in
    elim c.else-not-few_reads.branch [
      | else-not-few_reads-via-then-not-few_reads+else-is_ok w ↦ ran_unsaved _ (state_is _ _ e) p (saved_is _ _ e ∙ sym w.is_ok.ensures.value ∙ w.if-is_ok.false)
      | else-not-few_reads-via-else-not-few_reads w ↦ ran_reads _ (state_is _ _ e) p (sym c.few_reads.ensures ∙ w.if-not-few_reads.false)
    ]
