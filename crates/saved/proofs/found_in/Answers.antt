-- `saved::found_in` meets its contract: by what each test says of the words. Assumes nothing.
use mathlib.Core.Bool.{true, false}
use mathlib.Core.Path.{◌≡◌, refl, sym, ap, ◌∙◌}
use mathlib.Core.Logic.{◌≢◌}
use borrow.Author.Rules.{rules}
use borrow.Author.Tests.{ne_eqb}
use lib.ListN.{length}
use Rattle.std.proofs.Common.{Ok, Err, None}
use Rattle.saved.specs.Saved.{is_saved, rest_in_range, loaded_of, decoded_of}
use Rattle.saved.specs.Ranges.{saved_by, decoded_some, decoded_none, saved_found, unsaved_found}
use Rattle.saved.proofs.found_in.Goals as goal
use Rattle.saved.proofs.found_in.Goals.{in_default-via-in-None-1, in_default-via-in-Some+else-rest_in_range, in_default-via-in-Some+then-rest_in_range+in-None-1}

pub load_with-requires : goal.load_with-requires
load_with-requires c = (decoded_some _ _ c.in-Some-decode_activity.ensures).1

pub returns : goal.returns
returns c =
    let ws = c.args.words.now in
    let same = c.in-Some.ensures.cases.same in
    let activity = decoded_some c.in-Some.saved.now _ c.in-Some-decode_activity.ensures in
    let saved = saved_by c.in-Some.saved.now true true (sym c.if-rest_in_range.ensures) activity.0 in
    ap Ok (c.load_with.ensures ∙ ap loaded_of same) ∙ saved_found ws (ap is_saved (sym same) ∙ saved)

pub returns-2 : goal.returns-2
unfolding rest_in_range
returns-2 c =
    let ws = c.args.words.now in
    let unsaved : is_saved ws ≡ false =
    elim c.in_default.branch [
      | in_default-via-in-None-1 w ↦ let h : length ws ≢ 25 = search rules in saved_by ws false _ (rw (ne_eqb (length ws) 25 h)) refl
      | in_default-via-in-Some+else-rest_in_range w ↦
          let same = w.in-Some.ensures.cases.same in
          saved_by ws false _ (ap rest_in_range (sym same) ∙ sym w.if-rest_in_range.ensures) refl
      | in_default-via-in-Some+then-rest_in_range+in-None-1 w ↦
          let same = w.in-Some.ensures.cases.same in
          let h : None ≡ decoded_of w.in-Some.saved.now = search rules in
          saved_by ws true false (ap rest_in_range (sym same) ∙ sym w.if-rest_in_range.ensures) (decoded_none ws (h ∙ ap decoded_of same))
    ] in
    ap Err c.no_state.ensures ∙ unsaved_found ws unsaved
