-- `saved::put_state` meets its contract, by those of the functions that store the words. Assumes nothing.
use mathlib.Core.Path.{◌≡◌, refl, ◌∙◌}
use borrow.Author.Rules.{rules}
use borrow.Author.Tests.{eq-eqb}
use lib.ListN.{length, set}
use lib.Seq.{sets}
use Rattle.saved.specs.Saved.{part_number, bank_words, put_into, saved_of}
use Rattle.saved.specs.Laws.{stored}
use Rattle.saved.proofs.put_state.Goals as goal

pub returns : goal.returns
unfolding put_into
returns c =
    let s = c.args.s in
    let ws = c.args.words.now in
    let h : length ws ≡ 25 = search rules in
    let banks : set (set (set ws 0 c.part_number.result) 1 c.modes_word.result) 2 c.modes_word-2.result ≡ sets (set ws 0 (part_number s.part)) 1 (bank_words s.banks) =
    rw (c.part_number.ensures, c.modes_word.ensures, c.modes_word-2.ensures) in
    let room : put_into ws (saved_of s) ≡ saved_of s = rw (eq-eqb (length ws) 25 h) in
    stored s ws _ _ _ _ _ h refl banks c.put_activity.ensures c.put_rest.ensures c.put_buffer.ensures ∙ room
