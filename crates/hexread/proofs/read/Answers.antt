-- `hexread::read` meets its contract. Assumes nothing.
use Rattle.std.proofs.Common.{sym, ◌∙◌}
use Rattle.std.proofs.lemmas.Result.{err_from_is_err_and}
use Rattle.hexread.specs.Reading.{other_length, accepted, read_whole, read_refused}
use Rattle.hexread.proofs.read.Goals as goal

pub returns-then-array-n : goal.returns-then-array-n
returns-then-array-n c =
    let t = other_length _ _ _ (λ e. c.if-array-n.true (e ∙ sym c.length_of-n.ensures.value)) in
    record { value = t.0; array = t.1 }

pub fill-requires : goal.fill-requires
fill-requires c =
    let n = c.length_of-n.ensures.value in
    let a = c.args in
    accepted a.part _ a.array.now (c.if-array-n.false ∙ n) _ _ n c.judge.ensures c.in_ok-lines.was

pub returns : goal.returns
returns c =
    let n = c.length_of-n.ensures.value in
    let t = read_whole _ _ _ (c.if-array-n.false ∙ n) _ _ n c.judge.ensures _ c.in_ok-lines.was c.fill.ensures in
    record { value = t.0; array = t.1 }

pub returns-in_err-lines : goal.returns-in_err-lines
returns-in_err-lines c =
    let n = c.length_of-n.ensures.value in
    let a = c.args in
    let t = read_refused a.part a.text.now a.array.now (c.if-array-n.false ∙ n) _ _ n c.judge.ensures c.in_err-lines.was in
    let p = err_from_is_err_and c.from_residual.result c.from_residual.ensures.1 in
    record { value = rw (p.1, p.2) t.0; array = t.1 }
