-- `hexread::look` meets its contract. Assumes nothing.
use Rattle.std.proofs.Common.{◌≡◌, drop, Some, None, sym, ap, ◌∙◌, arith}
use Rattle.std.proofs.lemmas.List.{take_rest}
use Rattle.std.proofs.lemmas.Result.{err_from_is_err_and}
use Rattle.intelhex.specs.Records.{count}
use Rattle.hexread.specs.declared.Header.{Header}
use Rattle.hexread.specs.Bytes.{scanned}
use Rattle.hexread.specs.Refusals.{no_colon, no_digits, other_size, by_parts, look_bad, look_good, sum_refused, sum_given, scanned_none, scanned_some}
use Rattle.hexread.proofs.look.Goals.{then-line-h-via-then-line-h, then-line-h-via-else-line-h+then-line-ne58}
use Rattle.hexread.proofs.look.Goals as goal

pub returns-then-line-lt11 : goal.returns-then-line-lt11
returns-then-line-lt11 c = look_bad _ _ _ (other_size _ _ _ (λ e. omega arith))

pub returns-then-line-h : goal.returns-then-line-h
returns-then-line-h c =
    let k : c.of-h.result.count ≡ count c.args.line.now = ap (λ (h : Header). h.count) c.of-h.ensures in
    elim c.then-line-h.branch [
      | then-line-h-via-then-line-h w ↦ look_bad _ _ _ (other_size _ _ _ (λ e. w.if-line-h.true (omega arith)))
      | then-line-h-via-else-line-h+then-line-ne58 w ↦ look_bad _ _ _ (no_colon _ _ _ w.if-line-ne58.true)
    ]

pub returns-in_err-sum : goal.returns-in_err-sum
returns-in_err-sum c =
    let p = err_from_is_err_and c.from_residual.result c.from_residual.ensures.1 in
    let form = sum_refused c.scan.result (sym c.ok_or.ensures.value ∙ c.in_err-sum.was) in
    let none : scanned (drop 1 c.args.line.now) ≡ None = rw take_rest at (sym c.scan.ensures ∙ form.0) in
    rw (p.1, p.2, form.1) (look_bad _ _ _ (no_digits _ _ _ (scanned_none _ none)))

pub returns-in_err-test : goal.returns-in_err-test
returns-in_err-test c =
    let a = c.args in
    let p = err_from_is_err_and c.from_residual-in_err-test.result c.from_residual-in_err-test.ensures.1 in
    let k : c.of-h.result.count ≡ count a.line.now = ap (λ (h : Header). h.count) c.of-h.ensures in
    let some : scanned (drop 1 a.line.now) ≡ Some c.in_ok-sum.sum =
    rw take_rest at (sym c.scan.ensures ∙ sum_given c.scan.result (sym c.ok_or.ensures.value ∙ c.in_ok-sum.was)) in
    let is = scanned_some a.line.now some in
    let parts = by_parts a.size a.upper a.line.now (omega arith) c.if-line-ne58.false is.0 in
    rw (p.1, p.2) (look_bad _ _ _ (parts ∙ sym (rw (c.in_err-test.was, c.of-h.ensures, is.1) at c.test.ensures)))

pub returns : goal.returns
returns c =
    let a = c.args in
    let k : c.of-h.result.count ≡ count a.line.now = ap (λ (h : Header). h.count) c.of-h.ensures in
    let some : scanned (drop 1 a.line.now) ≡ Some c.in_ok-sum.sum =
    rw take_rest at (sym c.scan.ensures ∙ sum_given c.scan.result (sym c.ok_or.ensures.value ∙ c.in_ok-sum.was)) in
    let is = scanned_some a.line.now some in
    let parts = by_parts a.size a.upper a.line.now (omega arith) c.if-line-ne58.false is.0 in
    rw c.«record».ensures (look_good _ _ _ (parts ∙ sym (rw (c.in_ok-test.was, c.of-h.ensures, is.1) at c.test.ensures)))
