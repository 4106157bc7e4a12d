-- `Device::report` meets its contract, by its one test. Assumes nothing.
use Rattle.std.proofs.lemmas.Result.{err_from_is_err_and, MatchResult-at_ok, MatchResult-at_err}
use Rattle.wear.specs.Steps.{reported_with}
use Rattle.device.proofs.Device.report.Goals as goal

pub returns-in_err-tested : goal.returns-in_err-tested
unfolding reported_with
returns-in_err-tested c =
    let p = err_from_is_err_and c.from_residual.result c.from_residual.ensures.1 in
    let q = MatchResult-at_err _ _ _ c.in_err-tested.was (c.tested.ensures c.args.small.now) in
    rw (p.1, p.2, q.0, q.1)

pub returns : goal.returns
unfolding reported_with
returns c = rw (c.report_of.ensures, MatchResult-at_ok _ _ _ c.in_ok-tested.was (c.tested.ensures _))
