-- `m58::m58_power_up`: by the part's number and the room, and the contracts of the functions that it calls. Assumes nothing.
use Rattle.std.proofs.Common.{◌∙◌, ap, eq-eqb, ne_eqb}
use Rattle.device.specs.declared.Device.{Device}
use Rattle.saved.specs.Saved.{saved_of, put_into}
use Rattle.m58.specs.Calls.{powers_up, powered_up, unworn}
use Rattle.m58.specs.Laws.{part_ok, part_err}
use Rattle.m58.proofs.m58_power_up.Goals as goal

pub returns-in-Ok : goal.returns-in-Ok
unfolding powers_up powered_up unworn put_into
returns-in-Ok c =
    let q = part_ok _ c.try_from.ensures c.in-Ok.is in
    let f = eq-eqb _ 25 c.if-state-eq25.true in
    record { value = rw (q.0, f); state = rw (q.0, f, q.1) (c.save.ensures.words_after ∙ rw f (ap (λ (d : Device). saved_of d.state) c.power_up.ensures.device)); counts = rw (q.0, f) c.power_up.ensures.counts }

pub returns-in_default : goal.returns-in_default
unfolding powers_up powered_up unworn
returns-in_default c =
    let q = part_ok _ c.try_from.ensures c.in-Ok.is in
    let f = ne_eqb _ 25 c.if-state-eq25.false in
    record { value = rw (q.0, f); state = rw (q.0, f); counts = rw (q.0, f) }

pub returns-in_default-2 : goal.returns-in_default-2
unfolding powers_up powered_up unworn
returns-in_default-2 c =
    let q = part_err _ c.try_from.ensures c.in_default.is in
    record { value = rw q.0; state = rw q.0; counts = rw q.0 }
