-- `reading::read_word` meets its contract: the address's location, bank and mode. Assumes nothing.
use Rattle.reading.specs.Shown.{read_seen}
use Rattle.reading.proofs.read_word.Goals as goal

pub returns : goal.returns
returns c =
    let m = c in
    read_seen m.args.s _ _ _ _ _ _ m.location_of-location.ensures.value m.bank_of-bank.ensures.value m.mode_of-mode.ensures c.read_at.ensures
