-- `wear::count_finished` meets its contract, by what ran. Assumes nothing.
use Rattle.std.proofs.Common.{sym, ◌∙◌}
use Rattle.wear.proofs.Places.{finished, unfinished, no_erase}
use Rattle.wear.proofs.count_finished.Goals as goal

-- an erase that has ended
pub returns-then-not-runs : goal.returns-then-not-runs
returns-then-not-runs c = c.add_one.ensures ∙ finished _ _ _ _ _ c.in-Erase.is (sym c.runs.ensures ∙ c.if-not-runs.true)

-- an erase that still runs
pub returns-else-not-runs : goal.returns-else-not-runs
returns-else-not-runs c = unfinished _ _ _ _ _ c.in-Erase.is (sym c.runs.ensures ∙ c.if-not-runs.false)

pub returns-in_default : goal.returns-in_default
returns-in_default c = no_erase _ _ _ c.in_default.not-Erase
