-- `wear::place_of` meets its contract: a block that is not small stands in its row. Assumes nothing.
use Rattle.std.proofs.Common.{arith}
use Rattle.wear.specs.Counts.{row_of, place_in}
use Rattle.wear.proofs.place_of.Goals as goal

pub returns-in-4-to-258 : goal.returns-in-4-to-258
unfolding row_of place_in
returns-in-4-to-258 c = omega (arith, c.in-4-to-258)
