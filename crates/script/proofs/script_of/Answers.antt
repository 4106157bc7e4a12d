-- `script::script_of`: a shorter text is taken whole.
use Rattle.std.proofs.Common.{arith}
use Rattle.std.proofs.lemmas.Grind.{common_steps}
use lib.Seq.{take_all}
use Rattle.script.specs.Script.{script_of}
use Rattle.script.proofs.script_of.Goals as goal

pub returns : goal.returns
unfolding script_of
returns c = let t = c.args.text.now in let h = c.unwrap_or.ensures in let i = c.get.ensures.lookup in grind (arith, common_steps, take_all 16384 t)
