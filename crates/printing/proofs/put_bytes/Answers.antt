-- `printing::put_bytes`: one byte more.
use Rattle.std.proofs.Common.{ℕ, add-one}
use Rattle.std.proofs.Math.Seq.{take-suc}
use Rattle.printing.specs.Room.{put_none, put_then}
use Rattle.printing.proofs.put_bytes.Goals as goal

pub loop-b-init : goal.loop-b-init
loop-b-init c = put_none _ _

pub loop-b-preserved : goal.loop-b-preserved
loop-b-preserved c = rw (add-one, take-suc {A = ℕ} _ _ 0 c.loop-b-test.true) (put_then c.loop-b.invariant c.put_byte-next.ensures)
