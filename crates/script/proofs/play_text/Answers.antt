-- `script::play_text` meets its contract: the lines are played from power-up, the end is put after their text, and the room holds it all.
use Rattle.std.proofs.Common.{rules, ◌≡◌, ℕ, List, ap, arith, length}
use Rattle.wear.specs.Counts.{Counts}
use Rattle.script.specs.Script.{Transcribed}
use Rattle.device.specs.declared.Device.{Device}
use Rattle.script.proofs.Laws.{script_short}
use Rattle.script.proofs.Fits.{transcribed}
use Rattle.script.proofs.play_text.Goals as goal

pub play_lines-p-requires : goal.play_lines-p-requires
play_lines-p-requires c = record {
  few = omega (arith, script_short c.args.text.now, ap length c.script_of.ensures);
  from = ap (λ (d : Device). record { device = d; count = 0; place = 0; next = 0 }) c.power_up.ensures.device;
  unworn = c.power_up.ensures.counts;
}

-- what was lent ends as the lines leave it
at_last : {t xs room after array array' : List ℕ} {next : ℕ} {k k' : Counts} → k' ≡ k → array' ≡ array → Transcribed t xs room next k array after → Transcribed t xs room next k' array' after
at_last e f h = rw (e, f) h

pub returns : goal.returns
returns c =
    at_last (search rules) (search rules) (transcribed _ _ _ _ _ _ _ _ _ _ (search rules) c.script_of.ensures c.play_lines-p.ensures.played c.put_end.ensures)
