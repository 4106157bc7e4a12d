-- What the functions that play a script say of their work: a line that is played at a place, the start, and how far the lines are played. The laws are in proofs/Laws.
-- Assumes nothing.
use Rattle.std.specs.Prelude.{ℕ, suc, ◌+◌, ◌-◌, ◌≤◌, ◌≡◌, take}
use mathlib.Core.List.{List, ◌++◌}
use Rattle.std.proofs.Math.ListN.{length, drop}
use Rattle.geometry.specs.declared.Part.TheVariants.{BenchBottom}
use Rattle.semantics.specs.State.{power_up}
use Rattle.wear.specs.Counts.{Counts, no_counts}
use Rattle.wear.specs.Steps.{fresh_with}
use Rattle.device.specs.Outcomes.{holding}
use Rattle.printing.specs.Room.{Put}
use Rattle.script.specs.declared.Progress.{Progress}
use Rattle.script.specs.Script.{machine_of, LinePlayed, after_lines, spoken}
use Rattle.lines.specs.Lines.{lines, line_end, line_next}

-- what holds after the line that begins at a place was played on what is done
pub record PlayedAt (script : List ℕ) (at : ℕ) (p : Progress) (k : Counts) (xs room : List ℕ) (r : Progress) (counts : Counts) (array after : List ℕ) : Type 0 where
  pub line : LinePlayed (take (line_end script at - at) (drop at script)) p.device (p.count + 1) k xs room p.place (record { device = r.device; place = r.place }) counts array after
  pub count : r.count ≡ p.count + 1
  pub next : r.next ≡ line_next script at

-- how the loop begins: on a device at power-up, with its counts at 0 and nothing played
pub record Begun (script : List ℕ) (p : Progress) (k : Counts) : Type 0 where
  pub few : length script ≤ 16384
  pub from : p ≡ record { device = holding (power_up BenchBottom); count = 0; place = 0; next = 0 }
  pub unworn : k ≡ no_counts

-- the text `printed` of the lines played was put into the room. The lines from `at` on, played on the machine that stands, give what is left.
pub record Sofar (script xs room : List ℕ) (p : Progress) (at : ℕ) (k : Counts) (array after : List ℕ) : Type 0 where
  pub within : at ≤ length script
  pub few : p.count ≤ at
  pub printed : List ℕ
  pub put : Put room 0 printed after p.place
  pub whole : printed ++ spoken (machine_of p.device k array) (suc p.count) (lines (drop at script)) ≡ spoken (fresh_with BenchBottom xs) 1 (lines script)
  pub machine : after_lines (machine_of p.device k array) (lines (drop at script)) ≡ after_lines (fresh_with BenchBottom xs) (lines script)
  pub counted : p.count + length (lines (drop at script)) ≡ length (lines script)
