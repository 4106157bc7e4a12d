-- `script::play_lines`. The invariant: the reader keeps the script, and the lines before its place are played (`Sofar`).
use Rattle.std.proofs.Common.{◌≡◌, ◌-◌, length}
use Rattle.wear.specs.Counts.{lent}
use Rattle.script.specs.Laws.{Sofar}
use Rattle.script.specs.Lent.{SameLent}
use Rattle.script.proofs.Lent.play_lines.Given as goal

abbrev pub invariant-loop-reader : goal.invariant-loop-reader
invariant-loop-reader l = (l.reader.text.now ≡ l.script) × SameLent l.initial.self l.self × Sofar l.script l.initial.self.array.now l.initial.self.room.now l.p l.reader.at (lent l.self.main.now l.self.small.now) l.self.array.now l.self.room.now

abbrev pub decreases-loop-reader : goal.decreases-loop-reader
decreases-loop-reader l = length l.reader.text.now - l.reader.at
