-- `saved::modes_word` meets its contract. The invariant: the bytes from `i` on are joined. Assumes nothing.
use Prim.Native.Nat.{◌+◌}
use mathlib.Core.Path.{◌≡◌}
use lib.ListN.{get_or, drop}
use Rattle.semantics.specs.declared.Mode.TheVariants.{Array}
use Rattle.semantics.specs.Tabulate.{tabulate}
use Rattle.saved.specs.Saved.{bank_number, bytes}
use Rattle.saved.proofs.modes_word.Given as goal

abbrev pub invariant-loop-i : goal.invariant-loop-i
invariant-loop-i l = l.w ≡ bytes (drop l.i (tabulate 8 (λ k. bank_number (get_or l.banks (l.from + k) (record { mode = Array })))))
