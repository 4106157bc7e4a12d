-- What is borrowed for a script stays the same places of memory.
-- Assumes nothing.
use Rattle.std.specs.Prelude.{◌≡◌, refl}
use Rattle.std.proofs.Common.{◌∙◌}
use Rattle.script.specs.declared.Lent.{Lent}

pub record SameLent (before after : Lent) : Type 0 where
  pub main : after.main.ghost_name ≡ before.main.ghost_name
  pub small : after.small.ghost_name ≡ before.small.ghost_name
  pub array : after.array.ghost_name ≡ before.array.ghost_name
  pub room : after.room.ghost_name ≡ before.room.ghost_name

pub same_none : (l : Lent) → SameLent l l
same_none l = record { main = refl; small = refl; array = refl; room = refl }

pub same_then : {before middle after : Lent} → SameLent before middle → SameLent middle after → SameLent before after
same_then p q = record { main = q.main ∙ p.main; small = q.small ∙ p.small; array = q.array ∙ p.array; room = q.room ∙ p.room }
