-- What a read shows, by the mode that decides: as the code comes to it. Laws only.
-- Assumes nothing.
use Rattle.std.specs.Prelude.{ℕ, List, ◌≡◌, get_or}
use Rattle.std.proofs.Common.{◌∙◌}
use Rattle.geometry.specs.declared.Geometry.{Geometry}
use Rattle.geometry.specs.Blocks.{location, block_of, bank_of, bank_offset}
use Rattle.protection.specs.Words.{is_unprotected}
use Rattle.semantics.specs.declared.Mode.{Mode}
use Rattle.semantics.specs.declared.Mode.TheVariants.{Array, Status, Signature, Query}
use Rattle.semantics.specs.declared.Control.{Control}
use Rattle.semantics.specs.declared.State.{State}
use Rattle.semantics.specs.declared.Place.{Place}
use Rattle.semantics.specs.declared.View.{View}
use Rattle.semantics.specs.State.{geometry, mode_of}
use Rattle.semantics.specs.Reading.{status_word, signature_word, query_word, shown, shows_by, read_in, read_word}

-- the place of location l in bank k, and what is seen there of a mode, a control and the protection
abbrev pub placed : Geometry → ℕ → ℕ → ℕ → Place
placed g a l k = record { address = a; location = l; bank = k; block = block_of g l }

abbrev pub seen : Geometry → Mode → Control → List ℕ → ℕ → View
seen g m c us l = record { mode = m; unprotected = is_unprotected us (block_of g l); control = c }

module _ (g : Geometry) (v : View) (xs : List ℕ) (p : Place) (by : Mode) (eb : by ≡ shown g v.control.activity.running p.bank v.mode) where
  reads_by : (n : Mode) → by ≡ n → read_in g v xs p ≡ shows_by g v xs p n
  unfolding read_in
  reads_by n h = rw (← eb, h)

  pub by_array : by ≡ Array → read_in g v xs p ≡ get_or xs p.location 0
  unfolding shows_by
  by_array h = reads_by Array h

  pub by_status : by ≡ Status → read_in g v xs p ≡ status_word g v.control.activity v.control.flags p.bank
  unfolding shows_by
  by_status h = reads_by Status h

  pub by_signature : by ≡ Signature → read_in g v xs p ≡ signature_word g v p.location
  unfolding shows_by
  by_signature h = reads_by Signature h

  pub by_query : by ≡ Query → read_in g v xs p ≡ query_word (bank_offset g p.location)
  unfolding shows_by
  by_query h = reads_by Query h

-- at the address a of a state: l is its location, k its bank, m the bank's mode
pub read_seen : (s : State) (xs : List ℕ) (a l k : ℕ) (m : Mode) (r : ℕ) → l ≡ location (geometry s) a → k ≡ bank_of (geometry s) l → m ≡ mode_of s k
    → ((a : ℕ) → r ≡ read_in (geometry s) (seen (geometry s) m s.control s.unprotected l) xs (placed (geometry s) a l k)) → r ≡ read_word s xs a
unfolding read_word
read_seen s xs a l k m r el ek em f = f a ∙ rw (em, ek, el)
