-- Laws that document 02 states in words: what a byte is after the bytes that a text names, what a refused text leaves, and what a writing leaves in a lent room.
-- Assumes nothing.
use Rattle.std.specs.Prelude.{ℕ, ◌<◌, ◌≤◌, Bool, true, false, cond, ◌≡◌, eqb, ltb, length, take, drop, Result, Ok, Err, is_ok}
use mathlib.Core.List.{List, [], ◌∷◌, ◌++◌, Memᴰ}
use Rattle.std.proofs.Math.Path.{refl}
use Rattle.std.proofs.Common.{◌∙◌, eq-eqb, ne_eqb, eqb-true, ltb-false, lt-ltb, le-ltb}
use Rattle.std.proofs.Math.Seq.{take-append_seam}
use Rattle.refusal.specs.declared.Refusal.{Refusal}
use Rattle.refusal.specs.declared.Refusal.TheVariants.{ArrayLength, RoomLength}
use Rattle.geometry.specs.declared.Part.{Part}
use Rattle.geometry.specs.Blocks.{geometry_of, words}
use Rattle.printing.specs.Room.{advanced, put_whole}
use Rattle.semantics.specs.Tabulate.{length_tabulate}
use Rattle.intelhex.specs.Records.{Named, byte_after, word_after, words_after, named, record_lines, verdict, array_read}
use Rattle.intelhex.specs.Text.{text_of, written, room_after}
use Rattle.intelhex.specs.Sizes.{text_length, length_text_of}
use Rattle.intelhex.specs.declared.BadRecord.{BadRecord}
use Rattle.intelhex.specs.Laws.{Unnamed}

-- ---- the bytes that a text names

module _ (x : Named) (l : List Named) (a old : ℕ) where
  pub byte_here : x.address ≡ a → byte_after (x ∷ l) a old ≡ byte_after l a x.value
  unfolding byte_after
  byte_here e = rw (eq-eqb x.address a e)

  pub byte_elsewhere : (x.address ≡ a → ⊥) → byte_after (x ∷ l) a old ≡ byte_after l a old
  unfolding byte_after
  byte_elsewhere e = rw (ne_eqb x.address a e)

-- the bytes of the first list are named before those of the second
pub byte_append : (l m : List Named) (a old : ℕ) → byte_after (l ++ m) a old ≡ byte_after m a (byte_after l a old)
unfolding byte_after
byte_append [] m a old = refl
byte_append (x ∷ l) m a old = byte_append l m a (cond (eqb x.address a) x.value old)

-- "Words and halves not named stay"
pub byte_not_named : (l : List Named) (a old : ℕ) → Unnamed l a → byte_after l a old ≡ old
unfolding byte_after
byte_not_named [] a old h = refl
byte_not_named (x ∷ l) a old h = byte_elsewhere x l a old (h x (Memᴰ.head refl)) ∙ byte_not_named l a old (λ y p. h y (Memᴰ.tail p))

-- "a byte named twice keeps the later value": that of the last byte that has its address
pub later_wins : (l : List Named) (x : Named) (m : List Named) (a old : ℕ) → x.address ≡ a → Unnamed m a → byte_after (l ++ (x ∷ m)) a old ≡ x.value
later_wins l x m a old e h = byte_append l (x ∷ m) a old ∙ byte_here x m a (byte_after l a old) e ∙ byte_not_named m a x.value h

-- ---- the array

-- "A refused file leaves the array as it was."
pub refused_stays : (part : Part) (text ws : List ℕ) → (bad : BadRecord) → verdict part text ws ≡ Err bad → array_read part text ws ≡ ws
unfolding array_read
refused_stays part text ws bad e = rw e

-- a reading leaves the array as long as it was
pub array_read_length : (part : Part) (text ws : List ℕ) → length (array_read part text ws) ≡ length ws
unfolding array_read words_after
array_read_length part text ws = go (is_ok (verdict part text ws))
  where
    go : (t : Bool) → length (cond t (words_after (named 0 (record_lines text)) ws) ws) ≡ length ws
    go true = length_tabulate (length ws) (word_after (named 0 (record_lines text)) ws)
    go false = refl

-- ---- the room

-- "17 text too short", at its edges: a full part's text has 92,282,892 bytes, a bench part's 90,140. A room that is shorter, by one byte too, is refused and stays;
-- one of just so many bytes, or of more, is not refused
pub room_edges : (part : Part) (ws room : List ℕ) → length ws ≡ words (geometry_of part)
    → (length room < text_length part → (written part ws room ≡ Err RoomLength) × (room_after part ws room ≡ room))
    × (text_length part ≤ length room → written part ws room ≡ Ok (text_length part))
unfolding written room_after
room_edges part ws room e = (
  λ h. let short : ltb (length room) (text_length part) ≡ true = lt-ltb (length room) (text_length part) h in (rw (same, long, short), rw (same, long, short)),
  λ h. rw (same, long, le-ltb (length room) (text_length part) h),
)
  where
    same : eqb (length ws) (words (geometry_of part)) ≡ true
    same = eq-eqb (length ws) (words (geometry_of part)) e

    long : length (text_of part ws) ≡ text_length part
    long = length_text_of part ws e

-- what is written is an array of the part's length, fits the room, and comes with its length
pub written_good : (part : Part) (ws room : List ℕ) (size : ℕ) → written part ws room ≡ Ok size
    → (length ws ≡ words (geometry_of part)) × (length (text_of part ws) ≤ length room) × (size ≡ length (text_of part ws))
unfolding written
written_good part ws room size = go (eqb (length ws) (words (geometry_of part))) refl (ltb (length room) (length (text_of part ws))) refl
  where
    n : ℕ
    n = length (text_of part ws)

    go : (s : Bool) → eqb (length ws) (words (geometry_of part)) ≡ s → (t : Bool) → ltb (length room) n ≡ t
        → ◌≡◌ {A = Result ℕ Refusal} (cond s (cond t (Err RoomLength) (Ok n)) (Err ArrayLength)) (Ok size)
        → (length ws ≡ words (geometry_of part)) × (n ≤ length room) × (size ≡ n)
    go true p true q e = cc
    go true p false q e = (eqb-true (length ws) (words (geometry_of part)) p, ltb-false (length room) n q, cc)
    go false p true q e = cc
    go false p false q e = cc

module _ (part : Part) (ws room : List ℕ) (size : ℕ) (good : written part ws room ≡ Ok size) where
  -- "and places past it stay"
  pub room_whole : room_after part ws room ≡ text_of part ws ++ drop (length (text_of part ws)) room
  unfolding room_after
  room_whole =
      rw good
      (put_whole {next = advanced (length room) 0 (length (text_of part ws))} (record { room = refl; place = refl }) (written_good part ws room size good).1)

  -- "What is written into lent room comes with its length"
  pub room_text : take size (room_after part ws room) ≡ text_of part ws
  room_text = rw (room_whole, (written_good part ws room size good).2) (take-append_seam (text_of part ws) (drop (length (text_of part ws)) room))
