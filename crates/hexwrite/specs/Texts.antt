-- The laws that join records to a text, and a text to the answer of a writing. Assumes nothing.
use Rattle.std.specs.Prelude.{◌≡◌, ℕ, zero, suc, ◌+◌, ◌*◌, ◌/◌, ◌%◌, ◌<◌, ◌≤◌, Bool, true, false, cond, List, [], ◌∷◌, ◌++◌, length, take, drop, ◌==◌, ◌≢◌, slice_index, refl, Result, Ok, Err}
use Rattle.std.proofs.Common.{sym, ap, ◌∙◌, add-one, take_at, drop-drop, arith, length-append, length-drop, length-take-le, take-suc}
use Rattle.std.proofs.Math.Seq.{take-nil, drop-nil, drop-append_seam}
use borrow.Author.Tests.{eq-eqb, ne_eqb, lt-ltb, le-ltb, eqb-true, eqb-false}
use Rattle.geometry.specs.declared.Part.{Part}
use Rattle.geometry.specs.declared.Part.TheVariants.{FullBottom, FullTop, BenchBottom, BenchTop}
use Rattle.geometry.specs.Blocks.{geometry_of, words}
use Rattle.printing.specs.Room.{placed}
use Rattle.refusal.specs.declared.Refusal.{Refusal}
use Rattle.refusal.specs.declared.Refusal.TheVariants.{ArrayLength, RoomLength}
use Rattle.intelhex.specs.Text.{data_record, upper_record, end_record, bytes_of, span, sixteen_at, sixteens, text_of, written}
use Rattle.intelhex.specs.Text.{room_after}
use Rattle.intelhex.specs.Sizes.{length_record_text, length_bytes_of, sixteens_mono, text_length}
use Rattle.intelhex.specs.Sizes.{length_end_record, length_text_of}
use Rattle.hexwrite.specs.Records.{placed_then}

-- ---- the bytes of words

bytes_append : (x y : List ℕ) → bytes_of (x ++ y) ≡ bytes_of x ++ bytes_of y
unfolding bytes_of
bytes_append [] y = refl
bytes_append (w ∷ x) y = rw (bytes_append x y)

-- so many words have so many
pub bytes_count : (ws : List ℕ) (i : ℕ) → i ≤ length ws → length (bytes_of (take i ws)) ≡ 2 * i
bytes_count ws i h = rw (length_bytes_of, length-take-le i ws h)

-- one word more
pub bytes_more : (ws : List ℕ) (i : ℕ) → i < length ws → bytes_of (take (i + 1) ws) ≡ bytes_of (take i ws) ++ bytes_of (slice_index ws i ∷ [])
bytes_more ws i h = rw (add-one, take-suc ws i 0 h, bytes_append)

-- the bytes of the words from a place on, and of the first words
bytes_drop : (n : ℕ) (ws : List ℕ) → drop (2 * n) (bytes_of ws) ≡ bytes_of (drop n ws)
unfolding bytes_of
bytes_drop zero ws = refl
bytes_drop (suc n) [] = drop-nil (2 * suc n)
bytes_drop (suc n) (w ∷ ws) = let e : 2 * suc n ≡ suc (suc (2 * n)) = omega arith in rw e (bytes_drop n ws)

bytes_take : (n : ℕ) (ws : List ℕ) → take (2 * n) (bytes_of ws) ≡ bytes_of (take n ws)
unfolding bytes_of
bytes_take zero ws = refl
bytes_take (suc n) [] = take-nil (2 * suc n)
bytes_take (suc n) (w ∷ ws) = let e : 2 * suc n ≡ suc (suc (2 * n)) = omega arith in rw (e, bytes_take n ws)

-- "16 data bytes" are those of 8 words
sixteen_bytes : (k : ℕ) (ws : List ℕ) → take 16 (drop (16 * k) (bytes_of ws)) ≡ bytes_of (take 8 (drop (8 * k) ws))
sixteen_bytes k ws = let e : 16 * k ≡ 2 * (8 * k) = omega arith in rw (e, bytes_drop (8 * k) ws) (bytes_take 8 (drop (8 * k) ws))

-- ---- a sixteen

-- a 04 record has 16 bytes
upper_length : (u : ℕ) → length (upper_record u) ≡ 16
upper_length u = length_record_text (2 ∷ 0 ∷ 0 ∷ 4 ∷ u / 256 ∷ u % 256 ∷ [])

-- the upper half of an address, and the offset, from the sixteen's number
upper_is : (k : ℕ) → 16 * k / 65536 ≡ k / 4096
upper_is k = omega arith

offset_is : (k : ℕ) → 16 * k % 65536 ≡ k % 4096 * 16
offset_is k = omega arith

-- the records of sixteen bytes of number k
unfoldable pub sixteen_of : ℕ → List ℕ → List ℕ
sixteen_of k ws = cond (k % 4096 == 0) (upper_record (k / 4096)) [] ++ data_record (k % 4096 * 16) (bytes_of ws)

pub sixteen_is : (ws : List ℕ) (k : ℕ) → sixteen_at 65536 (bytes_of ws) (16 * k) ≡ sixteen_of k (take 8 (drop (8 * k) ws))
unfolding sixteen_at sixteen_of
sixteen_is ws k = rw (same, sixteen_bytes k ws, upper_is k, offset_is k)
  where
    same : (16 * k % 65536 == 0) ≡ (k % 4096 == 0)
    same = go (k % 4096 == 0) refl
      where
        go : (t : Bool) → (k % 4096 == 0) ≡ t → (16 * k % 65536 == 0) ≡ t
        go true e = eq-eqb (16 * k % 65536) 0 (omega (arith, offset_is k, eqb-true (k % 4096) 0 e))
        go false e = ne_eqb (16 * k % 65536) 0 (λ z. eqb-false (k % 4096) 0 e (omega (arith, offset_is k)))

module _ (ws : List ℕ) (k : ℕ) where
  -- where 65,536 bytes begin, and elsewhere
  sixteen_first : k % 4096 ≡ 0 → sixteen_of k ws ≡ upper_record (k / 4096) ++ data_record (k % 4096 * 16) (bytes_of ws)
  unfolding sixteen_of
  sixteen_first e = rw (eq-eqb (k % 4096) 0 e)

  sixteen_other : (k % 4096 ≢ 0) → sixteen_of k ws ≡ data_record (k % 4096 * 16) (bytes_of ws)
  unfolding sixteen_of
  sixteen_other n = rw (ne_eqb (k % 4096) 0 n)

  -- the records that are put there
  pub first_put : (room : List ℕ) (at next : ℕ) {middle after : List ℕ} → k % 4096 ≡ 0 → middle ≡ placed room at (upper_record (k / 4096)) → next ≡ at + 16
      → after ≡ placed middle next (data_record (k % 4096 * 16) (bytes_of ws)) → at + 16 ≤ length room → after ≡ placed room at (sixteen_of k ws)
  first_put room at next e p f q h =
      q ∙ rw (p, sixteen_first e)
      (placed_then room at (upper_record (k / 4096)) (data_record (k % 4096 * 16) (bytes_of ws)) (omega (arith, f, upper_length (k / 4096))) (omega (arith, f)))

  pub other_put : (room : List ℕ) (at : ℕ) {after : List ℕ} → (k % 4096 ≢ 0) → after ≡ placed room at (data_record (k % 4096 * 16) (bytes_of ws))
      → after ≡ placed room at (sixteen_of k ws)
  other_put room at n p = rw (sixteen_other n) p

  -- they are so long
  data_length : length ws ≡ 8 → length (data_record (k % 4096 * 16) (bytes_of ws)) ≡ 44
  data_length h =
      let o : ℕ = k % 4096 * 16 in
      omega (arith, length_record_text (length (bytes_of ws) ∷ o / 256 ∷ o % 256 ∷ 0 ∷ bytes_of ws), length_bytes_of ws)

  pub first_length : length ws ≡ 8 → k % 4096 ≡ 0 → length (sixteen_of k ws) ≡ 60
  first_length h e =
      rw (sixteen_first e)
      (omega (arith, length-append (upper_record (k / 4096)) (data_record (k % 4096 * 16) (bytes_of ws)), upper_length (k / 4096), data_length h))

  pub other_length : length ws ≡ 8 → (k % 4096 ≢ 0) → length (sixteen_of k ws) ≡ 44
  other_length h n = rw (sixteen_other n) (data_length h)

-- ---- a text

-- the text of an array, with a 04 record before each 65,536 bytes
unfoldable pub plain_text : List ℕ → List ℕ
plain_text ws = sixteens 65536 (bytes_of ws) (length ws / 8) ++ end_record

pub sixteens_more : (bs : List ℕ) (k : ℕ) → sixteens 65536 bs (k + 1) ≡ sixteens 65536 bs k ++ sixteen_at 65536 bs (16 * k)
unfolding sixteens
sixteens_more bs k = rw add-one

-- the chunk of number k, its records, and what is left after it
pub chunk_of : (ws items left : List ℕ) (k : ℕ) → drop (8 * k) ws ≡ items ++ left → length items ≡ 8
    → (sixteen_at 65536 (bytes_of ws) (16 * k) ≡ sixteen_of k items) × (left ≡ drop (8 * (k + 1)) ws) × (8 * k + 8 ≤ length ws)
chunk_of ws items left k e eight =
    let s : 8 * (k + 1) ≡ 8 * k + 8 = omega arith in
    let rest : drop 8 (items ++ left) ≡ left = rw eight at (drop-append_seam items left) in (
      sixteen_is ws k ∙ rw (e, take_at items left 8 eight),
      rw (s, ← drop-drop 8 (8 * k) ws, e) (sym rest),
      omega (arith, ap length e, length-append items left, length-drop (8 * k) ws),
    )

-- a sixteen, and the end record, have room
pub sixteen_room : (ws : List ℕ) (k : ℕ) → k < length ws / 8
    → length (sixteens 65536 (bytes_of ws) k) + length (sixteen_at 65536 (bytes_of ws) (16 * k)) ≤ length (plain_text ws)
unfolding plain_text
sixteen_room ws k h =
    let bs : List ℕ = bytes_of ws in
    let n : ℕ = length ws / 8 in
    omega (
      arith,
      sixteens_mono 65536 bs (k + 1) n (omega arith),
      ap length (sixteens_more bs k),
      length-append (sixteens 65536 bs k) (sixteen_at 65536 bs (16 * k)),
      length-append (sixteens 65536 bs n) end_record,
    )

pub end_room : (ws : List ℕ) → length (plain_text ws) ≡ length (sixteens 65536 (bytes_of ws) (length ws / 8)) + 12
unfolding plain_text
end_room ws = omega (arith, length-append (sixteens 65536 (bytes_of ws) (length ws / 8)) end_record, length_end_record)

-- a bench part's array ends where its first span does
same_span : (part : Part) (a : ℕ) → a < 2 * words (geometry_of part) → a % span part ≡ a % 65536
same_span FullBottom a h = refl
same_span FullTop a h = refl
same_span BenchBottom a h = omega arith
same_span BenchTop a h = omega arith

sixteens_span : (part : Part) (bs : List ℕ) (k : ℕ) → 16 * k ≤ 2 * words (geometry_of part) → sixteens (span part) bs k ≡ sixteens 65536 bs k
unfolding sixteens sixteen_at
sixteens_span part bs zero h = refl
sixteens_span part bs (suc k) h = rw (sixteens_span part bs k (omega arith), same_span part (16 * k) (omega arith))

text_plain : (part : Part) (ws : List ℕ) → length ws ≡ words (geometry_of part) → text_of part ws ≡ plain_text ws
unfolding text_of plain_text
text_plain part ws e = rw (sixteens_span part (bytes_of ws) (length ws / 8) (omega arith))

pub plain_length : (part : Part) (ws : List ℕ) → length ws ≡ words (geometry_of part) → length (plain_text ws) ≡ text_length part
plain_length part ws e = sym (ap length (text_plain part ws e)) ∙ length_text_of part ws e

-- ---- the three answers of a writing

module _ (part : Part) (ws room : List ℕ) where
  abbrev Answered : Result ℕ Refusal → List ℕ → Type 0
  Answered r after = (r ≡ written part ws room) × (after ≡ room_after part ws room)

  pub refused_length : (length ws ≢ words (geometry_of part)) → Answered (Err ArrayLength) room
  unfolding written room_after
  refused_length n = let t = ne_eqb (length ws) (words (geometry_of part)) n in (rw t, rw t)

  module _ (e : length ws ≡ words (geometry_of part)) where
    pub refused_room : length room < text_length part → Answered (Err RoomLength) room
    unfolding written room_after
    refused_room h =
        let t = eq-eqb (length ws) (words (geometry_of part)) e in
        let u = lt-ltb (length room) (text_length part) h in
        (rw (t, length_text_of part ws e, u), rw (t, length_text_of part ws e, u))

    pub whole_text : text_length part ≤ length room → Answered (Ok (text_length part)) (placed room 0 (plain_text ws))
    unfolding written room_after
    whole_text h =
        let t = eq-eqb (length ws) (words (geometry_of part)) e in
        let u = le-ltb (length room) (text_length part) h in
        (rw (t, length_text_of part ws e, u), rw (t, length_text_of part ws e, u, text_plain part ws e))
