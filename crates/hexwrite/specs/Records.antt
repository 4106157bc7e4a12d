-- What the private functions leave in the room, up to a whole record, and the laws that join it. Assumes nothing.
use Rattle.std.specs.Prelude.{◌≡◌, ℕ, ◌+◌, ◌-◌, ◌*◌, ◌/◌, ◌%◌, ◌<◌, ◌≤◌, List, [], ◌∷◌, ◌++◌, length, slice_set, refl}
use Rattle.std.specs.Int.{w16, to_le_bytes, to_be_bytes}
use Rattle.std.proofs.Common.{append_assoc, sym, ◌∙◌, ap, arith, length-set, length-append}
use Rattle.hexwrite.specs.declared.Kind.{Kind}
use Rattle.hexwrite.specs.declared.Kind.TheVariants.{Data, End, Upper}
use Rattle.hexwrite.specs.declared.Record.{Record}
use Rattle.printing.specs.Room.{placed, advanced, advanced_in, placed_append, placed_length, placed_none, put_in}
use Rattle.printing.specs.Room.{put_then}
use Rattle.intelhex.specs.Records.{total}
use Rattle.intelhex.specs.Text.{digits_of, check_of, record_text}
use Rattle.intelhex.specs.Sizes.{length_digits_of}
use Rattle.intelhex.proofs.Bytes.{total_append}

-- the type of a record of each kind
abbrev pub type_of : Kind → ℕ
type_of Data = 0
type_of End = 1
type_of Upper = 4

-- bytes put in digits at the place of a record that is begun, and added to its sum, which is a byte, as it wraps at 256
pub record Added (before : List ℕ) (r : Record) (bytes : List ℕ) (after : List ℕ) (next : Record) : Type 0 where
  pub room : after ≡ placed before r.at (digits_of bytes)
  pub place : next.at ≡ r.at + 2 * length bytes
  pub summed : r.sum < 256 → next.sum ≡ (r.sum + total bytes) % 256

-- a record's colon and first bytes put at a place
pub record Begun (before : List ℕ) (at : ℕ) (bytes : List ℕ) (after : List ℕ) (next : Record) : Type 0 where
  pub room : after ≡ placed before at (58 ∷ digits_of bytes)
  pub place : next.at ≡ at + 1 + 2 * length bytes
  pub summed : next.sum ≡ total bytes % 256

-- what ends a record whose bytes come to that sum: the check byte, and LF
unfoldable pub ended : ℕ → List ℕ
ended sum = digits_of ((256 - sum) % 256 ∷ []) ++ (10 ∷ [])

-- ---- a word's two bytes

pub high_first : (n : ℕ) → n < 65536 → to_be_bytes w16 n ≡ n / 256 ∷ n % 256 ∷ []
high_first n h = let e : n / 256 % 256 ≡ n / 256 = omega arith in ap (λ (high : ℕ). high ∷ n % 256 ∷ []) e

pub low_first : (n : ℕ) → n < 65536 → to_le_bytes w16 n ≡ n % 256 ∷ n / 256 ∷ []
low_first n h = let e : n / 256 % 256 ≡ n / 256 = omega arith in ap (λ (high : ℕ). n % 256 ∷ high ∷ []) e

-- ---- bytes put after others

pub placed_then : (room : List ℕ) (at : ℕ) {place : ℕ} (x y : List ℕ) → place ≡ at + length x → place ≤ length room
    → placed (placed room at x) place y ≡ placed room at (x ++ y)
placed_then room at {place} x y e h =
    let f : advanced (length room) at (length x) ≡ place = advanced_in (length room) at (length x) (omega arith) ∙ omega arith in
    rw f at (placed_append room at x y)

-- two stores, one after the other
pub placed_two : (room : List ℕ) (at a b : ℕ) → at + 2 ≤ length room → slice_set (slice_set room at a) (at + 1) b ≡ placed room at (a ∷ b ∷ [])
placed_two room at a b h =
    (put_then (put_in room at a (omega arith)) (put_in (slice_set room at a) (at + 1) b (omega (arith, length-set room at a)))).room

-- a store after bytes that were put
pub placed_last : (room : List ℕ) (at : ℕ) {place : ℕ} (x : List ℕ) (b : ℕ) → place ≡ at + length x → place < length room
    → slice_set (placed room at x) place b ≡ placed room at (x ++ (b ∷ []))
placed_last room at {place} x b e h =
    (put_in (placed room at x) place b (omega (arith, placed_length room at x))).room ∙ placed_then room at x (b ∷ []) e (omega arith)

digits_append : (x y : List ℕ) → digits_of (x ++ y) ≡ digits_of x ++ digits_of y
unfolding digits_of
digits_append [] y = refl
digits_append (b ∷ x) y = rw (digits_append x y)

-- no byte yet
pub added_none : (room : List ℕ) (r : Record) → Added room r [] room r
unfolding digits_of total
added_none room r = record { room = sym (placed_none room r.at); place = omega arith; summed = λ h. omega arith }

-- a record's colon alone
pub begun_none : (room : List ℕ) (at : ℕ) → at < length room → Begun room at [] (slice_set room at 58) (record { at = at + 1; sum = 0 })
unfolding digits_of total
begun_none room at h = record { room = (put_in room at 58 h).room; place = omega arith; summed = refl }

-- more bytes
module _ {before middle after x y : List ℕ} {next last : Record} where
  pub added_then : {r : Record} → Added before r x middle next → Added middle next y after last → next.at ≤ length before
      → Added before r (x ++ y) after last
  added_then {r} p q short =
      let l = length_digits_of x in
      record {
        room = q.room ∙ rw (p.room, digits_append x y) (placed_then before r.at (digits_of x) (digits_of y) (omega (arith, p.place)) short);
        place = omega (arith, p.place, q.place, length-append x y);
        summed = λ h. omega (arith, p.summed h, q.summed (omega (arith, p.summed h)), total_append x y);
      }

  pub begun_then : {at : ℕ} → Begun before at x middle next → Added middle next y after last → next.at ≤ length before
      → Begun before at (x ++ y) after last
  begun_then {at} p q short =
      let l = length_digits_of x in
      record {
        room = q.room ∙ rw (p.room, digits_append x y) (placed_then before at (58 ∷ digits_of x) (digits_of y) (omega (arith, p.place)) short);
        place = omega (arith, p.place, q.place, length-append x y);
        summed = omega (arith, p.summed, q.summed (omega (arith, p.summed)), total_append x y);
      }

-- a record is its colon and bytes, and what ends it
pub begun_ended : {before middle after x : List ℕ} {at : ℕ} {r : Record} → Begun before at x middle r → after ≡ placed middle r.at (ended r.sum)
    → r.at ≤ length before → after ≡ placed before at (record_text x)
unfolding record_text ended
begun_ended {before} {middle} {after} {x} {at} {r} p q h =
    let l = length_digits_of x in
    q ∙ rw (p.room, p.summed, digits_append x (check_of x ∷ []), append_assoc (digits_of x) (digits_of (check_of x ∷ [])) (10 ∷ []))
    (placed_then before at (58 ∷ digits_of x) (digits_of (check_of x ∷ []) ++ (10 ∷ [])) (omega (arith, p.place)) h)
