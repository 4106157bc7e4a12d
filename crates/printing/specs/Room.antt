-- Writing bytes into borrowed room from a place on: what ends up at every place, and the next place. What is past the
-- room's end is dropped.
-- Assumes nothing.
use Rattle.std.specs.Prelude.{ℕ, ◌+◌, ◌-◌, ◌<◌, ◌≤◌, min, max, Bool, List, [], ◌∷◌, ◌++◌, ◌≡◌, refl, set, drop}
use Rattle.std.proofs.Math.Bool.{true, false, cond}
use Rattle.std.proofs.Common.{sym, ap, ◌∙◌, length-set, length-append, length-drop, get_or-set_same, get_or-set_other, get_or-append-add, get_or-drop}
use Rattle.std.proofs.Math.Decide.{dec_lt}
use native.Mathlib.Omega.{arith}
use Rattle.std.proofs.Math.ListN.{length, get_or, get_or-eq_default, get_or-append}
use Rattle.semantics.specs.Numbers.{within, within_in, within_out, within_true, within_false}
use Rattle.semantics.specs.Tabulate.{tabulate, length_tabulate, get_d_tabulate, tabulate_is}

-- the byte at place i of a room after bytes were put at a place
abbrev pub placed_byte : List ℕ → ℕ → List ℕ → ℕ → ℕ
placed_byte room at bytes i = cond (within at (length bytes) i) (get_or bytes (i - at) 0) (get_or room i 0)

-- "What is written into lent room comes with its length, and places past it stay.": the room after bytes were put at a
-- place
unfoldable pub placed : List ℕ → ℕ → List ℕ → List ℕ
placed room at bytes = tabulate (length room) (placed_byte room at bytes)

-- the next place after k bytes in a room of n: the lesser of at + k and n, but `at` itself from n on
unfoldable pub advanced : ℕ → ℕ → ℕ → ℕ
advanced n at k = max at (min (at + k) n)

-- what a function that puts bytes at a place of a room leaves there, and the place that it gives back
pub record Put (before : List ℕ) (at : ℕ) (bytes : List ℕ) (after : List ℕ) (next : ℕ) : Type 0 where
  pub room : after ≡ placed before at bytes
  pub place : next ≡ advanced (length before) at (length bytes)

-- ---- the next place

pub advanced_in : (n at k : ℕ) → at ≤ n → advanced n at k ≡ min (at + k) n
unfolding advanced
advanced_in n at k h = omega arith

pub advanced_none : (n at : ℕ) → advanced n at 0 ≡ at
unfolding advanced
advanced_none n at = omega arith

pub advanced_add : (n at j k : ℕ) → advanced n (advanced n at j) k ≡ advanced n at (j + k)
unfolding advanced
advanced_add n at j k = omega arith

-- ---- the bytes of the room

module _ (room : List ℕ) (at : ℕ) (bytes : List ℕ) where
  pub placed_length : length (placed room at bytes) ≡ length room
  unfolding placed
  placed_length = length_tabulate (length room) (placed_byte room at bytes)

  placed_byte_lem : (i : ℕ) → i < length room → get_or (placed room at bytes) i 0 ≡ placed_byte room at bytes i
  unfolding placed
  placed_byte_lem = get_d_tabulate (length room) (placed_byte room at bytes)

  -- a place that a byte was put at
  pub placed_within : (i : ℕ) → i < length room → at ≤ i → i < at + length bytes → get_or (placed room at bytes) i 0 ≡ get_or bytes (i - at) 0
  placed_within i h a b = placed_byte_lem i h ∙ rw (within_in at (length bytes) i a b)

  -- any other place keeps its byte
  pub placed_kept : (i : ℕ) → (at ≤ i → i < at + length bytes → ⊥) → get_or (placed room at bytes) i 0 ≡ get_or room i 0
  placed_kept i out = go (dec_lt i (length room))
    where
      go : Dec (i < length room) → get_or (placed room at bytes) i 0 ≡ get_or room i 0
      go (yes h) = placed_byte_lem i h ∙ rw (within_out at (length bytes) i out)
      go (no h) = get_or-eq_default (placed room at bytes) 0 (omega (arith, placed_length)) ∙ sym (get_or-eq_default room 0 (omega arith))

  pub placed_before : (i : ℕ) → i < at → get_or (placed room at bytes) i 0 ≡ get_or room i 0
  placed_before i h = placed_kept i (λ a b. omega arith)

  -- a list that has each byte where it was put, and the room's elsewhere
  placed_is : (ys : List ℕ) → length ys ≡ length room
      → ((i : ℕ) → i < length room → at ≤ i → i < at + length bytes → get_or ys i 0 ≡ get_or bytes (i - at) 0)
      → ((i : ℕ) → i < length room → (at ≤ i → i < at + length bytes → ⊥) → get_or ys i 0 ≡ get_or room i 0)
      → ys ≡ placed room at bytes
  unfolding placed
  placed_is ys e put kept = tabulate_is (length room) (placed_byte room at bytes) ys e (λ i h. go i h (within at (length bytes) i) refl)
    where
      go : (i : ℕ) → i < length room → (t : Bool) → within at (length bytes) i ≡ t → get_or ys i 0 ≡ cond t (get_or bytes (i - at) 0) (get_or room i 0)
      go i h true q = put i h (within_true at (length bytes) i q).0 (within_true at (length bytes) i q).1
      go i h false q = kept i h (within_false at (length bytes) i q)

pub placed_none : (room : List ℕ) (at : ℕ) → placed room at [] ≡ room
placed_none room at = sym (placed_is room at [] room refl (λ i h a b. absurd (omega arith)) (λ i h out. refl))

-- bytes put after others are all of them put at once
pub placed_append : (room : List ℕ) (at : ℕ) (x y : List ℕ) → placed (placed room at x) (advanced (length room) at (length x)) y ≡ placed room at (x ++ y)
unfolding advanced
placed_append room at x y = placed_is room at (x ++ y) (placed first next y) (placed_length first next y ∙ placed_length room at x) put kept
  where
    first : List ℕ
    first = placed room at x

    next : ℕ
    next = max at (min (at + length x) (length room))

    -- a place of the first bytes, or of the second
    put : (i : ℕ) → i < length room → at ≤ i → i < at + length (x ++ y) → get_or (placed first next y) i 0 ≡ get_or (x ++ y) (i - at) 0
    put i h a b = go (dec_lt (i - at) (length x))
      where
        go : Dec (i - at < length x) → get_or (placed first next y) i 0 ≡ get_or (x ++ y) (i - at) 0
        go (yes k) =
            placed_before first next y i (omega arith) ∙ placed_within room at x i h a (omega arith)
            ∙ sym (get_or-append x y 0 (i - at) k)
        go (no k) =
            placed_within first next y i (omega (arith, placed_length room at x)) (omega arith) (omega (arith, length-append x y))
            ∙ sym (get_or-append-add x y (i - next) 0)
            ∙ ap (λ (j : ℕ). get_or (x ++ y) j 0) (omega arith)

    kept : (i : ℕ) → i < length room → (at ≤ i → i < at + length (x ++ y) → ⊥) → get_or (placed first next y) i 0 ≡ get_or room i 0
    kept i h out = placed_kept first next y i (λ a b. out (omega arith) (omega (arith, length-append x y))) ∙ placed_kept room at x i (λ a b. out a (omega (arith, length-append x y)))

-- ---- what functions leave

pub put_none : (room : List ℕ) (at : ℕ) → Put room at [] room at
put_none room at = record { room = sym (placed_none room at); place = sym (advanced_none (length room) at) }

pub put_then : {before middle after x y : List ℕ} {at next last : ℕ} → Put before at x middle next → Put middle next y after last → Put before at (x ++ y) after last
put_then {before} {middle} {after} {x} {y} {at} {next} {last} p q =
    record {
      room = q.room ∙ rw (p.room, p.place) (placed_append before at x y);
      place = q.place ∙ rw (p.room, p.place, placed_length before at x, length-append x y) (advanced_add (length before) at (length x) (length y));
    }

-- one byte, at a place of the room
pub put_in : (room : List ℕ) (at b : ℕ) → at < length room → Put room at (b ∷ []) (set room at b) (at + 1)
unfolding advanced
put_in room at b h = record { room = placed_is room at (b ∷ []) (set room at b) (length-set room at b) put kept; place = omega arith }
  where
    put : (i : ℕ) → i < length room → at ≤ i → i < at + 1 → get_or (set room at b) i 0 ≡ get_or (b ∷ []) (i - at) 0
    put i k a c = let e : i ≡ at = omega arith in let z : i - at ≡ 0 = omega arith in rw (z, e) (get_or-set_same room at b 0 h)

    kept : (i : ℕ) → i < length room → (at ≤ i → i < at + 1 → ⊥) → get_or (set room at b) i 0 ≡ get_or room i 0
    kept i k out = get_or-set_other room at i b 0 (λ e. out (omega arith) (omega arith))

-- and past its end
pub put_out : (room : List ℕ) (at b : ℕ) → length room ≤ at → Put room at (b ∷ []) room at
unfolding advanced
put_out room at b h = record { room = placed_is room at (b ∷ []) room refl (λ i k a c. absurd (omega arith)) (λ i k out. refl); place = omega arith }

-- ---- bytes that fit

module _ {before bytes after : List ℕ} {next : ℕ} (p : Put before 0 bytes after next) (fits : length bytes ≤ length before) where
  -- they stand whole from the room's start on, and the rest of the room stays
  pub put_whole : after ≡ bytes ++ drop (length bytes) before
  put_whole = p.room ∙ sym (placed_is before 0 bytes (bytes ++ drop (length bytes) before) long put kept)
    where
      long : length (bytes ++ drop (length bytes) before) ≡ length before
      long = omega (arith, length-append bytes (drop (length bytes) before), length-drop (length bytes) before)

      put : (i : ℕ) → i < length before → 0 ≤ i → i < 0 + length bytes → get_or (bytes ++ drop (length bytes) before) i 0 ≡ get_or bytes (i - 0) 0
      put i h a b = get_or-append bytes (drop (length bytes) before) 0 i (omega arith) ∙ ap (λ (j : ℕ). get_or bytes j 0) (omega arith)

      kept : (i : ℕ) → i < length before → (0 ≤ i → i < 0 + length bytes → ⊥) → get_or (bytes ++ drop (length bytes) before) i 0 ≡ get_or before i 0
      kept i h out = go (dec_lt i (length bytes))
        where
          go : Dec (i < length bytes) → get_or (bytes ++ drop (length bytes) before) i 0 ≡ get_or before i 0
          go (yes k) = absurd (out (omega arith) (omega arith))
          go (no k) =
              ap (λ (j : ℕ). get_or (bytes ++ drop (length bytes) before) j 0) (omega arith)
              ∙ get_or-append-add bytes (drop (length bytes) before) (i - length bytes) 0
              ∙ get_or-drop (length bytes) before (i - length bytes) 0
              ∙ ap (λ (j : ℕ). get_or before j 0) (omega arith)

  -- and the next place is their number
  pub put_counted : next ≡ length bytes
  unfolding advanced
  put_counted = p.place ∙ omega arith
