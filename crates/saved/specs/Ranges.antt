-- Words are a saved state exactly where those of what is under way are what it is saved as, and each other number is in
-- its range (is_saved_in_range). Assumes nothing.
use Prim.Native.Nat.{ℕ, zero, suc, ◌<◌, ◌≤◌, ◌+◌, ◌/◌, ◌%◌}
use Rattle.std.specs.Prelude.{Bool, true, false, not, cond, ◌&&◌, List, ◌≡◌, refl, eqb, ltb, length, get_or, is_ok, Result, Some, None, Ok, Err}
use Rattle.std.proofs.Math.Bool.{and_assoc, and_comm, and-true}
use Rattle.std.proofs.Common.{sym, ap, ◌∙◌, subst, mod-eq_of_lt, eq-eqb, ne_eqb, eqb-true, ltb-true, ltb-false, lt-ltb}
use Rattle.std.proofs.Math.Nat.{mod-lt}
use native.Mathlib.Omega.{arith}
use Rattle.std.proofs.lemmas.Bool.{eqb-false}
use Rattle.geometry.specs.declared.Part.TheVariants.{FullBottom, FullTop, BenchBottom, BenchTop}
use Rattle.geometry.specs.Blocks.{part_numbered}
use Rattle.semantics.specs.declared.Mode.TheVariants.{Array, Status, Signature, Query}
use Rattle.semantics.specs.declared.Activity.{Activity}
use Rattle.semantics.specs.declared.State.{State}
use Rattle.semantics.specs.Tabulate.{tabulate}
use Rattle.semantics.specs.Reading.{bit_if}
use Rattle.semantics.specs.State.{activity}
use Rattle.semantics.specs.Tests.{and_true_l, and_true_r}
use Rattle.saved.specs.declared.Four.{Four}
use Rattle.saved.specs.Saved.{part_number, mode_number, bank_number, bank_numbered, flag_numbered, half, setup_numbers}
use Rattle.saved.specs.Saved.{running_numbers, program_numbers, erase_numbers, holds, flag_numbers, joined, bytes}
use Rattle.saved.specs.Saved.{from_byte, flags_in, control_word, packed, lane, saved_of, loaded_of, same, is_saved}
use Rattle.saved.specs.Saved.{activity_words, activity_of, bytes_below, activity_same, control_in_range, rest_in_range}
use Rattle.saved.specs.Saved.{in_range, four_at, setup_of, running_of, program_of, erase_of, resting, decoded_of}
use Rattle.saved.specs.Saved.{no_state, state_of, found_of}
use Rattle.saved.specs.Laws.{first_all, joined_eq, flags_small, packed_lanes, saved_length}

-- ---- one number: what is saved of what it says is the number itself, where it is in its range

test_is : (n k m : ℕ) → (n < m → n ≡ k) → (m ≤ n → n ≡ k → ⊥) → eqb n k ≡ ltb n m
test_is n k m f g = go (ltb n m) refl
  where
    go : (t : Bool) → ltb n m ≡ t → eqb n k ≡ t
    go true e = eq-eqb n k (f (ltb-true n m e))
    go false e = ne_eqb n k (g (ltb-false n m e))

-- an enum of four, whose last stands for every other number too
four_range : {A : Type 0} (number : A → ℕ) (a b c d : A) → number a ≡ 0 → number b ≡ 1 → number c ≡ 2 → number d ≡ 3 → (n : ℕ)
    → eqb n (number (cond (eqb n 0) a (cond (eqb n 1) b (cond (eqb n 2) c d)))) ≡ ltb n 4
four_range number a b c d p q r s n = go (eqb n 0) (eqb n 1) (eqb n 2) refl refl refl
  where
    go : (x y z : Bool) → eqb n 0 ≡ x → eqb n 1 ≡ y → eqb n 2 ≡ z → eqb n (number (cond x a (cond y b (cond z c d)))) ≡ ltb n 4
    go true y z e f g = rw (p, eqb-true n 0 e)
    go false true z e f g = rw (q, eqb-true n 1 f)
    go false false true e f g = rw (r, eqb-true n 2 g)
    go false false false e f g = rw s (test_is n 3 4 (λ h. omega (arith, eqb-false n 0 e, eqb-false n 1 f, eqb-false n 2 g)) (λ h i. omega arith))

part_range : (n : ℕ) → eqb n (part_number (part_numbered n)) ≡ ltb n 4
part_range = four_range part_number FullBottom FullTop BenchBottom BenchTop refl refl refl refl

mod_range : (m n : ℕ) → 0 < m → eqb n (n % m) ≡ ltb n m
mod_range m n h = test_is n (n % m) m (λ l. sym (mod-eq_of_lt l)) (λ l e. omega (arith, mod-lt n h))

zero_range : (n : ℕ) → eqb n 0 ≡ ltb n 1
zero_range n = test_is n 0 1 (λ h. omega arith) (λ h i. omega arith)

both : {a b t u : Bool} → a ≡ b → t ≡ u → (a && t) ≡ (b && u)
both p q = λ j. p j && q j

any : (n : ℕ) {t u : Bool} → t ≡ u → (eqb n n && t) ≡ u
any n q = rw (eq-eqb n n refl) q

-- ---- bytes

-- the number of the mode that a number says is the number reduced, and so that of a flag
bank_reduced : (n : ℕ) → bank_number (bank_numbered n) ≡ n % 4
bank_reduced n = sym (eqb-true (n % 4) _ (four_range mode_number Array Status Signature Query refl refl refl refl (n % 4) ∙ lt-ltb (n % 4) 4 (omega arith)))

flag_reduced : (n : ℕ) → bit_if (flag_numbered n) 1 ≡ n % 2
flag_reduced n = go (eqb (n % 2) 0) refl
  where
    go : (x : Bool) → eqb (n % 2) 0 ≡ x → bit_if (not x) 1 ≡ n % 2
    go true e = sym (eqb-true (n % 2) 0 e)
    go false e = omega (arith, eqb-false (n % 2) 0 e)

-- bytes of which each is so reduced
module _ (m : ℕ) (least : 0 < m) (most : m ≤ 256) (g : ℕ → ℕ) (reduced : (n : ℕ) → g n ≡ n % m) (byte : (n : ℕ) → n % m ≡ n % 256 % m) where
  bytes_range : (n w : ℕ) → eqb w (bytes (tabulate (suc n) (λ k. g (from_byte k w)))) ≡ bytes_below m n w
  unfolding bytes_below tabulate
  bytes_range zero w = let e : joined 256 (g w) 0 ≡ g w = omega arith in rw (e, reduced w) (mod_range m w least)
  bytes_range (suc n) w =
      joined_eq 256 w (g w) (bytes (tabulate (suc n) (λ k. g (from_byte k (w / 256))))) (omega (arith, reduced w, mod-lt w least))
      ∙ both (ap (eqb (w % 256)) (reduced w ∙ byte w) ∙ mod_range m (w % 256) least) (bytes_range n (w / 256))

modes_range : (w : ℕ) → eqb w (bytes (tabulate 8 (λ k. bank_number (bank_numbered (from_byte k w))))) ≡ bytes_below 4 7 w
modes_range = bytes_range 4 (omega arith) (omega arith) (λ n. bank_number (bank_numbered n)) bank_reduced (λ n. omega arith) 7

flags_range : (w : ℕ) → eqb w (bytes (flag_numbers (flags_in w))) ≡ bytes_below 2 3 w
unfolding tabulate
flags_range = bytes_range 2 (omega arith) (omega arith) (λ n. bit_if (flag_numbered n) 1) flag_reduced (λ n. omega arith) 3

-- the flags, any configuration register, and the supply
control_range : (w : ℕ) → eqb w (control_word (flags_in (w % half)) (w / half % 65536) (flag_numbered (w / half / 65536))) ≡ control_in_range w
control_range w =
    let h : ℕ = w / half in
    let b : ℕ = bit_if (flag_numbered (h / 65536)) 1 in
    joined_eq half w (bytes (flag_numbers (flags_in (w % half)))) (joined 65536 (h % 65536) b) (flags_small (flags_in (w % half)))
    ∙ both (flags_range (w % half))
    (joined_eq 65536 h (h % 65536) b (omega arith) ∙ any (h % 65536) (rw (flag_reduced (h / 65536)) (mod_range 2 (h / 65536) (omega arith))))

-- ---- all words

-- word 3 + k is that of what is under way
abbrev at : List ℕ → ℕ → Bool
at ws k = eqb (get_or ws (3 + k) 0) (get_or (activity_words (activity_of ws)) k 0)

-- the eight words of what is under way, in front of further tests
under_way_lem : (ws : List ℕ) {t u : Bool} → t ≡ u
    → (at ws 0 && (at ws 1 && (at ws 2 && (at ws 3 && (at ws 4 && (at ws 5 && (at ws 6 && (at ws 7 && t))))))))
    ≡ (u && activity_same ws (activity_of ws))
unfolding activity_same
under_way_lem ws {u = u} q =
    let e : (u && activity_same ws (activity_of ws)) ≡ (activity_same ws (activity_of ws) && u) = and_comm u _ in
    rw e (simp (and_assoc, q))

-- a word of the buffer is that of the four that it holds
full : (w : ℕ) {t : Bool} → t ≡ true → (eqb w (packed (lane w 0) (lane w 1) (lane w 2) (lane w 3)) && t) ≡ true
full w q = rw (eq-eqb w (packed (lane w 0) (lane w 1) (lane w 2) (lane w 3)) (sym (packed_lanes w))) q

last : {a b t : Bool} → a ≡ b → t ≡ true → (a && t) ≡ b
last {b = b} p q = both p q ∙ and-true b

in_range_lem : (f : ℕ → ℕ) → is_saved (tabulate 25 f) ≡ in_range (tabulate 25 f)
unfolding is_saved saved_of loaded_of same activity_same rest_in_range tabulate
in_range_lem f =
    both (part_range (f 0)) (both (modes_range (f 1)) (both (modes_range (f 2))
    (under_way_lem (tabulate 25 f)
    (last (control_range (f 11))
    (any (f 12) (any (f 13) (any (f 14) (any (f 15) (any (f 16)
    (full (f 17) (full (f 18) (full (f 19) (full (f 20) (full (f 21) (full (f 22) (full (f 23) (full (f 24) refl)))))))))))))))))
    ∙ grouped (ltb (f 0) 4) (bytes_below 4 7 (f 1)) (bytes_below 4 7 (f 2)) (control_in_range (f 11)) (activity_same (tabulate 25 f) (activity_of (tabulate 25 f)))
  where
    grouped : (a b c d e : Bool) → (a && (b && (c && (d && e)))) ≡ ((a && (b && (c && d))) && e)
    grouped a b c d e = simp and_assoc

-- a list of another length is neither
short_is : (ws : List ℕ) → eqb (length ws) 25 ≡ false → false ≡ in_range ws
unfolding rest_in_range
short_is ws e = rw e

pub is_saved_in_range : (ws : List ℕ) → is_saved ws ≡ in_range ws
is_saved_in_range ws = go (eqb (length ws) 25) refl
  where
    other : eqb (length ws) 25 ≡ false → (t : Bool) → is_saved ws ≡ t → t ≡ false
    other e true h = absurd (eqb-false (length ws) 25 e (saved_length ws h))
    other e false h = refl

    go : (t : Bool) → eqb (length ws) 25 ≡ t → is_saved ws ≡ in_range ws
    go true e = subst (λ (l : List ℕ). is_saved l ≡ in_range l) (first_all 25 ws (eqb-true (length ws) 25 e)) (in_range_lem (λ k. get_or ws k 0))
    go false e = other e (is_saved ws) refl ∙ short_is ws e

-- by what the two tests come to, of which the first decides where it fails
pub saved_by : (ws : List ℕ) (x y : Bool) → rest_in_range ws ≡ x → activity_same ws (activity_of ws) ≡ y → is_saved ws ≡ (x && y)
saved_by ws x y p q = is_saved_in_range ws ∙ both p q

-- what is under way by what its four tests come to, of which the first that fails decides
pub same_by : (ws : List ℕ) (a : Activity) (p q r s : Bool) → holds ws 3 (setup_numbers a.setup) ≡ p → holds ws 5 (running_numbers a.running) ≡ q
    → holds ws 7 (program_numbers a.program) ≡ r → holds ws 9 (erase_numbers a.erase) ≡ s → activity_same ws a ≡ (p && (q && (r && s)))
unfolding activity_same
same_by ws a p q r s e f g h = both e (both f (both g h))

-- ---- at rest

-- two words that hold 0
zero_at : (ws : List ℕ) (i : ℕ) → holds ws i (0, 0, 0, 0) ≡ true → four_at ws i ≡ (0, 0, 0, 0)
zero_at ws i h =
    let t = eqb (get_or ws i 0) 0 in
    rw (eqb-true (get_or ws i 0) 0 (and_true_l t _ h), eqb-true (get_or ws (i + 1) 0) 0 (and_true_r t _ h))

-- eight words that are 0 say that nothing is under way
pub rest_decoded : (ws : List ℕ) → activity_same ws resting ≡ true → Some resting ≡ decoded_of ws
unfolding activity_same
rest_decoded ws s =
    let none : Four = (0, 0, 0, 0) in
    let r = and_true_r (holds ws 3 none) _ s in
    let p = and_true_r (holds ws 5 none) _ r in
    let e = and_true_r (holds ws 7 none) _ p in
    let f = zero_at ws 3 (and_true_l (holds ws 3 none) _ s) in
    let g = zero_at ws 5 (and_true_l (holds ws 5 none) _ r) in
    let k = zero_at ws 7 (and_true_l (holds ws 7 none) _ p) in
    let q : activity_of ws ≡ resting = λ j. activity (setup_of (f j)) (running_of (g j)) (program_of (k j)) (erase_of (zero_at ws 9 e j)) in
    sym (ap (λ (t : Bool). cond t (Some resting) None) s) ∙ ap (λ (a : Activity). cond (activity_same ws a) (Some a) None) (sym q)

-- ---- what is found

-- what is under way is decoded where its words are those that it is saved as
pub decoded_some : (ws : List ℕ) (a : Activity) → Some a ≡ decoded_of ws → (activity_same ws (activity_of ws) ≡ true) × (a ≡ activity_of ws)
decoded_some ws a h = go (activity_same ws (activity_of ws)) refl h
  where
    go : (t : Bool) → activity_same ws (activity_of ws) ≡ t → Some a ≡ cond t (Some (activity_of ws)) None → (activity_same ws (activity_of ws) ≡ true) × (a ≡ activity_of ws)
    go true e p = (e, cc)
    go false e p = cc

pub decoded_none : (ws : List ℕ) → None ≡ decoded_of ws → activity_same ws (activity_of ws) ≡ false
decoded_none ws h = go (activity_same ws (activity_of ws)) refl h
  where
    go : (t : Bool) → activity_same ws (activity_of ws) ≡ t → None ≡ cond t (Some (activity_of ws)) None → activity_same ws (activity_of ws) ≡ false
    go true e p = cc
    go false e p = e

pub saved_found : (ws : List ℕ) → is_saved ws ≡ true → Ok (loaded_of ws) ≡ found_of ws
unfolding state_of
saved_found ws h = rw h

pub unsaved_found : (ws : List ℕ) → is_saved ws ≡ false → Err (no_state ws) ≡ found_of ws
unfolding state_of
unsaved_found ws h = rw h

-- for who calls: it is `Ok` where the words are a saved state, and either way with the state of the words
pub found_is_ok : (ws : List ℕ) → is_ok (found_of ws) ≡ is_saved ws
found_is_ok ws = go (is_saved ws)
  where
    go : (t : Bool) → is_ok (cond t (Ok (state_of ws)) (Err (state_of ws))) ≡ t
    go true = refl
    go false = refl

-- the state of either
abbrev pub either : Result State State → State
either (Ok s) = s
either (Err s) = s

pub either_found : (ws : List ℕ) → either (found_of ws) ≡ state_of ws
either_found ws = go (is_saved ws)
  where
    go : (t : Bool) → either (cond t (Ok (state_of ws)) (Err (state_of ws))) ≡ state_of ws
    go true = refl
    go false = refl
