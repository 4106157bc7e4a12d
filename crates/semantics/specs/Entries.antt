-- A journal of operations on numbered words, latest entry first, and the words that it makes of the words at the start. Nothing here knows
-- of commands, blocks or chips: an operation is a run of words, and a rule for each of them. First the definitions, then the laws.
-- Assumes nothing.
use Rattle.std.specs.Prelude.{◌≡◌, refl, List, [], ◌∷◌, map, Bool, true, false, cond, ◌&&◌, ◌||◌, ℕ, ◌+◌, ◌-◌, ◌≤◌, ◌<◌, min, leb, eqb}
use Rattle.std.proofs.Common.{ap, ◌∙◌, arith, leb-true, leb-false, eq-eqb, ne_eqb}
use Rattle.semantics.specs.Branches.{of_cond}
use Rattle.semantics.specs.Numbers.{within, within_in, within_out, within_true, within_false}

-- "whether it is running, suspended, finished or broken off"
pub data Phase : Type 0 where
  running suspended finished was_broken_off : Phase

abbrev pub is_running : Phase → Bool
is_running running = true
is_running suspended = false
is_running finished = false
is_running was_broken_off = false

abbrev pub is_suspended : Phase → Bool
is_suspended running = false
is_suspended suspended = true
is_suspended finished = false
is_suspended was_broken_off = false

-- "All but the finished are unfinished."
abbrev pub is_finished : Phase → Bool
is_finished running = false
is_finished suspended = false
is_finished finished = true
is_finished was_broken_off = false

-- an operation that was accepted, the units that it received, and its phase
pub data Entry (K : Type 0) : Type 0 where
  entry : K → ℕ → Phase → Entry K

-- an operation under way: running or suspended
pub data Live (K : Type 0) : Type 0 where
  live : K → ℕ → Live K

module _ {K : Type 0} where
  -- what suspension, and resumption of those that are p, make of an entry
  abbrev pub paused : Entry K → Entry K
  paused (entry k u t) = entry k u (cond (is_running t) suspended t)

  abbrev pub resumed : (K → Bool) → Entry K → Entry K
  resumed p (entry k u t) = entry k u (cond (is_suspended t && p k) running t)

  -- what runs is broken off where r is true, and what is suspended where it is p
  abbrev pub broken_off : Bool → (K → Bool) → Entry K → Entry K
  broken_off r p (entry k u t) = entry k u (cond (cond (is_running t) r (is_suspended t && p k)) was_broken_off t)

  abbrev pub None : (K → Bool) → List (Live K) → Type 0
  None p [] = Unit {0}
  None p (live k u ∷ s) = (p k ≡ false) × None p s

  -- what the journal alone says of what is under way
  abbrev pub any_runs : List (Entry K) → Bool
  any_runs [] = false
  any_runs (entry k u t ∷ j) = is_running t || any_runs j

  abbrev pub any_suspended : (K → Bool) → List (Entry K) → Bool
  any_suspended p [] = false
  any_suspended p (entry k u t ∷ j) = (is_suspended t && p k) || any_suspended p j

  abbrev pub any_live : (K → Bool) → List (Live K) → Bool
  any_live p [] = false
  any_live p (live k u ∷ s) = p k || any_live p s

  -- the suspended ones among the live
  abbrev pub resting : Bool → List (Live K) → List (Live K)
  resting true [] = []
  resting true (l ∷ s) = s
  resting false s = s

-- The kinds of operation K. An operation k covers the `len k` words from `base k`. Its unit i makes `put k i w` of the word w at `base k + i`.
pub record Kinds : Type 1 where
  pub K : Type 0
  pub base : K → ℕ
  pub len : K → ℕ
  pub put : K → ℕ → ℕ → ℕ

module _ (κ : Kinds) where
  open κ use {K, base, len, put}

  -- what u units of k make of the word w at L
  abbrev pub effect : K → ℕ → ℕ → ℕ → ℕ
  effect k u L w = cond (within (base k) u L) (put k (L - base k) w) w

  -- what the units of an entry make of the word w at L
  abbrev pub applied : Entry K → ℕ → ℕ → ℕ
  applied (entry k u t) L w = effect k u L w

  -- the word at L after the journal, which has the latest entry first; w is the word at the start
  abbrev pub after : List (Entry K) → ℕ → ℕ → ℕ
  after [] L w = w
  after (e ∷ j) L w = applied e L (after j L w)

  -- the words after the units u to u + n - 1 of k
  abbrev pub advanced : K → ℕ → ℕ → (ℕ → ℕ) → ℕ → ℕ
  advanced k u n m L = cond (within (base k + u) n L) (put k (L - base k) (m L)) (m L)

  abbrev pub In : K → ℕ → Type 0
  In k L = (base k ≤ L) × (L < base k + len k)

  abbrev pub Apart : K → List (Live K) → Type 0
  Apart k [] = Unit {0}
  Apart k (live k' u ∷ s) = ((L : ℕ) → In k L → In k' L → ⊥) × Apart k s

  -- what work makes of an entry
  abbrev pub given : K → ℕ → ℕ → ℕ
  given k u n = u + min n (len k - u)

  abbrev pub worked : ℕ → Entry K → Entry K
  worked n (entry k u t) = entry k (cond (is_running t) (given k u n) u) (cond (is_running t && eqb (given k u n) (len k)) finished t)

  -- ---- the laws

  abbrev pub phase_of : Entry K → Phase
  phase_of (entry k u t) = t

  -- a change of the phase alone, which finishes none and leaves the finished
  abbrev pub Rephases : (Entry K → Entry K) → Type 0
  Rephases f = (k : K) (u : ℕ) (t : Phase) → (f (entry k u t) ≡ entry k u (phase_of (f (entry k u t)))) × (is_finished (phase_of (f (entry k u t))) ≡ is_finished t)

  by_phase : (f : Phase → Phase) → is_finished (f running) ≡ false → is_finished (f suspended) ≡ false → is_finished (f finished) ≡ true → is_finished (f was_broken_off) ≡ false
      → (t : Phase) → is_finished (f t) ≡ is_finished t
  by_phase f w x y z running = w
  by_phase f w x y z suspended = x
  by_phase f w x y z finished = y
  by_phase f w x y z was_broken_off = z

  pub paused_rephases : Rephases paused
  paused_rephases k u t = (refl, by_phase (λ s. phase_of (paused (entry k u s))) refl refl refl refl t)

  pub resumed_rephases : (p : K → Bool) → Rephases (resumed p)
  resumed_rephases p k u t = (refl, by_phase (λ s. phase_of (resumed p (entry k u s))) refl (of_cond (λ (x : Phase). is_finished x ≡ false) (p k) running suspended refl refl) refl refl t)

  pub broken_rephases : (r : Bool) (p : K → Bool) → Rephases (broken_off r p)
  broken_rephases r p k u t = (
    refl,
    by_phase (λ s. phase_of (broken_off r p (entry k u s))) (of_cond (λ (x : Phase). is_finished x ≡ false) r was_broken_off running refl refl)
        (of_cond (λ (x : Phase). is_finished x ≡ false) (p k) was_broken_off suspended refl refl) refl refl t,
  )

  -- no operation is of no kind
  pub none_live : (s : List (Live K)) → None (λ k. false) s
  none_live [] = tt
  none_live (live k u ∷ s) = (refl, none_live s)

  -- what its being finished, or not, says of an operation's units
  abbrev pub Whole : K → Bool → ℕ → Type 0
  Whole k true u = u ≡ len k
  Whole k false u = u < len k

  pub whole_le : (k : K) (t : Bool) (u : ℕ) → Whole k t u → u ≤ len k
  whole_le k true u e = omega arith
  whole_le k false u e = omega arith

  -- r: the newest live operation runs. s: the live operations, newest first. j: the journal.
  pub data Match : Bool → List (Live K) → List (Entry K) → Type 0 where
    start : Match false [] []
    done : {r : Bool} {s : List (Live K)} {j : List (Entry K)} (k : K) (u : ℕ) → u ≡ len k → Apart k s → Match r s j
        → Match r s (entry k u finished ∷ j)
    lost : {r : Bool} {s : List (Live K)} {j : List (Entry K)} (k : K) (u : ℕ) → u < len k → Apart k s → Match r s j
        → Match r s (entry k u was_broken_off ∷ j)
    runs : {s : List (Live K)} {j : List (Entry K)} (k : K) (u : ℕ) → u < len k → Apart k s → Match false s j
        → Match true (live k u ∷ s) (entry k u running ∷ j)
    waits : {s : List (Live K)} {j : List (Entry K)} (k : K) (u : ℕ) → u < len k → Apart k s → Match false s j
        → Match false (live k u ∷ s) (entry k u suspended ∷ j)

  -- what holds of the empty journal, and of a journal with one more entry that is whole or not, holds of every journal
  -- that matches
  pub match_each : (P : List (Entry K) → Type 0) → P [] → ((k : K) (u : ℕ) (t : Phase) (j : List (Entry K)) → Whole k (is_finished t) u → P j → P (entry k u t ∷ j))
      → {r : Bool} {s : List (Live K)} {j : List (Entry K)} → Match r s j → P j
  match_each P x f start = x
  match_each P x f (done k u e a m) = f k u finished _ e (match_each P x f m)
  match_each P x f (lost k u e a m) = f k u was_broken_off _ e (match_each P x f m)
  match_each P x f (runs k u e a m) = f k u running _ e (match_each P x f m)
  match_each P x f (waits k u e a m) = f k u suspended _ e (match_each P x f m)

  -- one more run of units, seen from a single entry
  grow : (k : K) (u n L w : ℕ) → effect k (u + n) L w ≡ cond (within (base k + u) n L) (put k (L - base k) (effect k u L w)) (effect k u L w)
  grow k u n L w = go (within (base k + u) n L) refl (within (base k) u L) refl
    where
      go : (s : Bool) → within (base k + u) n L ≡ s → (t : Bool) → within (base k) u L ≡ t
          → effect k (u + n) L w ≡ cond s (put k (L - base k) (cond t (put k (L - base k) w) w)) (cond t (put k (L - base k) w) w)
      go true p true q = absurd (omega (arith, within_true (base k + u) n L p, within_true (base k) u L q))
      go true p false q = let h = within_true (base k + u) n L p in rw (within_in (base k) (u + n) L (omega arith) (omega arith))
      go false p true q = let h = within_true (base k) u L q in rw (within_in (base k) (u + n) L (omega arith) (omega arith))
      go false p false q = rw (within_out (base k) (u + n) L (λ a b. out (leb (base k + u) L) refl a b))
        where
          out : (c : Bool) → leb (base k + u) L ≡ c → base k ≤ L → L < base k + (u + n) → ⊥
          out true e a b = within_false (base k + u) n L p (leb-true (base k + u) L e) (omega arith)
          out false e a b = within_false (base k) u L q a (omega (arith, leb-false (base k + u) L e))

  -- an entry that does not cover L leaves the word there
  apart_effect : (k : K) (u L w : ℕ) → u ≤ len k → (In k L → ⊥) → effect k u L w ≡ w
  apart_effect k u L w h n = rw (within_out (base k) u L (λ a b. n (a, omega arith)))

  -- what leaves each entry that is over, and each suspended one that is not p, leaves a journal in which nothing runs
  -- and none that is p is suspended
  idle : (f : Entry K → Entry K) (p : K → Bool) → ((k : K) (u : ℕ) → f (entry k u finished) ≡ entry k u finished) → ((k : K) (u : ℕ) → f (entry k u was_broken_off) ≡ entry k u was_broken_off)
      → ((k : K) (u : ℕ) → p k ≡ false → f (entry k u suspended) ≡ entry k u suspended) → {s : List (Live K)} {j : List (Entry K)} → None p s → Match false s j → map f j ≡ j
  idle f p x y z h start = refl
  idle f p x y z h (done k u e a m) = rw (x k u, idle f p x y z h m)
  idle f p x y z h (lost k u e a m) = rw (y k u, idle f p x y z h m)
  idle f p x y z h (waits k u e a m) = rw (z k u h.0, idle f p x y z h.1 m)

  pub idle_worked : (n : ℕ) {s : List (Live K)} {j : List (Entry K)} → Match false s j → map (worked n) j ≡ j
  idle_worked n {s = s} m = idle (worked n) (λ k. false) (λ k u. refl) (λ k u. refl) (λ k u h. refl) (none_live s) m

  pub idle_paused : {s : List (Live K)} {j : List (Entry K)} → Match false s j → map paused j ≡ j
  idle_paused {s = s} m = idle paused (λ k. false) (λ k u. refl) (λ k u. refl) (λ k u h. refl) (none_live s) m

  idle_resumed : (p : K → Bool) {s : List (Live K)} {j : List (Entry K)} → None p s → Match false s j → map (resumed p) j ≡ j
  idle_resumed p n m = idle (resumed p) p (λ k u. refl) (λ k u. refl) (λ k u h. rw h) n m

  pub idle_broken : (b : Bool) (p : K → Bool) {s : List (Live K)} {j : List (Entry K)} → None p s → Match false s j → map (broken_off b p) j ≡ j
  idle_broken b p n m = idle (broken_off b p) p (λ k u. refl) (λ k u. refl) (λ k u h. rw h) n m

  -- work that leaves the running operation unfinished
  pub match_more : (n : ℕ) {k : K} {u : ℕ} {s : List (Live K)} {j : List (Entry K)} → given k u n < len k → Match true (live k u ∷ s) j
      → Match true (live k (given k u n) ∷ s) (map (worked n) j)
  match_more n h (done k u e a m) = done k u e a (match_more n h m)
  match_more n h (lost k u e a m) = lost k u e a (match_more n h m)
  match_more n h (runs k u e a m) =
      rw (ne_eqb (given k u n) (len k) (λ x. omega arith), idle_worked n m) (runs k (given k u n) h a m)

  -- work that finishes it
  pub match_done : (n : ℕ) {k : K} {u : ℕ} {s : List (Live K)} {j : List (Entry K)} → given k u n ≡ len k → Match true (live k u ∷ s) j
      → Match false s (map (worked n) j)
  match_done n h (done k u e a m) = done k u e a.1 (match_done n h m)
  match_done n h (lost k u e a m) = lost k u e a.1 (match_done n h m)
  match_done n h (runs k u e a m) =
      rw (eq-eqb (given k u n) (len k) h, idle_worked n m) (done k (given k u n) h a m)

  pub match_paused : {s : List (Live K)} {j : List (Entry K)} → Match true s j → Match false s (map paused j)
  match_paused (done k u e a m) = done k u e a (match_paused m)
  match_paused (lost k u e a m) = lost k u e a (match_paused m)
  match_paused (runs k u e a m) = rw (idle_paused m) (waits k u e a m)

  pub match_resumed : (p : K → Bool) {k : K} {u : ℕ} {s : List (Live K)} {j : List (Entry K)} → p k ≡ true → None p s → Match false (live k u ∷ s) j
      → Match true (live k u ∷ s) (map (resumed p) j)
  match_resumed p h n (done k u e a m) = done k u e a (match_resumed p h n m)
  match_resumed p h n (lost k u e a m) = lost k u e a (match_resumed p h n m)
  match_resumed p h n (waits k u e a m) = rw (h, idle_resumed p n m) (runs k u e a m)

  -- all that is under way is broken off
  pub match_all_broken : {r : Bool} {s : List (Live K)} {j : List (Entry K)} → Match r s j → Match false [] (map (broken_off true (λ k. true)) j)
  match_all_broken start = start
  match_all_broken (done k u e a m) = done k u e tt (match_all_broken m)
  match_all_broken (lost k u e a m) = lost k u e tt (match_all_broken m)
  match_all_broken (runs k u e a m) = lost k u e tt (match_all_broken m)
  match_all_broken (waits k u e a m) = lost k u e tt (match_all_broken m)

  -- the newest is broken off, as it runs or as it is p, and the others stay
  pub match_broken : (b : Bool) (p : K → Bool) {r : Bool} {k : K} {u : ℕ} {s : List (Live K)} {j : List (Entry K)} → cond r b (p k) ≡ true → None p s → Match r (live k u ∷ s) j
      → Match false s (map (broken_off b p) j)
  match_broken b p h n (done k u e a m) = done k u e a.1 (match_broken b p h n m)
  match_broken b p h n (lost k u e a m) = lost k u e a.1 (match_broken b p h n m)
  match_broken b p h n (runs k u e a m) = rw (idle_broken b p n m, h) (lost k u e a m)
  match_broken b p h n (waits k u e a m) = rw (idle_broken b p n m, h) (lost k u e a m)

  -- a change of phase alone leaves the words
  pub after_rephased : (f : Entry K → Entry K) → Rephases f → (j : List (Entry K)) (L w : ℕ) → after (map f j) L w ≡ after j L w
  after_rephased f h [] L w = refl
  after_rephased f h (entry k u t ∷ j) L w = ap (λ (e : Entry K). applied e L (after (map f j) L w)) (h k u t).0 ∙ ap (λ (x : ℕ). effect k u L x) (after_rephased f h j L w)

  -- units on words that an entry does not cover make the same before the entry as after it
  advanced_past : (k k' : K) (u u' n L w : ℕ) → u + n ≤ len k → u' ≤ len k' → (In k' L → In k L → ⊥)
      → effect k' u' L (cond (within (base k + u) n L) (put k (L - base k) w) w)
      ≡ cond (within (base k + u) n L) (put k (L - base k) (effect k' u' L w)) (effect k' u' L w)
  advanced_past k k' u u' n L w h h' a = go (within (base k + u) n L) refl
    where
      go : (t : Bool) → within (base k + u) n L ≡ t
          → effect k' u' L (cond t (put k (L - base k) w) w) ≡ cond t (put k (L - base k) (effect k' u' L w)) (effect k' u' L w)
      go true e =
          let i = within_true (base k + u) n L e in
          let o : In k' L → ⊥ = λ x. a x (omega arith, omega arith) in
          rw (apart_effect k' u' L w h' o, apart_effect k' u' L (put k (L - base k) w) h' o)
      go false e = refl

  -- a live operation lacks at least one unit, and work gives it no more than it lacks
  pub live_less : {r : Bool} {k : K} {u : ℕ} {s : List (Live K)} {j : List (Entry K)} → Match r (live k u ∷ s) j → u < len k
  live_less (done k u e a m) = live_less m
  live_less (lost k u e a m) = live_less m
  live_less (runs k u e a m) = e
  live_less (waits k u e a m) = e

  pub given_le : (k : K) (u n : ℕ) → u < len k → given k u n ≤ len k
  given_le k u n h = omega arith

  -- the word at L after work
  pub after_worked : (n : ℕ) {k : K} {u : ℕ} {s : List (Live K)} {j : List (Entry K)} → Match true (live k u ∷ s) j → (L w : ℕ)
      → after (map (worked n) j) L w ≡ advanced k u (min n (len k - u)) (λ l. after j l w) L
  after_worked n (done k u e a m) L w = ap (λ (x : ℕ). effect k u L x) (after_worked n m L w) ∙ advanced_past _ k _ u _ L _ (given_le _ _ n (live_less m)) (omega arith) (a.0 L)
  after_worked n (lost k u e a m) L w = ap (λ (x : ℕ). effect k u L x) (after_worked n m L w) ∙ advanced_past _ k _ u _ L _ (given_le _ _ n (live_less m)) (omega arith) (a.0 L)
  after_worked n (runs {j = j} k u e a m) L w = rw (idle_worked n m) (grow k u (min n (len k - u)) L (after j L w))

  pub match_runs : {r : Bool} {s : List (Live K)} {j : List (Entry K)} → Match r s j → any_runs j ≡ r
  match_runs start = refl
  match_runs (done k u e a m) = match_runs m
  match_runs (lost k u e a m) = match_runs m
  match_runs (runs k u e a m) = refl
  match_runs (waits k u e a m) = match_runs m

  pub match_held : (p : K → Bool) {r : Bool} {s : List (Live K)} {j : List (Entry K)} → Match r s j → any_suspended p j ≡ any_live p (resting r s)
  match_held p start = refl
  match_held p (done k u e a m) = match_held p m
  match_held p (lost k u e a m) = match_held p m
  match_held p (runs k u e a m) = match_held p m
  match_held p (waits k u e a m) = ap (λ (b : Bool). p k || b) (match_held p m)

  -- an entry that has received no unit changes nothing
  pub effect_zero : (k : K) (L w : ℕ) → effect k 0 L w ≡ w
  effect_zero k L w = rw (within_out (base k) 0 L (λ a b. omega arith))

  -- what holds of all live operations
  abbrev pub Short : List (Live K) → Type 0
  Short [] = Unit {0}
  Short (live k u ∷ s) = (u < len k) × Short s

  abbrev pub Spread : List (Live K) → Type 0
  Spread [] = Unit {0}
  Spread (live k u ∷ s) = Apart k s × Spread s

  pub match_short : {r : Bool} {s : List (Live K)} {j : List (Entry K)} → Match r s j → Short s
  match_short start = tt
  match_short (done k u e a m) = match_short m
  match_short (lost k u e a m) = match_short m
  match_short (runs k u e a m) = (e, match_short m)
  match_short (waits k u e a m) = (e, match_short m)

  pub match_spread : {r : Bool} {s : List (Live K)} {j : List (Entry K)} → Match r s j → Spread s
  match_spread start = tt
  match_spread (done k u e a m) = match_spread m
  match_spread (lost k u e a m) = match_spread m
  match_spread (runs k u e a m) = (a, match_spread m)
  match_spread (waits k u e a m) = (a, match_spread m)

  -- where something runs, something is under way
  pub match_some : {j : List (Entry K)} → Match true [] j → ⊥
  match_some (done k u e a m) = match_some m
  match_some (lost k u e a m) = match_some m
