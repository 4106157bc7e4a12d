-- The counts' theorem: after any list of the five steps from power-up, refused ones included, the count of every block is the lesser of 65,535 and the number of its finished erases
-- in the journal, which is drawn up from the steps alone. It stands on the invariant of demand 3 (semantics, Invariant): the journal's running entry is what the device runs.
-- Assumes nothing.
use Rattle.std.specs.Prelude.{◌≡◌, List, [], ◌∷◌, map, Bool, true, false, cond, ◌&&◌, ◌⊎◌, ltb, eqb, length, get_or, replicate, None, Option}
use Rattle.std.proofs.Math.Path.{refl}
use Rattle.std.proofs.Common.{sym, ap, ◌∙◌, subst, true≢false, inl, inr, arith, lt-ltb, le-leb, ltb-true, ltb-false, eq-eqb, ne_eqb, eqb-true}
use Prim.Native.Nat.{ℕ, suc, ◌+◌, ◌-◌, ◌≤◌, ◌<◌, min}
use Rattle.std.proofs.lemmas.List.{get_or-replicate}
use Rattle.std.proofs.lemmas.Bool.{lt-leb, eqb-false}
use Rattle.geometry.specs.declared.Part.{Part}
use Rattle.geometry.specs.declared.Geometry.{Geometry}
use Rattle.geometry.specs.Blocks.{Sound, geometry_of, words, blocks, size_of}
use Rattle.geometry.specs.Laws as laws
use Rattle.semantics.specs.declared.State.{State}
use Rattle.semantics.specs.declared.Running.{Running}
use Rattle.semantics.specs.declared.Running.TheVariants as running
use Rattle.semantics.specs.declared.SuspendedProgram.{SuspendedProgram}
use Rattle.semantics.specs.declared.SuspendedErase.{SuspendedErase}
use Rattle.semantics.specs.declared.Step.{Step}
use Rattle.semantics.specs.declared.Step.TheVariants.{Read, Write, Work, Supply, Reset}
use Rattle.semantics.specs.State.{geometry, runs}
use Rattle.semantics.specs.Working.{units_left, units_done, running_after}
use Rattle.semantics.proofs.Split.{count_good, count_bad}
use Rattle.semantics.specs.Steps.{Machine}
use Rattle.semantics.specs.Entries as entries
use Rattle.semantics.specs.Entries.{Entry, entry, Live, live, is_finished, idle_worked}
use Rattle.semantics.specs.Recorder.{Operation, Conditions, Recorder, beginning, recorded, recorded_all}
use Rattle.semantics.specs.Recorder.{Event, event, journal_after}
use Rattle.semantics.specs.Recorder.{kinds, len}
use Rattle.semantics.proofs.Engine.{stack, busy, held?, Matches, rules_agree}
use Rattle.semantics.proofs.Events.{OnJournal, adds, works, rephases, changes}
use Rattle.semantics.proofs.Causes.{Cause, by_work, cause}
use Rattle.semantics.proofs.Follows.{conditions, under_way, under_way_of, event_of}
use Rattle.semantics.proofs.Invariant.{Agree, agree_formed, agree_after, agree_fresh, state_good}
use Rattle.wear.specs.Counts.{Counts, row_of, place_in, count_at, count_of, shared_zero, no_counts, one_more, counts_after}
use Rattle.wear.specs.Steps.{refusal_with, accepted_counts, counts_with, Counted, after_with, after_all_with, fresh_with}
use Rattle.wear.specs.Places.{Shaped}
use Rattle.wear.proofs.Places.{placed, count_with, shape_with}
use Rattle.wear.specs.Refused.{is_work}
use Rattle.wear.proofs.Refused.{only_work, shared_kept, shared_all, fresh_shared, refusal_first, refusal_alone, after_alone}
use Rattle.wear.specs.Claim.{erases, is_finished_erase, finished_erases, CountsStand}

-- ---- what an event makes of the number of finished erases

module _ (g : Geometry) where
  -- a change of phases finishes none
  map_kept : (b : ℕ) (f : Entry Operation → Entry Operation) → entries.Rephases (kinds g) f → (j : List (Entry Operation)) → finished_erases b (map f j) ≡ finished_erases b j
  map_kept b f h [] = refl
  map_kept b f h (entry k u t ∷ j) =
      let e : is_finished_erase b (f (entry k u t)) ≡ is_finished_erase b (entry k u t) = ap (is_finished_erase b) (h k u t).0 ∙ ap (λ (x : Bool). x && erases b k) (h k u t).1 in
      (λ i. cond (e i) (suc (map_kept b f h j i)) (map_kept b f h j i))

  -- and no step but work finishes an erase
  still : {d : Conditions} {r : Bool} {h : (Operation → Bool) → Bool} {x : Step} {v : Event} → Cause g d r h x v → is_work x ≡ false → (b : ℕ) (j : List (Entry Operation))
      → finished_erases b (journal_after g v j) ≡ finished_erases b j
  still {d} {r} {h} {x} {v} c e b j = go (changes g v).0 c
    where
      go : {v : Event} → OnJournal g v → Cause g d r h x v → finished_erases b (journal_after g v j) ≡ finished_erases b j
      go (adds k) c = refl
      go (works n) (by_work _ z) = absurd (true≢false (sym (ap is_work z) ∙ e))
      go (rephases v f q i) c = rw (i j) (map_kept b f q j)

  -- one more or not, as a sum
  more_if : (t : Bool) (n : ℕ) → cond t (suc n) n ≡ cond t 1 0 + n
  more_if true n = omega arith
  more_if false n = omega arith

  -- work finishes the running operation where it has received all its units, and no other
  finished_worked : (b n : ℕ) {k : Operation} {u : ℕ} {s : List (Live Operation)} {j : List (Entry Operation)} → Matches g true (live k u ∷ s) j
      → finished_erases b (map (entries.worked (kinds g) n) j) ≡ cond (eqb (entries.given (kinds g) k u n) (len g k) && erases b k) 1 0 + finished_erases b j
  finished_worked b n (entries.done {j = j} k u e a m) =
      omega (arith, finished_worked b n m, more_if (erases b k) (finished_erases b (map (entries.worked (kinds g) n) j)), more_if (erases b k) (finished_erases b j))
  finished_worked b n (entries.lost k u e a m) = finished_worked b n m
  finished_worked b n (entries.runs {j = j} k u e a m) = rw (idle_worked (kinds g) n m) (go (eqb (entries.given (kinds g) k u n) (len g k)))
    where
      go : (t : Bool) → cond (is_finished (cond t entries.finished entries.running) && erases b k) (suc (finished_erases b j)) (finished_erases b j) ≡ cond (t && erases b k) 1 0 + finished_erases b j
      go true = more_if (erases b k) (finished_erases b j)
      go false = omega arith

  -- what is no erase finishes none
  finished_other : (b n : ℕ) {k : Operation} {u : ℕ} {s : List (Live Operation)} {j : List (Entry Operation)} → erases b k ≡ false → Matches g true (live k u ∷ s) j
      → finished_erases b (map (entries.worked (kinds g) n) j) ≡ finished_erases b j
  finished_other b n {k = k} {u = u} {j = j} h m = finished_worked b n m ∙ rw h (go (eqb (entries.given (kinds g) k u n) (len g k)))
    where
      go : (t : Bool) → cond (t && false) 1 0 + finished_erases b j ≡ finished_erases b j
      go true = omega arith
      go false = omega arith

-- ---- the invariant

-- the counts are the journal's
pub record Right (k : Counts) (j : List (Entry Operation)) : Type 0 where
  pub shaped : Shaped k
  pub count : (b : ℕ) → b < 259 → count_of k b ≡ min 65535 (finished_erases b j)

none_fresh : (b : ℕ) → b < 259 → count_of no_counts b ≡ 0
unfolding count_of count_at no_counts
none_fresh b h = rw (lt-ltb b 259 h) (go (ltb b 4) refl)
  where
    row : List ℕ
    row = replicate 16 0

    go : (t : Bool) → ltb b 4 ≡ t → cond t (get_or (replicate {A = ℕ} 4 0) b 0) (get_or (get_or (replicate 16 row) (row_of b) []) (place_in b) 0) ≡ 0
    go true e = get_or-replicate 4 b 0 0 (ltb-true b 4 e)
    go false e =
        let q = placed b (ltb-false b 4 e) h in
        ap (λ (l : List ℕ). get_or l (place_in b) 0) (get_or-replicate 16 (row_of b) row [] q.row) ∙ get_or-replicate 16 (place_in b) 0 0 q.place

right_fresh : Right no_counts []
unfolding count_of count_at no_counts
right_fresh = record { shaped = record { rows = refl; places = λ i h. let e : get_or (replicate 16 (replicate {A = ℕ} 16 0)) i [] ≡ replicate {A = ℕ} 16 0 = get_or-replicate 16 i (replicate {A = ℕ} 16 0) [] h in ap length e; four = refl }; count = none_fresh }

-- counts that stay beside a journal whose finished erases stay
right_still : (k : Counts) (i j : List (Entry Operation)) → ((b : ℕ) → finished_erases b j ≡ finished_erases b i) → Right k i → Right k j
right_still k i j h r = record { shaped = r.shaped; count = λ b q. r.count b q ∙ ap (λ (n : ℕ). min 65535 n) (sym (h b)) }

-- one finished erase of block c more
right_more : (k : Counts) (i j : List (Entry Operation)) (c : ℕ) → c < 259 → ((b : ℕ) → finished_erases b j ≡ cond (eqb c b) 1 0 + finished_erases b i) → Right k i → Right (one_more k c) j
unfolding one_more
right_more k i j c h f r = record { shaped = shape_with k r.shaped c _; count = λ b q. count_with k r.shaped c _ b h q ∙ go b q (eqb b c) refl }
  where
    go : (b : ℕ) → b < 259 → (t : Bool) → eqb b c ≡ t → cond t (min 65535 (count_of k c + 1)) (count_of k b) ≡ min 65535 (finished_erases b j)
    go b q true e = let d : b ≡ c = eqb-true b c e in rw d (omega (arith, r.count c h, rw (eq-eqb c c refl) at (f c)))
    go b q false e = omega (arith, r.count b q, rw (ne_eqb c b (λ d. eqb-false b c e (sym d))) at (f b))

-- ---- work

module _ (g : Geometry) (sound : Sound g) (limit : blocks g ≡ 259) where
  -- an erase has its last word done exactly where it has received all its units
  ends : (b u n : ℕ) → u < size_of g b → ltb (u + min n (size_of g b - u)) (size_of g b) ≡ false → eqb (u + min n (size_of g b - u)) (size_of g b) ≡ true
  ends b u n h e = eq-eqb (u + min n (size_of g b - u)) (size_of g b) (omega (arith, ltb-false (u + min n (size_of g b - u)) (size_of g b) e))

  goes_on : (b u n : ℕ) → ltb (u + min n (size_of g b - u)) (size_of g b) ≡ true → eqb (u + min n (size_of g b - u)) (size_of g b) ≡ false
  goes_on b u n e = ne_eqb (u + min n (size_of g b - u)) (size_of g b) (λ d. omega (arith, ltb-true (u + min n (size_of g b - u)) (size_of g b) e))

  right_worked : (bs : List ℕ) (n : ℕ) (r : Running) (p : SuspendedProgram) (e : Option SuspendedErase) (k : Counts) (j : List (Entry Operation))
      → Matches g (busy (under_way_of bs r p e)) (stack (under_way_of bs r p e)) j → Right k j
      → Right (counts_after r (running_after g r (units_done g r n)) k) (map (entries.worked (kinds g) n) j)
  unfolding counts_after running_after units_done units_left
  right_worked bs n running.Idle p e k j m r = rw (idle_worked (kinds g) n m) r
  right_worked bs n (running.Program l w) p e k j m r = right_still k j _ (λ b. finished_other g b n refl m) r
  right_worked bs n (running.Erase c u) p e k j m r = go (ltb (u + min n (size_of g c - u)) (size_of g c)) refl
    where
      less : u < size_of g c
      less = entries.live_less (kinds g) m

      go : (t : Bool) → ltb (u + min n (size_of g c - u)) (size_of g c) ≡ t
          → Right (cond (runs (cond t (running.Erase c (u + min n (size_of g c - u))) running.Idle)) k (one_more k c)) (map (entries.worked (kinds g) n) j)
      go true f = right_still k j _ (λ b. finished_worked g b n m ∙ rw (goes_on c u n f) (omega arith)) r
      go false f = right_more k j _ c (omega (arith, limit, laws.block_real g sound c (omega (arith, less)))) (λ b. finished_worked g b n m ∙ rw (ends c u n less f)) r
  right_worked bs n (running.Buffer l i u) p e k j m r = right_still k j _ (λ b. finished_other g b n refl m) r

-- ---- a step

-- a work step by its count: refused, and the counts stay; or not
module _ (s : State) (k : Counts) (xs : List ℕ) (n : ℕ) (good : refusal_with s k (length xs) Reset ≡ None) where
  worked_refused : 65535 < n → counts_with s k xs (Work n) ≡ k
  unfolding counts_with
  worked_refused h = rw (refusal_first s k (length xs) (Work n), good, count_bad (geometry s) n h)

  worked_counted : n ≤ 65535
      → counts_with s k xs (Work n) ≡ counts_after s.control.activity.running (running_after (geometry s) s.control.activity.running (units_done (geometry s) s.control.activity.running n)) k
  unfolding counts_with accepted_counts
  worked_counted h = rw (refusal_first s k (length xs) (Work n), good, count_good (geometry s) n h)

-- one step, of a device that agrees with the recorder: the part is the device's own
right_own : (xs₀ : List ℕ) (m : Machine) (c : Recorder) (k : Counts) (x : Step) → Agree m.state.part xs₀ m c → shared_zero k.main ≡ true → Right k c.journal
    → Right (counts_with m.state k m.array x) (recorded (geometry m.state) c x).journal
unfolding accepted_counts
right_own xs₀ m c k x a z r = subst (λ (v : Event). Right (counts_with m.state k m.array x) (journal_after (geometry m.state) v c.journal)) (sym same) (go x)
  where
    s : State
    s = m.state

    g : Geometry
    g = geometry m.state

    same : event (geometry m.state) x c ≡ event_of (geometry m.state) m.state x
    same =
        ap (λ (d : Conditions). event (geometry m.state) x (record { conditions = d; journal = c.journal })) (sym a.same)
        ∙ rules_agree (geometry m.state) x (conditions m.state) (under_way m.state) c.journal a.sim

    good : refusal_with m.state k (length m.array) Reset ≡ None
    good = refusal_alone m.state k z (length m.array) Reset ∙ state_good m.state (length m.array) a.size (agree_formed m.state.part xs₀ m c a)

    -- a step that is no work leaves the counts
    stays : (y : Step) → is_work y ≡ false → Right (counts_with m.state k m.array y) (journal_after (geometry m.state) (event_of (geometry m.state) m.state y) c.journal)
    stays y e =
        rw (only_work m.state k m.array y e)
        (right_still k c.journal _ (λ b. still g (cause (geometry m.state) (conditions m.state) (busy (under_way m.state)) (held? (under_way m.state)) y) e b c.journal) r)

    work : (n : ℕ) → (65535 < n) ⊎ (n ≤ 65535) → Right (counts_with m.state k m.array (Work n)) (journal_after (geometry m.state) (event_of (geometry m.state) m.state (Work n)) c.journal)
    work n (inl h) = rw (lt-leb n 65535 h, worked_refused s k m.array n good h) r
    work n (inr h) =
        rw (le-leb n 65535 h, worked_counted s k m.array n good h)
        (right_worked (geometry m.state) (laws.sound m.state.part) (laws.part_blocks m.state.part) s.buffer n s.control.activity.running s.control.activity.program s.control.activity.erase k c.journal a.sim.match r)

    go : (y : Step) → Right (counts_with m.state k m.array y) (journal_after (geometry m.state) (event_of (geometry m.state) m.state y) c.journal)
    go (Read address) = stays (Read address) refl
    go (Write address w) = stays (Write address w) refl
    go (Work n) = work n (laws.order 65535 n)
    go (Supply on) = stays (Supply on) refl
    go Reset = stays Reset refl

pub right_after : (p : Part) (xs₀ : List ℕ) (m : Machine) (c : Recorder) (k : Counts) (x : Step) → Agree p xs₀ m c → shared_zero k.main ≡ true → Right k c.journal
    → Right (counts_with m.state k m.array x) (recorded (geometry_of p) c x).journal
right_after p xs₀ m c k x a z r =
    subst (λ (q : Part). Right (counts_with m.state k m.array x) (recorded (geometry_of q) c x).journal) a.part
    (right_own xs₀ m c k x (subst (λ (q : Part). Agree q xs₀ m c) (sym a.part) a) z r)

-- ---- the theorem

right_all : (p : Part) (xs₀ : List ℕ) (l : List Step) (w : Counted) (c : Recorder) → Agree p xs₀ w.machine c → shared_zero w.counts.main ≡ true → Right w.counts c.journal
    → Right (after_all_with w l).counts (recorded_all (geometry_of p) c l).journal
right_all p xs₀ [] w c a z r = r
right_all p xs₀ (x ∷ l) w c a z r =
    right_all p xs₀ l (after_with w x) (recorded (geometry_of p) c x)
    (subst (λ (m : Machine). Agree p xs₀ m (recorded (geometry_of p) c x)) (sym (after_alone w x z)) (agree_after p xs₀ w.machine c x a))
    (shared_kept w.machine.state w.counts w.machine.array x ∙ z)
    (right_after p xs₀ w.machine c w.counts x a z r)

-- For every part p, every list l of the five steps, refused ones included, and every array xs of the part's length
pub counts_stand : (p : Part) (l : List Step) (xs : List ℕ) → length xs ≡ words (geometry_of p) → CountsStand p l (after_all_with (fresh_with p xs) l).counts
counts_stand p l xs h =
    let r = right_all p xs l (fresh_with p xs) beginning (agree_fresh p xs h) fresh_shared right_fresh in
    record { count = λ b q. r.count b (omega (arith, laws.part_blocks p)); shared = shared_all (fresh_with p xs) l ∙ fresh_shared }
