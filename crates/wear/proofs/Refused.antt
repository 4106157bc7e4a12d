-- Where the shared place is 0, the counts are only looked on: a step is the step of the device alone, in what it answers and in what it makes of the state and the array; and a list
-- of steps is. Where it is not 0, every step is refused 1 or 2, and the reports 2.
-- Assumes nothing.
use Prim.Native.Nat.{ℕ, zero, suc, ◌+◌, ◌≤◌, ◌<◌, min}
use Rattle.std.specs.Prelude.{Bool, cond, ◌&&◌, List, [], ◌∷◌, ◌⊎◌, ◌≡◌, eqb, ltb, length, get_or, set, Some, None, Err}
use Rattle.std.proofs.Math.Bool.{true, false}
use Rattle.std.proofs.Common.{true≢false, inl, inr, sym, ap, ◌∙◌, subst, arith, get_or-set_other}
use Rattle.std.proofs.Math.Path.{refl}
use borrow.Author.Tests.{ltb-true, ltb-false, le-ltb, eq-eqb, ne_eqb}
use Rattle.refusal.specs.declared.Refusal.{Refusal}
use Rattle.refusal.specs.declared.Refusal.TheVariants as refusal
use Rattle.geometry.specs.Blocks.{words}
use Rattle.geometry.specs.Laws.{order}
use Rattle.semantics.specs.declared.State.{State}
use Rattle.semantics.specs.declared.Step.{Step}
use Rattle.semantics.specs.declared.Step.TheVariants.{Read, Write, Work, Supply, Reset}
use Rattle.semantics.specs.declared.Running.{Running}
use Rattle.semantics.specs.declared.Running.TheVariants as running
use Rattle.semantics.specs.declared.Answer.TheVariants.{Refused}
use Rattle.semantics.specs.State.{geometry, runs}
use Rattle.semantics.specs.Branches.{of_cond, of_option, by_test}
use Rattle.semantics.specs.WellFormed.{well_formed}
use Rattle.semantics.specs.Split.{step_refusal, first_refusal}
use Rattle.semantics.proofs.Split.{reset_refused, refused_first}
use Rattle.semantics.specs.Steps.{refusal_of, next, accepted_array, step_of, array_of, reported_of, Machine, after, after_all, answers_of}
use Rattle.wear.specs.Counts.{Counts, lent, row_of, place_in, count_at, count_of, shared_zero, no_counts, put_at, with_count, one_more, counts_after}
use Rattle.wear.specs.Steps.{formed_with, refusal_with, step_with, array_with, counts_with, accepted_counts, reported_with, most_worn_with, erase_count_with, Counted, after_with, after_all_with, answers_with}
use Rattle.wear.specs.Places.{Shaped}
use Rattle.wear.proofs.Places.{placed, count_with}
use Rattle.wear.specs.Refused.{is_work, Moved}

-- ---- a step that leaves the array, or the counts, where it is accepted

pub array_still : (s : State) (k : Counts) (xs : List ℕ) (x : Step) → accepted_array s xs x ≡ xs → array_with s k xs x ≡ xs
unfolding array_with
array_still s k xs x e = of_option (λ (l : List ℕ). l ≡ xs) (refusal_with s k (length xs) x) (λ r. xs) (accepted_array s xs x) e (λ r. refl)

pub counts_still : (s : State) (k : Counts) (xs : List ℕ) (x : Step) → accepted_counts s k x ≡ k → counts_with s k xs x ≡ k
unfolding counts_with
counts_still s k xs x e = of_option (λ (m : Counts). m ≡ k) (refusal_with s k (length xs) x) (λ r. k) (accepted_counts s k x) e (λ r. refl)

pub only_work : (s : State) (k : Counts) (xs : List ℕ) (x : Step) → is_work x ≡ false → counts_with s k xs x ≡ k
unfolding accepted_counts
only_work s k xs (Read address) h = counts_still s k xs (Read address) refl
only_work s k xs (Write address w) h = counts_still s k xs (Write address w) refl
only_work s k xs (Work n) h = absurd (true≢false h)
only_work s k xs (Supply on) h = counts_still s k xs (Supply on) refl
only_work s k xs Reset h = counts_still s k xs Reset refl

-- ---- the shared place

-- no step changes whether the shared place is 0: it is no block's
put_elsewhere : (m : List (List ℕ)) (i j x : ℕ) → (i ≡ 0 → j ≡ 0 → ⊥) → count_at (put_at m i j x) 0 0 ≡ count_at m 0 0
unfolding count_at put_at
put_elsewhere m (suc i) j x n = ap (λ (r : List ℕ). get_or r 0 0) (get_or-set_other m (suc i) 0 (set (get_or m (suc i) []) j x) [] (λ e. omega arith))
put_elsewhere [] zero j x n = refl
put_elsewhere (r ∷ m) zero j x n = get_or-set_other r j 0 x 0 (λ e. n refl (sym e))

pub shared_with : (k : Counts) (b x : ℕ) → shared_zero (with_count k b x).main ≡ shared_zero k.main
unfolding shared_zero with_count
shared_with k b x = go (ltb b 4) refl (ltb b 259) refl
  where
    go : (t : Bool) → ltb b 4 ≡ t → (u : Bool) → ltb b 259 ≡ u
        → eqb (count_at (cond t (lent k.main (set k.small b x)) (cond u (lent (put_at k.main (row_of b) (place_in b) x) k.small) k)).main 0 0) 0 ≡ eqb (count_at k.main 0 0) 0
    go true e u f = refl
    go false e true f = ap (λ (n : ℕ). eqb n 0) (put_elsewhere k.main (row_of b) (place_in b) x (placed b (ltb-false b 4 e) (ltb-true b 259 f)).own)
    go false e false f = refl

shared_after : (r t : Running) (k : Counts) → shared_zero (counts_after r t k).main ≡ shared_zero k.main
unfolding counts_after one_more
shared_after running.Idle t k = refl
shared_after (running.Program l w) t k = refl
shared_after (running.Erase b done) t k = go (runs t)
  where
    go : (v : Bool) → shared_zero (cond v k (with_count k b (min 65535 (count_of k b + 1)))).main ≡ shared_zero k.main
    go true = refl
    go false = shared_with k b (min 65535 (count_of k b + 1))
shared_after (running.Buffer l n done) t k = refl

shared_accepted : (s : State) (k : Counts) (x : Step) → shared_zero (accepted_counts s k x).main ≡ shared_zero k.main
unfolding accepted_counts
shared_accepted s k (Read address) = refl
shared_accepted s k (Write address w) = refl
shared_accepted s k (Work n) = shared_after s.control.activity.running _ k
shared_accepted s k (Supply on) = refl
shared_accepted s k Reset = refl

pub shared_kept : (s : State) (k : Counts) (xs : List ℕ) (x : Step) → shared_zero (counts_with s k xs x).main ≡ shared_zero k.main
unfolding counts_with
shared_kept s k xs x =
    of_option (λ (m : Counts). shared_zero m.main ≡ shared_zero k.main) (refusal_with s k (length xs) x) (λ e. k) (accepted_counts s k x) (shared_accepted s k x) (λ e. refl)

pub shared_all : (c : Counted) (l : List Step) → shared_zero (after_all_with c l).counts.main ≡ shared_zero c.counts.main
shared_all c [] = refl
shared_all c (x ∷ l) = shared_all (after_with c x) l ∙ shared_kept c.machine.state c.counts c.machine.array x

pub fresh_shared : shared_zero no_counts.main ≡ true
unfolding shared_zero count_at no_counts
fresh_shared = refl

-- ---- a refusal in its two parts

module _ (s : State) (k : Counts) (n : ℕ) where
  -- what every step is refused for
  pub reset_with : refusal_with s k n Reset ≡ cond (eqb n (words (geometry s))) (cond (formed_with s k) None (Some refusal.Malformed)) (Some refusal.ArrayLength)
  unfolding refusal_with
  reset_with = reset_refused (geometry s) (formed_with s k) n

  -- then a step for its own numbers
  pub refusal_first : (x : Step) → refusal_with s k n x ≡ first_refusal (refusal_with s k n Reset) (step_refusal (geometry s) x)
  unfolding refusal_with
  refusal_first x = refused_first (geometry s) (formed_with s k) n x

  pub length_refused : (n ≡ words (geometry s) → ⊥) → (x : Step) → refusal_with s k n x ≡ Some refusal.ArrayLength
  length_refused h x = rw (refusal_first x, reset_with, ne_eqb n (words (geometry s)) h)

-- ---- where it is not 0

module _ (s : State) (k : Counts) (bad : shared_zero k.main ≡ false) where
  formed_bad : formed_with s k ≡ false
  unfolding formed_with
  formed_bad = rw bad (go (well_formed s))
    where
      go : (b : Bool) → (b && false) ≡ false
      go true = refl
      go false = refl

  -- every step is refused, 1 for the array's length or else 2, and gives the state back (the array and the counts: `refused_nothing`)
  pub bad_refused : (xs : List ℕ) (x : Step) → step_with s k xs x ≡ next s (Refused (cond (eqb (length xs) (words (geometry s))) refusal.Malformed refusal.ArrayLength))
  unfolding step_with
  bad_refused xs x =
      let f = refusal_first s k (length xs) x in
      let r = reset_with s k (length xs) in
      by_test (eqb (length xs) (words (geometry s))) (λ e. rw (f, r, formed_bad, e)) (λ e. rw (f, r, formed_bad, e))

  pub bad_reported : reported_with s k ≡ Err refusal.Malformed
  unfolding reported_with
  bad_reported = rw formed_bad

  pub bad_most_worn : most_worn_with s k ≡ Err refusal.Malformed
  unfolding most_worn_with
  bad_most_worn = rw formed_bad

  pub bad_worn : (b : ℕ) → erase_count_with s k b ≡ Err refusal.Malformed
  unfolding erase_count_with
  bad_worn b = rw formed_bad

-- ---- where it is 0

module _ (s : State) (k : Counts) (zero : shared_zero k.main ≡ true) where
  pub formed_alone : formed_with s k ≡ well_formed s
  unfolding formed_with
  formed_alone = rw zero (go (well_formed s))
    where
      go : (b : Bool) → (b && true) ≡ b
      go true = refl
      go false = refl

  pub refusal_alone : (n : ℕ) (x : Step) → refusal_with s k n x ≡ refusal_of s n x
  unfolding refusal_with refusal_of
  refusal_alone n x = rw formed_alone

  -- a step is the step of the device alone
  pub step_alone : (xs : List ℕ) (x : Step) → step_with s k xs x ≡ step_of s xs x
  unfolding step_with step_of
  step_alone xs x = rw (refusal_alone (length xs) x)

  pub array_alone : (xs : List ℕ) (x : Step) → array_with s k xs x ≡ array_of s xs x
  unfolding array_with array_of
  array_alone xs x = rw (refusal_alone (length xs) x)

  pub report_alone : reported_with s k ≡ reported_of s
  unfolding reported_with reported_of
  report_alone = rw formed_alone

pub after_alone : (c : Counted) (x : Step) → shared_zero c.counts.main ≡ true → (after_with c x).machine ≡ after c.machine x
after_alone c x z = λ j. record {
  state = (step_alone c.machine.state c.counts z c.machine.array x j).state;
  array = array_alone c.machine.state c.counts z c.machine.array x j;
}

-- and so is a list of them, with its answers: what is proved of the device alone holds of the device with its counts
pub all_alone : (c : Counted) (l : List Step) → shared_zero c.counts.main ≡ true → (after_all_with c l).machine ≡ after_all c.machine l
all_alone c [] z = refl
all_alone c (x ∷ l) z =
    all_alone (after_with c x) l (shared_kept c.machine.state c.counts c.machine.array x ∙ z) ∙ ap (λ (m : Machine). after_all m l) (after_alone c x z)

-- so what becomes of the device and the array does not depend on the counts
pub all_same : (c d : Counted) (l : List Step) → shared_zero c.counts.main ≡ true → shared_zero d.counts.main ≡ true → c.machine ≡ d.machine → (after_all_with c l).machine ≡ (after_all_with d l).machine
all_same c d l z w e = all_alone c l z ∙ ap (λ (m : Machine). after_all m l) e ∙ sym (all_alone d l w)

pub answers_alone : (c : Counted) (l : List Step) → shared_zero c.counts.main ≡ true → answers_with c l ≡ answers_of c.machine l
answers_alone c [] z = refl
answers_alone c (x ∷ l) z =
    (λ j. (step_alone c.machine.state c.counts z c.machine.array x j).answer
    ∷ (answers_alone (after_with c x) l (shared_kept c.machine.state c.counts c.machine.array x ∙ z) ∙ ap (λ (m : Machine). answers_of m l) (after_alone c x z)) j)

-- ---- a step that is refused, and one that is not

-- "A refusal gives its number beside the answer 0, gives back the state it got and leaves all lent memory": the array and the counts
pub refused_nothing : (s : State) (k : Counts) (xs : List ℕ) (x : Step) (e : Refusal) → refusal_with s k (length xs) x ≡ Some e
    → (step_with s k xs x ≡ next s (Refused e)) × (array_with s k xs x ≡ xs) × (counts_with s k xs x ≡ k)
unfolding step_with array_with counts_with
refused_nothing s k xs x e h = (rw h, rw h, rw h)

moved_not : (k : Counts) → Moved k k
moved_not k = record { block = 0; others = λ b h n. refl; below = omega arith; above = λ h. omega arith }

no_block : (k : Counts) (c x : ℕ) → 259 ≤ c → with_count k c x ≡ k
unfolding with_count
no_block k c x h = rw (le-ltb c 4 (omega arith), le-ltb c 259 h)

moved_by : (k : Counts) → Shaped k → (c : ℕ) → (c < 259) ⊎ (259 ≤ c) → Moved k (one_more k c)
unfolding one_more
moved_by k s c (inl h) =
    let e : count_of (with_count k c (min 65535 (count_of k c + 1))) c ≡ min 65535 (count_of k c + 1) = count_with k s c _ c h h ∙ rw (eq-eqb c c refl) in
    record { block = c; others = λ b i n. count_with k s c _ b h i ∙ rw (ne_eqb b c n); below = omega (arith, e); above = λ i. omega (arith, e) }
moved_by k s c (inr h) = subst (λ (m : Counts). Moved k m) (sym (no_block k c _ h)) (moved_not k)

pub one_count : (s : State) (k : Counts) → Shaped k → (xs : List ℕ) (x : Step) → Moved k (counts_with s k xs x)
unfolding counts_with accepted_counts counts_after
one_count s k f xs x = of_option (Moved k) (refusal_with s k (length xs) x) (λ e. k) (accepted_counts s k x) (go x) (λ e. moved_not k)
  where
    work : (r t : Running) → Moved k (counts_after r t k)
    work running.Idle t = moved_not k
    work (running.Program l w) t = moved_not k
    work (running.Erase b done) t = of_cond (Moved k) (runs t) k (one_more k b) (moved_not k) (moved_by k f b (order b 259))
    work (running.Buffer l n done) t = moved_not k

    go : (y : Step) → Moved k (accepted_counts s k y)
    go (Read address) = moved_not k
    go (Write address w) = moved_not k
    go (Work n) = work s.control.activity.running _
    go (Supply on) = moved_not k
    go Reset = moved_not k
