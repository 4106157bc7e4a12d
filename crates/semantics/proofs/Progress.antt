-- "Left running, a program ends at 1 unit and an erase at the size of its block, counted over all work steps.", and document 02, item 5: "the progress sentence in 01 needs it on throughout", the
-- supply. One operation is followed, through the stretches in which it is suspended too. A list may hold any step but two: a reset, and the supply going off.
-- Assumes nothing.
use Rattle.std.specs.Prelude.{[], ◌≡◌, List, ◌∷◌, Bool, cond, ◌&&◌, ◌||◌, ◌⊎◌, ℕ, ◌+◌, ◌-◌, ◌≤◌, ◌<◌, min, ltb, leb, eqb, length, None, Option, Some}
use Rattle.std.proofs.Math.Path.{refl, sym}
use Rattle.std.proofs.Common.{ap, ◌∙◌, subst, true≢false, inl, inr}
use Rattle.std.proofs.Math.Bool.{true, false}
use native.Mathlib.Omega.{arith}
use borrow.Author.Tests.{ltb-true, ltb-false, lt-ltb, le-ltb, le-leb, lt-leb, eqb-true}
use Rattle.refusal.specs.declared.Refusal.TheVariants as refusal
use Rattle.geometry.specs.declared.Part.{Part}
use Rattle.geometry.specs.declared.Geometry.{Geometry}
use Rattle.geometry.specs.Blocks.{geometry_of, words}
use Rattle.geometry.specs.Laws as laws
use Rattle.semantics.specs.declared.Running.{Running}
use Rattle.semantics.specs.declared.Running.TheVariants as running
use Rattle.semantics.specs.declared.SuspendedProgram.{SuspendedProgram}
use Rattle.semantics.specs.declared.SuspendedProgram.TheVariants as program
use Rattle.semantics.specs.declared.SuspendedErase.{SuspendedErase}
use Rattle.semantics.specs.declared.Step.{Step}
use Rattle.semantics.specs.declared.Step.TheVariants.{Read, Write, Work, Supply, Reset}
use Rattle.semantics.specs.declared.Answer.TheVariants.{Refused}
use Rattle.semantics.specs.declared.Next.{Next}
use Rattle.semantics.specs.State.{geometry}
use Rattle.semantics.specs.Buffer.{words_length}
use Rattle.semantics.specs.Working.{units_left, units_done}
use Rattle.semantics.proofs.Split.{count_good, count_bad}
use Rattle.semantics.specs.Steps.{refusal_of, next, accepted, step_of, Machine, after, after_all, fresh}
use Rattle.semantics.specs.Entries as entries
use Rattle.semantics.specs.Entries.{Live, live, any_live}
use Rattle.semantics.specs.Recorder as recorder
use Rattle.semantics.specs.Recorder.{Operation, Event, nothing, units, Conditions, conditions_after, len, kinds, is_program, is_erase, is_any}
use Rattle.semantics.proofs.Causes.{Ready, Cause, by_nothing, by_supply, by_reset, by_work, by_suspend, by_resume_program, by_resume_erase, by_end_program, by_end_erase, by_setup, by_protection, by_accept, cause, accept_free, supply_kept}
use Rattle.semantics.proofs.Since.{supply_or_not}
use Rattle.semantics.specs.Tests.{or_false_l, or_false_r}
use Rattle.semantics.proofs.Engine.{Engine, engine, busy, stack, held?, engine_after, engine_worked, Order, Sim}
use Rattle.semantics.proofs.UnderWay.{conditions, add_erase, add_program, under_way, under_way_of, Beside, none_is_running, program_is_running, buffer_is_running, erase_is_running, beside}
use Rattle.semantics.proofs.Follows.{event_of}
use Rattle.semantics.proofs.Formed.{together}
use Rattle.semantics.specs.Branches.{of_cond, of_option}
use Rattle.semantics.proofs.Invariant.{Steps, kept_step, agree_fit, steps, state_good, step_done, step_refused, length_kept}
use Rattle.semantics.proofs.Theorem.{reached, reached_formed}
use Rattle.semantics.proofs.Kept.{own_of, formed_sim, keeps}
use Rattle.semantics.specs.Flags.{told_by}
use Rattle.semantics.specs.Progress.{Followed, runs_now, lives, suspended_left, left_of, lives_in, left_in, offered, told, offered_all, told_all, lives_all, Lasting, Good, the_erase, the_program}

-- ---- states with nothing wrong

-- whatever is reached from power-up is such
pub reached_good : (p : Part) (l : List Step) (xs : List ℕ) → length xs ≡ words (geometry_of p) → Good (after_all (fresh p xs) l)
reached_good p l xs h =
    let a = reached p l xs h in
    record { size = a.size ∙ ap (λ (q : Part). words (geometry_of q)) (sym a.part); five = a.five; thirty_two = a.thirty_two; formed = reached_formed p l xs h }

-- and stays such
pub good_after : (m : Machine) (x : Step) → Good m → Good (after m x)
good_after m x o =
    let k = kept_step m.state m.array x o.five in
    record {
      size = length_kept m.state m.array x ∙ o.size ∙ ap (λ (p : Part). words (geometry_of p)) (sym k.part);
      five = k.five ∙ o.five;
      thirty_two = k.thirty_two o.thirty_two;
      formed = keeps m.state m.array x o.five o.thirty_two o.formed;
    }

-- ---- what an event makes of the operation, on the stack of those that are under way

abbrev is_of : Followed → Operation → Bool
is_of the_program o = is_program o
is_of the_erase o = is_erase o

-- steps that are no work, no reset and no loss of supply
abbrev Mild : Step → Type 0
Mild (Read a) = Unit {0}
Mild (Write a w) = Unit {0}
Mild (Work n) = ⊥
Mild (Supply true) = Unit {0}
Mild (Supply false) = ⊥
Mild Reset = ⊥

module _ (g : Geometry) where
  -- the units that it lacks
  abbrev lacks : Followed → List (Live Operation) → ℕ
  lacks k [] = 0
  lacks k (live o u ∷ s) = cond (is_of k o) (len g o - u + lacks k s) (lacks k s)

  -- it runs
  abbrev top : Followed → Engine → Bool
  top k (engine false s) = false
  top k (engine true []) = false
  top k (engine true (live o u ∷ s)) = is_of k o

  none_lacks : (k : Followed) (s : List (Live Operation)) → any_live (is_of k) s ≡ false → lacks k s ≡ 0
  none_lacks k [] h = refl
  none_lacks k (live o u ∷ s) h = rw (or_false_l (is_of k o) _ h) (none_lacks k s (or_false_r (is_of k o) _ h))

  -- each of those under way lacks a unit, so that it is under way exactly where it lacks one
  any_lacks : (k : Followed) (s : List (Live Operation)) → entries.Short (kinds g) s → any_live (is_of k) s ≡ ltb 0 (lacks k s)
  any_lacks k [] h = refl
  any_lacks k (live o u ∷ s) h = go (is_of k o) (any_lacks k s h.1)
    where
      go : (b : Bool) → any_live (is_of k) s ≡ ltb 0 (lacks k s) → (b || any_live (is_of k) s) ≡ ltb 0 (cond b (len g o - u + lacks k s) (lacks k s))
      go true e = sym (lt-ltb 0 (len g o - u + lacks k s) (omega (arith, h.0)))
      go false e = e

  -- an operation that is accepted is not the one that is followed
  program_lacks : (k : Followed) (e : Engine) (o : Operation) → is_erase o ≡ false → busy e ≡ false → held? e is_program ≡ false → 0 < lacks k (stack e) → lacks k (live o 0 ∷ stack e) ≡ lacks k (stack e)
  program_lacks k (engine true s) o a x y h = absurd (true≢false x)
  program_lacks the_program (engine false s) o a x y h = absurd (omega (arith, none_lacks the_program s y))
  program_lacks the_erase (engine false s) o a x y h = rw a

  nothing_lacks : (k : Followed) (e : Engine) → busy e ≡ false → held? e is_any ≡ false → 0 < lacks k (stack e) → ⊥
  nothing_lacks k (engine true s) x y h = true≢false x
  nothing_lacks k (engine false []) x y h = omega arith
  nothing_lacks k (engine false (live o u ∷ s)) x y h = true≢false y

  accept_lacks : (k : Followed) (e : Engine) (o : Operation) → (busy e ≡ false) × (held? e (cond (is_erase o) is_any is_program) ≡ false) → 0 < lacks k (stack e) → lacks k (live o 0 ∷ stack e) ≡ lacks k (stack e)
  accept_lacks k e (recorder.program l w) f h = program_lacks k e (recorder.program l w) refl f.0 f.1 h
  accept_lacks k e (recorder.erase b) f h = absurd (nothing_lacks k e f.0 f.1 h)
  accept_lacks k e (recorder.buffer l ws) f h = program_lacks k e (recorder.buffer l ws) refl f.0 f.1 h

  -- no such step changes what it lacks
  mild_lacks : (k : Followed) (d : Conditions) (e : Engine) (x : Step) (v : Event) → d.supply ≡ true → Ready g d.setup (busy e) (held? e) → Mild x → Cause g d (busy e) (held? e) x v → 0 < lacks k (stack e)
      → lacks k (stack (engine_after g v e)) ≡ lacks k (stack e)
  mild_lacks k d e x v on y m by_nothing h = refl
  mild_lacks k d e x v on y m (by_supply true z) h = refl
  mild_lacks k d e x v on y m (by_supply false z) h = absurd (subst Mild z m)
  mild_lacks k d e x v on y m (by_reset z) h = absurd (subst Mild z m)
  mild_lacks k d e x v on y m (by_work n z) h = absurd (subst Mild z m)
  mild_lacks k d e x v on y m (by_suspend z) h = refl
  mild_lacks k d e x v on y m (by_resume_program z r p) h = refl
  mild_lacks k d e x v on y m (by_resume_erase z r p q) h = refl
  mild_lacks k d e x v on y m (by_end_program u z r p) h = absurd (true≢false (sym on ∙ u))
  mild_lacks k d e x v on y m (by_end_erase u z r p q) h = absurd (true≢false (sym on ∙ u))
  mild_lacks k d e x v on y m (by_setup t f) h = refl
  mild_lacks k d e x v on y m (by_protection b o z) h = refl
  mild_lacks k d e x v on y m (by_accept o a w z c u) h = accept_lacks k e o (accept_free g d.setup (busy e) (held? e) a w o c y) h

  -- the one below it is of the other kind
  rest_lacks : (k : Followed) (o : Operation) (u : ℕ) (s : List (Live Operation)) → Order g (live o u ∷ s) → is_of k o ≡ true → lacks k s ≡ 0
  rest_lacks k o u [] q h = refl
  rest_lacks the_program o u (live i v ∷ []) q h = rw q.1
  rest_lacks the_erase o u (live i v ∷ []) q h = absurd (true≢false (sym h ∙ q.0))
  rest_lacks k o u (live i v ∷ (x ∷ s)) q h = absurd q

  -- work gives it what is offered, while it runs
  work_lacks : (k : Followed) (n : ℕ) (e : Engine) → Order g (stack e) → lacks k (stack (engine_worked g n e)) ≡ lacks k (stack e) - cond (top k e) n 0
  work_lacks k n (engine false s) q = omega arith
  work_lacks k n (engine true []) q = omega arith
  work_lacks k n (engine true (live o u ∷ s)) q = go (eqb v (len g o)) refl (is_of k o) refl
    where
      v : ℕ
      v = entries.given (kinds g) o u n

      go : (t : Bool) → eqb v (len g o) ≡ t → (b : Bool) → is_of k o ≡ b
          → lacks k (stack (cond t (engine false s) (engine true (live o v ∷ s)))) ≡ cond b (len g o - u + lacks k s) (lacks k s) - cond b n 0
      go true x true y = let z = rest_lacks k o u s q y in omega (arith, eqb-true v (len g o) x)
      go true x false y = omega arith
      go false x true y = let z = rest_lacks k o u s q y in rw y (omega arith)
      go false x false y = rw y (omega arith)

-- ---- the device

module _ (g : Geometry) (bs : List ℕ) where
  -- the stack says what the device does: the units that it lacks, whether it runs, and whether it is under way
  erase_lacks : (k : Followed) (e : Option SuspendedErase) → lacks g k (add_erase e) ≡ suspended_left g k program.Nothing e
  erase_lacks the_program None = refl
  erase_lacks the_erase None = refl
  erase_lacks the_program (Some e) = refl
  erase_lacks the_erase (Some e) = omega arith

  program_lives : (k : Followed) (p : SuspendedProgram) (e : Option SuspendedErase) → lacks g k (add_program bs p (add_erase e)) ≡ suspended_left g k p e
  program_lives k program.Nothing e = erase_lacks k e
  program_lives the_program (program.Program l w) e = omega (arith, erase_lacks the_program e)
  program_lives the_erase (program.Program l w) e = erase_lacks the_erase e
  program_lives the_program (program.Buffer l n d) e = omega (arith, erase_lacks the_program e, words_length bs n)
  program_lives the_erase (program.Buffer l n d) e = erase_lacks the_erase e

  left_lacks : (k : Followed) {r : Running} {p : SuspendedProgram} {e : Option SuspendedErase} → Beside r p e → left_of g k r p e ≡ lacks g k (stack (under_way_of bs r p e))
  unfolding units_left
  left_lacks k (none_is_running p e) = sym (program_lives k p e)
  left_lacks the_program (program_is_running l w e) = omega (arith, erase_lacks the_program e)
  left_lacks the_erase (program_is_running l w e) = sym (erase_lacks the_erase e)
  left_lacks the_program (buffer_is_running l n d e) = omega (arith, erase_lacks the_program e, words_length bs n)
  left_lacks the_erase (buffer_is_running l n d e) = sym (erase_lacks the_erase e)
  left_lacks the_program (erase_is_running b n) = refl
  left_lacks the_erase (erase_is_running b n) = omega arith

  runs_top : (k : Followed) (r : Running) (p : SuspendedProgram) (e : Option SuspendedErase) → runs_now k r ≡ top g k (under_way_of bs r p e)
  runs_top k running.Idle p e = refl
  runs_top the_program (running.Program l w) p e = refl
  runs_top the_erase (running.Program l w) p e = refl
  runs_top the_program (running.Erase b n) p e = refl
  runs_top the_erase (running.Erase b n) p e = refl
  runs_top the_program (running.Buffer l n d) p e = refl
  runs_top the_erase (running.Buffer l n d) p e = refl

  live_erase : (k : Followed) (e : Option SuspendedErase) → lives k running.Idle program.Nothing e ≡ any_live (is_of k) (add_erase e)
  live_erase the_program None = refl
  live_erase the_erase None = refl
  live_erase the_program (Some e) = refl
  live_erase the_erase (Some e) = refl

  live_program : (k : Followed) (p : SuspendedProgram) (e : Option SuspendedErase) → lives k running.Idle p e ≡ any_live (is_of k) (add_program bs p (add_erase e))
  live_program k program.Nothing e = live_erase k e
  live_program the_program (program.Program l w) e = refl
  live_program the_erase (program.Program l w) e = live_erase the_erase e
  live_program the_program (program.Buffer l n d) e = refl
  live_program the_erase (program.Buffer l n d) e = live_erase the_erase e

  lives_any : (k : Followed) (r : Running) (p : SuspendedProgram) (e : Option SuspendedErase) → lives k r p e ≡ any_live (is_of k) (stack (under_way_of bs r p e))
  lives_any k running.Idle p e = live_program k p e
  lives_any the_program (running.Program l w) p e = refl
  lives_any the_erase (running.Program l w) p e = live_program the_erase p e
  lives_any the_program (running.Erase b n) p e = live_program the_program p e
  lives_any the_erase (running.Erase b n) p e = refl
  lives_any the_program (running.Buffer l n d) p e = refl
  lives_any the_erase (running.Buffer l n d) p e = live_program the_erase p e

-- a count that is refused offers nothing
none_offered : (k : Followed) (b : Bool) (n : ℕ) → leb n 65535 ≡ false → cond b (cond (leb n 65535) n 0) 0 ≡ 0
none_offered k true n e = rw e
none_offered k false n e = refl

-- what a state with nothing wrong comes to
module _ (m : Machine) (o : Good m) where
  simulated : Sim (geometry m.state) (conditions m.state) (under_way m.state) (own_of m.state)
  simulated = formed_sim m.state o.formed

  left_here : (k : Followed) → left_in k m.state ≡ lacks (geometry m.state) k (stack (under_way m.state))
  left_here k =
      left_lacks (geometry m.state) m.state.buffer k (beside m.state.control.activity.running m.state.control.activity.program m.state.control.activity.erase
      (together (geometry m.state) m.state.buffer m.state.control.activity.running m.state.control.activity.program m.state.control.activity.erase simulated.order))

  -- it is under way exactly where it lacks a unit
  lives_here : (k : Followed) → lives_in k m.state ≡ ltb 0 (left_in k m.state)
  lives_here k =
      lives_any (geometry m.state) m.state.buffer k m.state.control.activity.running m.state.control.activity.program m.state.control.activity.erase
      ∙ any_lacks (geometry m.state) k (stack (under_way m.state)) (entries.match_short (kinds (geometry m.state)) simulated.match) ∙ ap (λ (n : ℕ). ltb 0 n) (sym (left_here k))

  unrefused : refusal_of m.state (length m.array) Reset ≡ None
  unrefused = state_good m.state (length m.array) o.size o.formed

  -- each step is an event
  stepped : (x : Step) → Steps (event_of (geometry m.state) m.state x) m.state m.array (after m x).state (after m x).array
  stepped x = steps m.state m.array unrefused (agree_fit m.state (conditions m.state) _ o.five o.thirty_two simulated) x

  caused : (x : Step) → Cause (geometry m.state) (conditions m.state) (busy (under_way m.state)) (held? (under_way m.state)) x (event_of (geometry m.state) m.state x)
  caused x = cause (geometry m.state) (conditions m.state) (busy (under_way m.state)) (held? (under_way m.state)) x

  -- a step that is no work
  mild_left : (k : Followed) (x : Step) → m.state.control.supply ≡ true → Mild x → 0 < left_in k m.state → lacks (geometry m.state) k (stack (under_way (after m x).state)) ≡ left_in k m.state
  mild_left k x on v h =
      ap (λ (e : Engine). lacks (geometry m.state) k (stack e)) (stepped x).1
      ∙ mild_lacks (geometry m.state) k (conditions m.state) (under_way m.state) x _ on simulated.ready v (caused x) (omega (arith, left_here k)) ∙ sym (left_here k)

  -- work
  work_left : (k : Followed) (n : ℕ) → (65535 < n) ⊎ (n ≤ 65535) → 0 < left_in k m.state
      → lacks (geometry m.state) k (stack (under_way (after m (Work n)).state)) ≡ left_in k m.state - offered k m.state (Work n)
  work_left k n (inl i) h =
      let e = lt-leb n 65535 i in
      ap (λ (x : Engine). lacks (geometry m.state) k (stack x)) (stepped (Work n)).1
      ∙ ap (λ (b : Bool). lacks (geometry m.state) k (stack (engine_after (geometry m.state) (cond b (units n) nothing) (under_way m.state)))) e
      ∙ omega (arith, left_here k, none_offered k (runs_now k m.state.control.activity.running) n e)
  work_left k n (inr i) h =
      let e = le-leb n 65535 i in
      ap (λ (x : Engine). lacks (geometry m.state) k (stack x)) (stepped (Work n)).1
      ∙ ap (λ (b : Bool). lacks (geometry m.state) k (stack (engine_after (geometry m.state) (cond b (units n) nothing) (under_way m.state)))) e
      ∙ work_lacks (geometry m.state) k n (under_way m.state) simulated.order
      ∙ rw (e, ← left_here k, runs_top (geometry m.state) m.state.buffer k m.state.control.activity.running m.state.control.activity.program m.state.control.activity.erase)

  -- every such step
  left_step : (k : Followed) (x : Step) → (m.state.control.supply ≡ true) → (x ≡ Reset → ⊥) → (x ≡ Supply false → ⊥) → 0 < left_in k m.state
      → lacks (geometry m.state) k (stack (under_way (after m x).state)) ≡ left_in k m.state - offered k m.state x
  left_step k (Read a) on a₁ a₂ h = mild_left k (Read a) on tt h ∙ omega arith
  left_step k (Write a w) on a₁ a₂ h = mild_left k (Write a w) on tt h ∙ omega arith
  left_step k (Work n) on a₁ a₂ h = work_left k n (laws.order 65535 n) h
  left_step k (Supply true) on a₁ a₂ h = mild_left k (Supply true) on tt h ∙ omega arith
  left_step k (Supply false) on a₁ a₂ h = absurd (a₂ refl)
  left_step k Reset on a₁ a₂ h = absurd (a₁ refl)

  -- the supply stays on
  supply_after : (x : Step) → m.state.control.supply ≡ true → (x ≡ Supply false → ⊥) → (after m x).state.control.supply ≡ true
  supply_after x on b = ap (λ (d : Conditions). d.supply) (stepped x).0 ∙ go (supply_or_not x)
    where
      switched : (t : Bool) → x ≡ Supply t → (conditions_after (event_of (geometry m.state) m.state x) (conditions m.state)).supply ≡ true
      switched true e = ap (λ (y : Step). (conditions_after (event_of (geometry m.state) m.state y) (conditions m.state)).supply) e
      switched false e = absurd (b e)

      go : ((t : Bool) × (x ≡ Supply t)) ⊎ ((t : Bool) → x ≡ Supply t → ⊥) → (conditions_after (event_of (geometry m.state) m.state x) (conditions m.state)).supply ≡ true
      go (inl e) = switched e.0 e.1
      go (inr n) = supply_kept (geometry m.state) (caused x) n ∙ on

  -- the units that are told of, while it runs, are those that are offered, or what it lacks where that is less
  told_work : (k : Followed) (n : ℕ) → (65535 < n) ⊎ (n ≤ 65535) → (b : Bool) → runs_now k m.state.control.activity.running ≡ b
      → cond b (told_by (step_of m.state m.array (Work n)).answer) 0
      ≡ min (cond b (cond (leb n 65535) n 0) 0) (cond b (units_left (geometry m.state) m.state.control.activity.running) (suspended_left (geometry m.state) k m.state.control.activity.program m.state.control.activity.erase))
  unfolding accepted units_done
  told_work k n z false e = omega arith
  told_work k n (inl i) true e = rw (step_refused m.state m.array unrefused (Work n) refusal.WorkCount (count_bad (geometry m.state) n i), lt-leb n 65535 i) (omega arith)
  told_work k n (inr i) true e = rw (step_done m.state m.array unrefused (Work n) (count_good (geometry m.state) n i), le-leb n 65535 i)

  -- an answer that tells of no unit
  told_none : (k : Followed) (x : Step) → told_by (accepted m.state m.array x).answer ≡ 0 → told k m x ≡ 0
  unfolding step_of
  told_none k x e =
      of_cond (λ (n : ℕ). n ≡ 0) (runs_now k m.state.control.activity.running) _ 0
      (of_option (λ (y : Next). told_by y.answer ≡ 0) (refusal_of m.state (length m.array) x) (λ r. next m.state (Refused r)) _ e (λ r. refl)) refl

  told_here : (k : Followed) (x : Step) → told k m x ≡ min (offered k m.state x) (left_in k m.state)
  unfolding accepted
  told_here k (Read a) = omega (arith, told_none k (Read a) refl)
  told_here k (Write a w) = omega (arith, told_none k (Write a w) refl)
  told_here k (Work n) = told_work k n (laws.order 65535 n) (runs_now k m.state.control.activity.running) refl
  told_here k (Supply on) = omega (arith, told_none k (Supply on) refl)
  told_here k Reset = omega (arith, told_none k Reset refl)

-- what it lacks after such a step
pub left_after : (m : Machine) (k : Followed) (x : Step) → Good m → m.state.control.supply ≡ true → (x ≡ Reset → ⊥) → (x ≡ Supply false → ⊥) → 0 < left_in k m.state
    → left_in k (after m x).state ≡ left_in k m.state - offered k m.state x
left_after m k x o on a b h =
    left_here (after m x) (good_after m x o) k
    ∙ ap (λ (p : Part). lacks (geometry_of p) k (stack (under_way (after m x).state))) (kept_step m.state m.array x o.five).part
    ∙ left_step m o k x on a b h

less_left : (u a b : ℕ) → ltb b (u - a) ≡ ltb (a + b) u
less_left u a b = go (laws.order (a + b) u)
  where
    go : (a + b < u) ⊎ (u ≤ a + b) → ltb b (u - a) ≡ ltb (a + b) u
    go (inl i) = lt-ltb b (u - a) (omega arith) ∙ sym (lt-ltb (a + b) u i)
    go (inr i) = le-ltb b (u - a) (omega arith) ∙ sym (le-ltb (a + b) u i)

-- The progress sentence, from any state that is reached (reached_good), with the supply on and the operation that is followed under way, over any list without a reset and without a step that
-- switches the supply off: the units that the answers tell of, while it runs, come to what was offered while it ran, or to what it lacked where that is less; and it lives on exactly where less was
-- offered than it lacked. So a program ends at 1 unit, a buffer program at the number of its words and an erase at the size of its block, whatever is read, written, suspended and resumed meanwhile
pub progress : (k : Followed) (l : List Step) (m : Machine) → Good m → m.state.control.supply ≡ true → lives_in k m.state ≡ true → Lasting l
    → (told_all k m l ≡ min (offered_all k m l) (left_in k m.state)) × (lives_all k m l ≡ ltb (offered_all k m l) (left_in k m.state))
progress k [] m o on z h = (omega arith, sym z ∙ lives_here m o k)
progress k (x ∷ l) m o on z h = go (lives_in k (after m x).state) refl (λ y. progress k l (after m x) (good_after m x o) (supply_after m o x on h.1) y h.2)
  where
    some : 0 < left_in k m.state
    some = ltb-true 0 (left_in k m.state) (sym (lives_here m o k) ∙ z)

    left : left_in k (after m x).state ≡ left_in k m.state - offered k m.state x
    left = left_after m k x o on h.0 h.1 some

    go : (b : Bool) → lives_in k (after m x).state ≡ b
        → (lives_in k (after m x).state ≡ true → (told_all k (after m x) l ≡ min (offered_all k (after m x) l) (left_in k (after m x).state)) × (lives_all k (after m x) l ≡ ltb (offered_all k (after m x) l) (left_in k (after m x).state)))
        → (told k m x + cond b (told_all k (after m x) l) 0 ≡ min (offered k m.state x + cond b (offered_all k (after m x) l) 0) (left_in k m.state))
        × ((b && lives_all k (after m x) l) ≡ ltb (offered k m.state x + cond b (offered_all k (after m x) l) 0) (left_in k m.state))
    go true e f = let r = f e in
        (omega (arith, told_here m o k x, r.0, left), r.1 ∙ ap (λ (n : ℕ). ltb (offered_all k (after m x) l) n) left ∙ less_left (left_in k m.state) (offered k m.state x) (offered_all k (after m x) l))
    go false e f =
        let n = ltb-false 0 (left_in k (after m x).state) (sym (lives_here (after m x) (good_after m x o) k) ∙ e) in
        (omega (arith, told_here m o k x), sym (le-ltb (offered k m.state x + 0) (left_in k m.state) (omega (arith, left, n))))
