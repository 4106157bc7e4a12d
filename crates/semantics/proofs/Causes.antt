-- Why an event is a step's own: what the recorder's rule has tested where it comes to an event. The laws of what an
-- event is go by it, and not through the rule's cases again.
-- Assumes nothing.
use Rattle.std.specs.Prelude.{◌≡◌, refl, List, Bool, true, false, cond, ◌&&◌, ◌||◌, ℕ, ◌+◌, ◌-◌, ◌≤◌, ◌<◌, ◌%◌, ltb, leb, eqb, length, set, replicate}
use Rattle.std.proofs.Common.{◌∙◌, subst, arith, length-set, ltb-true, leb-true, lt-ltb, eqb-true}
use Rattle.std.proofs.lemmas.List.{length-replicate}
use Rattle.geometry.specs.declared.Geometry.{Geometry}
use Rattle.geometry.specs.Blocks.{Sound, words, blocks, location, block_of, start_of, size_of}
use Rattle.geometry.specs.Laws as laws
use Rattle.semantics.specs.declared.Step.{Step}
use Rattle.semantics.specs.declared.Step.TheVariants.{Read, Write, Work, Supply, Reset}
use Rattle.semantics.specs.Branches.{by_cond}
use Rattle.semantics.specs.Tests.{and_true_l, and_true_r, or_false_l, or_false_r, not_true}
use Rattle.semantics.specs.Numbers.{within}
use Rattle.semantics.specs.Entries.{any_runs, any_suspended}
use Rattle.semantics.specs.Recorder.{Operation, program, erase, buffer, Setup, no_setup, program_setup, erase_setup, lock_setup, count_setup, first_setup, words_setup, Event, nothing, supplied, was_reset, units, suspend, resume_program, resume_erase, end_program, end_erase, setup_is, unprotected_is, accept}
use Rattle.semantics.specs.Recorder.{Conditions, conditions_after, rule, is_program, is_erase, is_erase_of, is_any, block_in, Recorder, event, first_cycle_event, goes_on, cycle, acceptable}
use Rattle.semantics.specs.Recorder.{Command, command_of, suspend_command, resume_command, program_command, lock_command, erase_command, buffer_command, other_command}
use Rattle.semantics.specs.Demand.{ProtectionCommand, AcceptingCycle}
use Rattle.semantics.proofs.Events.{OnConditions, switches, resets, protects, leaves, changes}

module _ (g : Geometry) where
  -- n words from location l on lie in one block, and the buffer holds them
  abbrev pub Spans : ℕ → ℕ → Type 0
  Spans l n = (l < words g) × (l + n ≤ start_of g (block_of g l) + size_of g (block_of g l)) × (n ≤ 32)

  -- what holds while a set-up is pending
  abbrev pub Ready : Setup → Bool → ((Operation → Bool) → Bool) → Type 0
  Ready no_setup r h = Unit {0}
  Ready program_setup r h = (r ≡ false) × (h is_program ≡ false)
  Ready lock_setup r h = (r ≡ false) × (h is_program ≡ false)
  Ready erase_setup r h = (r ≡ false) × (h is_any ≡ false)
  Ready (count_setup b) r h = (r ≡ false) × (h is_program ≡ false) × (b < blocks g)
  Ready (first_setup b n) r h = (r ≡ false) × (h is_program ≡ false) × (b < blocks g) × (0 < n) × (n ≤ 32)
  Ready (words_setup l ws due) r h = (r ≡ false) × (h is_program ≡ false) × (due < length ws) × Spans l (length ws)

  -- an operation in block b is acceptable
  abbrev pub Open : Conditions → ((Operation → Bool) → Bool) → ℕ → Type 0
  Open d h b = (d.supply ≡ true) × (d.unprotected b ≡ true) × (h (is_erase_of g b) ≡ false)

  pub data Cause (d : Conditions) (r : Bool) (h : (Operation → Bool) → Bool) (s : Step) : Event → Type 0 where
    by_nothing : Cause d r h s nothing
    by_supply : (on : Bool) → s ≡ Supply on → Cause d r h s (supplied on)
    by_reset : s ≡ Reset → Cause d r h s was_reset
    by_work : (n : ℕ) → s ≡ Work n → Cause d r h s (units n)
    by_suspend : d.setup ≡ no_setup → Cause d r h s suspend
    by_resume_program : d.setup ≡ no_setup → r ≡ false → h is_program ≡ true → Cause d r h s resume_program
    by_resume_erase : d.setup ≡ no_setup → r ≡ false → h is_program ≡ false → h is_erase ≡ true → Cause d r h s resume_erase
    by_end_program : d.supply ≡ false → d.setup ≡ no_setup → r ≡ false → h is_program ≡ true → Cause d r h s end_program
    by_end_erase : d.supply ≡ false → d.setup ≡ no_setup → r ≡ false → h is_program ≡ false → h is_erase ≡ true → Cause d r h s end_erase
    by_setup : (t : Setup) → (Sound g → Ready d.setup r h → Ready t r h) → Cause d r h s (setup_is t)
    by_protection : (b : ℕ) (o : Bool) → ProtectionCommand g b o d.setup s → Cause d r h s (unprotected_is b o)
    by_accept : (k : Operation) (a w : ℕ) → s ≡ Write a w → AcceptingCycle g d.setup a w k → Open d h (block_in g k) → Cause d r h s (accept k)

  module _ (d : Conditions) (r : Bool) (h : (Operation → Bool) → Bool) where
    either : {s : Step} (b : Bool) {x y : Event} → (b ≡ true → Cause d r h s x) → (b ≡ false → Cause d r h s y) → Cause d r h s (cond b x y)
    either {s} b {x} {y} f k = by_cond (Cause d r h s) b x y f k

    ends : {s : Step} → Cause d r h s (setup_is no_setup)
    ends = by_setup no_setup (λ o y. tt)

    -- a set-up that begins where nothing runs and none that is p is suspended
    begins : {s : Step} (p : Operation → Bool) (t : Setup) → (Sound g → r ≡ false → h p ≡ false → Ready t r h) → Cause d r h s (cond (r || h p) nothing (setup_is t))
    begins p t f = either (r || h p) (λ e. by_nothing) (λ e. by_setup t (λ o y. f o (or_false_l r (h p) e) (or_false_r r (h p) e)))

    first_cause : (s : Step) → d.setup ≡ no_setup → (b : ℕ) → (Sound g → b < blocks g) → (c : Command) → Cause d r h s (first_cycle_event g d r h b c)
    first_cause s z b q suspend_command = either r (λ e. by_suspend z) (λ e. by_nothing)
    first_cause s z b q resume_command =
        either r (λ e. by_nothing) (λ x. either (h is_program) (λ y. either d.supply (λ e. by_resume_program z x y) (λ e. by_end_program e z x y))
        (λ y. either (h is_erase) (λ i. either d.supply (λ e. by_resume_erase z x y i) (λ e. by_end_erase e z x y i)) (λ e. by_nothing)))
    first_cause s z b q program_command = begins is_program program_setup (λ o x y. (x, y))
    first_cause s z b q lock_command = begins is_program lock_setup (λ o x y. (x, y))
    first_cause s z b q erase_command = begins is_any erase_setup (λ o x y. (x, y))
    first_cause s z b q buffer_command = begins is_program (count_setup b) (λ o x y. (x, y, q o))
    first_cause s z b q other_command = by_nothing

    open_at : (b : ℕ) → acceptable g d r h b ≡ true → Open d h b
    open_at b e = let x = and_true_r d.supply _ e in (and_true_l d.supply _ e, and_true_l (d.unprotected b) _ x, not_true _ (and_true_r (d.unprotected b) _ x))

    ready_at : {p : Setup} → d.setup ≡ p → Ready d.setup r h → Ready p r h
    ready_at q y = subst (λ (p : Setup). Ready p r h) q y

    -- a cycle of a load: the next is ready where it is right
    loads : {s : Step} (p : Setup) → d.setup ≡ p → (b : Bool) (t : Setup) → (b ≡ true → Sound g → Ready p r h → Ready t r h) → Cause d r h s (goes_on g d r h b t)
    loads p q b t f = either b (λ e. by_setup t (λ o y. f e o (ready_at q y))) (λ e. ends)

    module _ (a w : ℕ) (i : a < 16777216) where
      confirm_cause : (l : ℕ) (ws : List ℕ) → d.setup ≡ words_setup l ws 0 → Cause d r h (Write a w) (cycle g d r h (words_setup l ws 0) (location g a) (w % 256) w)
      confirm_cause l ws q =
          let b : ℕ = block_of g (location g a) in
          either ((eqb (w % 256) 0xD0 && eqb b (block_of g l)) && acceptable g d r h b)
          (λ e. let y = and_true_l (eqb (w % 256) 0xD0 && eqb b (block_of g l)) _ e in
          let z = eqb-true b (block_of g l) (and_true_r (eqb (w % 256) 0xD0) _ y) in
          by_accept (buffer l ws) a w refl (i, q, eqb-true (w % 256) 0xD0 (and_true_l (eqb (w % 256) 0xD0) _ y), z)
          (subst (Open d h) z (open_at b (and_true_r (eqb (w % 256) 0xD0 && eqb b (block_of g l)) _ e))))
          (λ e. ends)

      words_cause : (l : ℕ) (ws : List ℕ) (due : ℕ) → d.setup ≡ words_setup l ws due → (t : Bool) → eqb due 0 ≡ t → Cause d r h (Write a w) (cycle g d r h (words_setup l ws due) (location g a) (w % 256) w)
      words_cause l ws due q true e = let z = eqb-true due 0 e in rw z (confirm_cause l ws (rw z at q))
      words_cause l ws due q false e = rw e
          (loads (words_setup l ws due) q (within l (length ws) (location g a)) (words_setup l (set ws (location g a - l) w) (due - 1))
          (λ x o y. rw (length-set ws (location g a - l) w) (y.0, y.1, omega (arith, y.2), y.3)))

      cycle_cause : (p : Setup) → d.setup ≡ p → Cause d r h (Write a w) (cycle g d r h p (location g a) (w % 256) w)
      cycle_cause no_setup q = first_cause (Write a w) q (block_of g (location g a)) (λ o. laws.block_lt g o (location g a) (laws.location_lt g o a)) (command_of (w % 256))
      cycle_cause lock_setup q =
          either (eqb (w % 256) 0xD0) (λ e. by_protection (block_of g (location g a)) true (i, q, eqb-true (w % 256) 0xD0 e, refl))
          (λ x. either (eqb (w % 256) 0x01) (λ e. by_protection (block_of g (location g a)) false (i, q, eqb-true (w % 256) 0x01 e, refl)) (λ e. ends))
      cycle_cause program_setup q =
          let b : ℕ = block_of g (location g a) in
          either (acceptable g d r h b) (λ e. by_accept (program (location g a) w) a w refl (i, q, refl, refl) (open_at b e)) (λ e. ends)
      cycle_cause erase_setup q =
          let b : ℕ = block_of g (location g a) in
          either (eqb (w % 256) 0xD0 && acceptable g d r h b)
          (λ e. by_accept (erase b) a w refl (i, q, eqb-true (w % 256) 0xD0 (and_true_l (eqb (w % 256) 0xD0) _ e), refl) (open_at b (and_true_r (eqb (w % 256) 0xD0) _ e)))
          (λ e. ends)
      cycle_cause (count_setup b) q =
          loads (count_setup b) q (eqb (block_of g (location g a)) b && leb w 31) (first_setup b (w + 1))
          (λ e o y. (y.0, y.1, y.2, omega arith, omega (arith, leb-true w 31 (and_true_r (eqb (block_of g (location g a)) b) _ e))))
      cycle_cause (first_setup b n) q =
          let l : ℕ = location g a in
          loads (first_setup b n) q (eqb (block_of g l) b && leb (l + n) (start_of g b + size_of g b)) (words_setup l (set (replicate n 0xFFFF) 0 w) (n - 1))
          (λ e o y. let z : length (set (replicate n 0xFFFF) 0 w) ≡ n = length-set (replicate n 0xFFFF) 0 w ∙ length-replicate n 0xFFFF in
          let x = eqb-true (block_of g l) b (and_true_l _ _ e) in
          let f = leb-true (l + n) (start_of g b + size_of g b) (and_true_r (eqb (block_of g l) b) _ e) in
          rw z (y.0, y.1, omega (arith, y.3), (laws.location_lt g o a, rw x f, y.4)))
      cycle_cause (words_setup l ws due) q = words_cause l ws due q (eqb due 0) refl

    -- every event of the rule
    pub cause : (s : Step) → Cause d r h s (rule g d r h s)
    cause (Read a) = by_nothing
    cause (Write a w) = either (ltb a 16777216) (λ e. cycle_cause a w (ltb-true a 16777216 e) d.setup refl) (λ e. by_nothing)
    cause (Work n) = either (leb n 65535) (λ e. by_work n refl) (λ e. by_nothing)
    cause (Supply on) = by_supply on refl
    cause Reset = by_reset refl

  -- where an operation is accepted nothing runs, and no program is suspended; and at an erase nothing at all
  pub accept_free : (c : Setup) (r : Bool) (h : (Operation → Bool) → Bool) (a w : ℕ) (k : Operation) → AcceptingCycle g c a w k → Ready c r h → (r ≡ false) × (h (cond (is_erase k) is_any is_program) ≡ false)
  accept_free c r h a w (program l d) x y = let z : Ready program_setup r h = rw x.1 at y in (z.0, z.1)
  accept_free c r h a w (erase b) x y = let z : Ready erase_setup r h = rw x.1 at y in (z.0, z.1)
  accept_free c r h a w (buffer l ws) x y = let z : Ready (words_setup l ws 0) r h = rw x.1 at y in (z.0, z.1)

  -- supply is as it was, but after a step that switches it
  pub supply_kept : {d : Conditions} {r : Bool} {h : (Operation → Bool) → Bool} {s : Step} {v : Event} → Cause d r h s v → ((on : Bool) → s ≡ Supply on → ⊥) → (conditions_after v d).supply ≡ d.supply
  supply_kept {d} {r} {h} {s} {v} c n = go (changes g v).1 c
    where
      go : {v : Event} → OnConditions v → Cause d r h s v → (conditions_after v d).supply ≡ d.supply
      go (switches on) (by_supply _ e) = absurd (n on e)
      go resets c = refl
      go (protects b o) c = refl
      go (leaves v f) c = (f d).0

  pub cause_protection : {d : Conditions} {r : Bool} {h : (Operation → Bool) → Bool} {s : Step} {b : ℕ} {o : Bool} → Cause d r h s (unprotected_is b o) → ProtectionCommand g b o d.setup s
  cause_protection (by_protection b o x) = x

  pub cause_reset : {d : Conditions} {r : Bool} {h : (Operation → Bool) → Bool} {s : Step} → Cause d r h s was_reset → s ≡ Reset
  cause_reset (by_reset e) = e

  -- ---- the recorder's own events

  abbrev pub Caused : Recorder → Step → Event → Type 0
  Caused c s v = Cause c.conditions (any_runs c.journal) (λ p. any_suspended p c.journal) s v

  pub event_cause : (c : Recorder) (s : Step) (v : Event) → event g s c ≡ v → Caused c s v
  event_cause c s v e = subst (λ (x : Event). Caused c s x) e (cause c.conditions (any_runs c.journal) (λ p. any_suspended p c.journal) s)

  -- the recorder takes a step for a protection command exactly where it is one
  pub protection_event : (b : ℕ) (v : Bool) (c : Recorder) (s : Step) → ProtectionCommand g b v c.conditions.setup s → event g s c ≡ unprotected_is b v
  protection_event b true c (Write a w) x = rw (lt-ltb a 16777216 x.0, x.1, x.2, x.3)
  protection_event b false c (Write a w) x = rw (lt-ltb a 16777216 x.0, x.1, x.2, x.3)
  protection_event b v c (Read a) x = absurd x
  protection_event b v c (Work n) x = absurd x
  protection_event b v c (Supply on) x = absurd x
  protection_event b v c Reset x = absurd x
