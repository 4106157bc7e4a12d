-- The operations under way as a stack, the newest on top, with the flag that the top one runs; what each of the recorder's events makes of it; and
-- the invariant that ties it to the journal: every entry is apart from each operation that was under way when it was accepted. That is what lets
-- the units of a resumed erase come after programs that were accepted meanwhile.
-- Assumes nothing.
use Rattle.std.specs.Prelude.{◌≡◌, refl, List, [], ◌∷◌, map, Bool, true, false, cond, not, ℕ, ◌+◌, ◌-◌, ◌≤◌, ◌<◌, min, eqb, length}
use Rattle.std.proofs.Common.{sym, ap, ◌∙◌, subst, true≢false, arith, eqb-true}
use Rattle.std.proofs.Math.Path.{fun_ext}
use Rattle.std.proofs.lemmas.Bool.{false≢true, eqb-false}
use Rattle.geometry.specs.declared.Geometry.{Geometry}
use Rattle.geometry.specs.Laws as laws
use Rattle.geometry.specs.Blocks.{Sound, words, location, block_of, start_of, size_of}
use Rattle.semantics.specs.declared.Step.{Step}
use Rattle.semantics.specs.Branches.{by_cond}
pub use Rattle.semantics.specs.Tests.{or_false_l, or_false_r, and_true_l, and_true_r, not_true, not_false, or_lone}
use Rattle.semantics.specs.Layout.{inside, only}
use Rattle.semantics.specs.Entries as entries
use Rattle.semantics.specs.Entries.{Entry, entry, Live, live, resting, any_suspended, any_live, None}
use Rattle.semantics.specs.Recorder.{Operation, program, erase, buffer, Setup, no_setup, program_setup, erase_setup, lock_setup, count_setup, first_setup, words_setup, Event, nothing, supplied, was_reset, units, suspend, resume_program, resume_erase, end_program, end_erase, setup_is, unprotected_is, accept}
use Rattle.semantics.specs.Recorder.{Conditions, conditions_after, rule, len, kinds, is_program, is_erase, is_erase_of, is_any, is_none, block_in, event, journal_after}
use Rattle.semantics.specs.Demand.{AcceptingCycle, operation_of}
use Rattle.semantics.proofs.Events.{OnJournal, adds, works, rephases, changes}
pub use Rattle.semantics.proofs.Causes.{Spans, Ready}
use Rattle.semantics.proofs.Causes.{Cause, by_nothing, by_supply, by_reset, by_work, by_suspend, by_resume_program, by_resume_erase, by_end_program, by_end_erase, by_setup, by_protection, by_accept, cause, accept_free}

-- ---- the engine

pub data Engine : Type 0 where
  engine : Bool → List (Live Operation) → Engine

abbrev pub busy : Engine → Bool
busy (engine r s) = r

abbrev pub stack : Engine → List (Live Operation)
stack (engine r s) = s

abbrev pub held? : Engine → (Operation → Bool) → Bool
held? (engine r s) q = any_live q (resting r s)

abbrev pub some? : List (Live Operation) → Bool
some? [] = false
some? (l ∷ s) = true

module _ (g : Geometry) where
  abbrev pub engine_worked : ℕ → Engine → Engine
  engine_worked n (engine false s) = engine false s
  engine_worked n (engine true []) = engine true []
  engine_worked n (engine true (live k u ∷ s)) =
      cond (eqb (entries.given (kinds g) k u n) (len g k)) (engine false s) (engine true (live k (entries.given (kinds g) k u n) ∷ s))

  abbrev pub engine_after : Event → Engine → Engine
  engine_after nothing e = e
  engine_after (supplied true) e = e
  engine_after (supplied false) e = engine false (resting (busy e) (stack e))
  engine_after was_reset e = engine false []
  engine_after (units n) e = engine_worked n e
  engine_after suspend e = engine false (stack e)
  engine_after resume_program e = engine (some? (stack e)) (stack e)
  engine_after resume_erase e = engine (some? (stack e)) (stack e)
  engine_after end_program e = engine false (resting true (stack e))
  engine_after end_erase e = engine false (resting true (stack e))
  engine_after (setup_is s) e = e
  engine_after (unprotected_is b o) e = e
  engine_after (accept k) e = engine true (live k 0 ∷ stack e)

  abbrev pub words_worked : ℕ → Engine → (ℕ → ℕ) → ℕ → ℕ
  words_worked n (engine false s) m = m
  words_worked n (engine true []) m = m
  words_worked n (engine true (live k u ∷ s)) m = entries.advanced (kinds g) k u (min n (len g k - u)) m

  abbrev words_by : {v : Event} → OnJournal g v → Engine → (ℕ → ℕ) → ℕ → ℕ
  words_by (adds k) e m = m
  words_by (works n) e m = words_worked n e m
  words_by (rephases v f h q) e m = m

  -- none but work changes a word
  abbrev pub words_after_event : Event → Engine → (ℕ → ℕ) → ℕ → ℕ
  words_after_event v e m = words_by (changes g v).0 e m

-- ---- what the rules guarantee of an event

module _ (g : Geometry) where
  -- an operation lies in the array
  abbrev pub Lies : Operation → Type 0
  Lies (program l w) = l < words g
  Lies (erase b) = start_of g b < words g
  Lies (buffer l ws) = Spans g l (length ws)

  abbrev pub InK : Operation → ℕ → Type 0
  InK = entries.In (kinds g)

  -- an event that the rule comes to where c is the set-up
  pub record Ok (c : Setup) (r : Bool) (h : (Operation → Bool) → Bool) (v : Event) : Type 0 where
    pub conditions : Conditions
    pub step : Step
    pub pending : c ≡ conditions.setup
    pub cause : Cause g conditions r h step v

  pub rule_ok : (sound : Sound g) (d : Conditions) (r : Bool) (h : (Operation → Bool) → Bool) → Ready g d.setup r h → (s : Step) → Ok d.setup r h (rule g d r h s)
  rule_ok sound d r h y s = record { conditions = d; step = s; pending = refl; cause = cause g d r h s }

  program_in : (l w L : ℕ) → InK (program l w) L → block_of g L ≡ block_of g l
  program_in l w L i = ap (λ (x : ℕ). block_of g x) (omega arith)

  -- words that lie in one block
  pub buffer_in_lem : Sound g → (l : ℕ) (ws : List ℕ) → Spans g l (length ws) → (L : ℕ) → InK (buffer l ws) L → block_of g L ≡ block_of g l
  buffer_in_lem sound l ws x L i = let z = inside g sound l x.0 in only g sound (block_of g l) L (omega (arith, z, i)) (omega (arith, x.1, i))

  -- ---- the invariant

  -- at most two operations are under way, and then a program over an erase
  abbrev pub Order : List (Live Operation) → Type 0
  Order [] = Unit {0}
  Order (live k u ∷ []) = Unit {0}
  Order (live k u ∷ (live i v ∷ [])) = (is_erase k ≡ false) × (is_erase i ≡ true)
  Order (live k u ∷ (live i v ∷ (x ∷ s))) = ⊥

  abbrev pub Matches : Bool → List (Live Operation) → List (Entry Operation) → Type 0
  Matches = entries.Match (kinds g)

  -- the operations under way lie in the array
  abbrev pub Inside : List (Live Operation) → Type 0
  Inside [] = Unit {0}
  Inside (live k u ∷ s) = Lies k × Inside s

  -- and so do those of the journal
  abbrev pub Lying : List (Entry Operation) → Type 0
  Lying [] = Unit {0}
  Lying (e ∷ j) = Lies (operation_of g e) × Lying j

  pub record Sim (d : Conditions) (e : Engine) (j : List (Entry Operation)) : Type 0 where
    pub match : Matches (busy e) (stack e) j
    pub order : Order (stack e)
    pub inside : Inside (stack e)
    pub lying : Lying j
    pub ready : Ready g d.setup (busy e) (held? e)

  -- ---- each event keeps it

  order_tail : (k : Operation) (u : ℕ) (s : List (Live Operation)) → Order (live k u ∷ s) → Order s
  order_tail k u [] o = tt
  order_tail k u (live i v ∷ []) o = tt
  order_tail k u (live i v ∷ (x ∷ s)) o = absurd o

  order_units : (k : Operation) (u v : ℕ) (s : List (Live Operation)) → Order (live k u ∷ s) → Order (live k v ∷ s)
  order_units k u v [] o = tt
  order_units k u v (live i w ∷ []) o = o
  order_units k u v (live i w ∷ (x ∷ s)) o = absurd o

  abbrev Fit : Engine → List (Entry Operation) → Type 0
  Fit e j = Matches (busy e) (stack e) j × Order (stack e)

  fit_work : (n : ℕ) (e : Engine) (j : List (Entry Operation)) → Fit e j → Fit (engine_worked g n e) (journal_after g (units n) j)
  fit_work n (engine false s) j f = (rw (entries.idle_worked (kinds g) n f.0) f.0, f.1)
  fit_work n (engine true []) j f = absurd (entries.match_some (kinds g) f.0)
  fit_work n (engine true (live k u ∷ s)) j f =
      let v : ℕ = entries.given (kinds g) k u n in
      by_cond (λ (e : Engine). Fit e (journal_after g (units n) j)) (eqb v (len g k)) _ _ (λ x. (entries.match_done (kinds g) n (eqb-true v (len g k) x) f.0, order_tail k u s f.1))
      (λ x. let m = entries.live_less (kinds g) f.0 in (entries.match_more (kinds g) n (omega (arith, eqb-false v (len g k) x)) f.0, order_units k u v s f.1))

  match_suspend : (e : Engine) (j : List (Entry Operation)) → Matches (busy e) (stack e) j → Matches false (stack e) (journal_after g suspend j)
  match_suspend (engine false s) j m = rw (entries.idle_paused (kinds g) m) m
  match_suspend (engine true s) j m = entries.match_paused (kinds g) m

  order_resting : (r : Bool) (s : List (Live Operation)) → Order s → Order (resting r s)
  order_resting false s o = o
  order_resting true [] o = tt
  order_resting true (live k u ∷ s) o = order_tail k u s o

  -- supply off ends what runs
  match_unsupplied : (e : Engine) (j : List (Entry Operation)) → Matches (busy e) (stack e) j → Matches false (resting (busy e) (stack e)) (journal_after g (supplied false) j)
  match_unsupplied (engine false s) j m = rw (entries.idle_broken (kinds g) true is_none (entries.none_live (kinds g) s) m) m
  match_unsupplied (engine true []) j m = absurd (entries.match_some (kinds g) m)
  match_unsupplied (engine true (live k u ∷ s)) j m = entries.match_broken (kinds g) true is_none refl (entries.none_live (kinds g) s) m

  -- the newest of those under way is p, and no other is
  abbrev Top : (Operation → Bool) → List (Live Operation) → Type 0
  Top p [] = ⊥
  Top p (live k u ∷ s) = (p k ≡ true) × None p s

  -- where a program is suspended, it is that; and the erase is, where none is
  program_top : (e : Engine) → busy e ≡ false → held? e is_program ≡ true → Order (stack e) → Top is_program (stack e)
  program_top (engine true s) x y o = absurd (true≢false x)
  program_top (engine false []) x y o = absurd (false≢true y)
  program_top (engine false (live k u ∷ [])) x y o = (or_lone _ y, tt)
  program_top (engine false (live k u ∷ (live i v ∷ []))) x y o = (rw o.0, (rw o.1, tt))
  program_top (engine false (live k u ∷ (live i v ∷ (l ∷ s)))) x y o = absurd o

  erase_top : (e : Engine) → busy e ≡ false → held? e is_program ≡ false → held? e is_erase ≡ true → Order (stack e) → Top is_erase (stack e)
  erase_top (engine true s) x y z o = absurd (true≢false x)
  erase_top (engine false []) x y z o = absurd (false≢true z)
  erase_top (engine false (live k u ∷ [])) x y z o = (or_lone _ z, tt)
  erase_top (engine false (live k u ∷ (live i v ∷ []))) x y z o = absurd (true≢false (sym (ap not o.0) ∙ or_false_l (is_program k) _ y))
  erase_top (engine false (live k u ∷ (live i v ∷ (l ∷ s)))) x y z o = absurd o

  -- D0h resumes it, and without supply ends it
  match_resume : (p : Operation → Bool) (e : Engine) (j : List (Entry Operation)) → busy e ≡ false → Top p (stack e) → Matches (busy e) (stack e) j
      → Matches (some? (stack e)) (stack e) (map (entries.resumed p) j)
  match_resume p (engine true s) j x t m = absurd (true≢false x)
  match_resume p (engine false []) j x t m = absurd t
  match_resume p (engine false (live k u ∷ s)) j x t m = entries.match_resumed (kinds g) p t.0 t.1 m

  match_end : (p : Operation → Bool) (e : Engine) (j : List (Entry Operation)) → busy e ≡ false → Top p (stack e) → Matches (busy e) (stack e) j
      → Matches false (resting true (stack e)) (map (entries.broken_off false p) j)
  match_end p (engine true s) j x t m = absurd (true≢false x)
  match_end p (engine false []) j x t m = absurd t
  match_end p (engine false (live k u ∷ s)) j x t m = entries.match_broken (kinds g) false p t.0 t.1 m

  -- an erase covers words of its block alone
  erase_in : (sound : Sound g) (k : Operation) → is_erase k ≡ true → (L : ℕ) → InK k L → block_of g L ≡ block_in g k
  erase_in sound (program l d) e L i = absurd (false≢true e)
  erase_in sound (erase b) e L i = only g sound b L i.0 i.1
  erase_in sound (buffer l ws) e L i = absurd (false≢true e)

  fit_program : (sound : Sound g) (k : Operation) (e : Engine) (j : List (Entry Operation)) → is_erase k ≡ false → 0 < len g k → ((L : ℕ) → InK k L → block_of g L ≡ block_in g k)
      → busy e ≡ false → held? e is_program ≡ false → held? e (is_erase_of g (block_in g k)) ≡ false → Fit e j
      → Fit (engine_after g (accept k) e) (journal_after g (accept k) j)
  fit_program sound k (engine true s) j a b c x y z f = absurd (true≢false x)
  fit_program sound k (engine false []) j a b c x y z f = (entries.runs k 0 b tt f.0, tt)
  fit_program sound k (engine false (live i v ∷ [])) j a b c x y z f =
      let ei : is_erase i ≡ true = not_false _ (or_false_l (is_program i) _ y) in
      let ne : eqb (block_in g i) (block_in g k) ≡ false = rw ei at (or_false_l (is_erase_of g (block_in g k) i) _ z) in
      (entries.runs {s = live i v ∷ []} k 0 b ((λ L p q. eqb-false (block_in g i) (block_in g k) ne (sym (erase_in sound i ei L q) ∙ c L p)), tt) f.0, (a, ei))
  fit_program sound k (engine false (live i v ∷ (live i' v' ∷ []))) j a b c x y z f =
      absurd (true≢false (sym (ap not f.1.0) ∙ or_false_l (is_program i) _ y))
  fit_program sound k (engine false (live i v ∷ (live i' v' ∷ (l ∷ s)))) j a b c x y z f = absurd f.1

  fit_erase : (b : ℕ) (e : Engine) (j : List (Entry Operation)) → busy e ≡ false → held? e is_any ≡ false → 0 < size_of g b → Fit e j
      → Fit (engine_after g (accept (erase b)) e) (journal_after g (accept (erase b)) j)
  fit_erase b (engine true s) j x y z f = absurd (true≢false x)
  fit_erase b (engine false []) j x y z f = (entries.runs (erase b) 0 z tt f.0, tt)
  fit_erase b (engine false (live i v ∷ s)) j x y z f = absurd (true≢false y)

  ready_run : (s : Setup) (h : (Operation → Bool) → Bool) (r : Bool) (k : (Operation → Bool) → Bool) → Ready g s true h → Ready g s r k
  ready_run no_setup h r k y = tt
  ready_run program_setup h r k y = absurd (true≢false y.0)
  ready_run lock_setup h r k y = absurd (true≢false y.0)
  ready_run erase_setup h r k y = absurd (true≢false y.0)
  ready_run (count_setup b) h r k y = absurd (true≢false y.0)
  ready_run (first_setup b n) h r k y = absurd (true≢false y.0)
  ready_run (words_setup l ws due) h r k y = absurd (true≢false y.0)

  ready_work : (n : ℕ) (s : Setup) (e : Engine) → Ready g s (busy e) (held? e) → Ready g s (busy (engine_worked g n e)) (held? (engine_worked g n e))
  ready_work n s (engine false l) y = y
  ready_work n s (engine true []) y = y
  ready_work n s (engine true (live k u ∷ l)) y = ready_run s _ _ _ y

  ready_unsupplied : (s : Setup) (e : Engine) → Ready g s (busy e) (held? e) → Ready g s false (held? (engine false (resting (busy e) (stack e))))
  ready_unsupplied s (engine false l) y = y
  ready_unsupplied s (engine true l) y = ready_run s _ _ _ y

  -- where the journal lies in the array, so does what is under way
  match_inside : {r : Bool} {s : List (Live Operation)} {j : List (Entry Operation)} → Matches r s j → Lying j → Inside s
  match_inside entries.start x = tt
  match_inside (entries.done k u e a m) x = match_inside m x.1
  match_inside (entries.lost k u e a m) x = match_inside m x.1
  match_inside (entries.runs k u e a m) x = (x.0, match_inside m x.1)
  match_inside (entries.waits k u e a m) x = (x.0, match_inside m x.1)

  -- a journal whose entries keep their operations lies where it lay
  lying_map : (f : Entry Operation → Entry Operation) → ((k : Operation) (u : ℕ) (t : entries.Phase) → operation_of g (f (entry k u t)) ≡ k) → (j : List (Entry Operation)) → Lying j → Lying (map f j)
  lying_map f h [] x = tt
  lying_map f h (entry k u t ∷ j) x = (subst Lies (sym (h k u t)) x.0, lying_map f h j x.1)

  abbrev Added : {v : Event} → OnJournal g v → Type 0
  Added (adds k) = Lies k
  Added (works n) = Unit {0}
  Added (rephases v f h q) = Unit {0}

  lying_after : (v : Event) → Added (changes g v).0 → (j : List (Entry Operation)) → Lying j → Lying (journal_after g v j)
  lying_after v a j x = go (changes g v).0 a
    where
      go : {v : Event} (c : OnJournal g v) → Added c → Lying (journal_after g v j)
      go (adds k) a = (a, x)
      go (works n) a = lying_map (entries.worked (kinds g) n) (λ k u t. refl) j x
      go (rephases v f h q) a = rw (q j) (lying_map f (λ k u t. ap (operation_of g) (h k u t).0) j x)

  -- an operation that is accepted lies in the array and fits
  accepted_fits : (sound : Sound g) (c : Setup) (e : Engine) (j : List (Entry Operation)) (k : Operation) (a w : ℕ) → AcceptingCycle g c a w k → Ready g c (busy e) (held? e)
      → held? e (is_erase_of g (block_in g k)) ≡ false → Fit e j → Lies k × Fit (engine_after g (accept k) e) (journal_after g (accept k) j)
  accepted_fits sound c e j (program l d) a w x y z f =
      let o = accept_free g c (busy e) (held? e) a w (program l d) x y in
      (subst (λ (i : ℕ). i < words g) x.2 (laws.location_lt g sound a), fit_program sound (program l d) e j refl (omega arith) (program_in l d) o.0 o.1 z f)
  accepted_fits sound c e j (erase b) a w x y z f =
      let o = accept_free g c (busy e) (held? e) a w (erase b) x y in
      let i : (start_of g b ≤ location g a) × (location g a < start_of g b + size_of g b) = rw x.3 at (inside g sound (location g a) (laws.location_lt g sound a)) in
      (omega (arith, laws.location_lt g sound a), fit_erase b e j o.0 o.1 (omega arith) f)
  accepted_fits sound c e j (buffer l ws) a w x y z f =
      let o : Ready g (words_setup l ws 0) (busy e) (held? e) = rw x.1 at y in
      (o.3, fit_program sound (buffer l ws) e j refl o.2 (buffer_in_lem sound l ws o.3) o.0 o.1 z f)

  pub sim_do : (sound : Sound g) (d : Conditions) (e : Engine) (j : List (Entry Operation)) (v : Event) → Ok d.setup (busy e) (held? e) v → Sim d e j
      → Sim (conditions_after v d) (engine_after g v e) (journal_after g v j)
  sim_do sound d e j v o s = go v o.cause
    where
      -- what the set-up promises, where none is pending and as the rule saw it
      none : o.conditions.setup ≡ no_setup → (r : Bool) (h : (Operation → Bool) → Bool) → Ready g d.setup r h
      none z r h = rw (o.pending, z) tt

      ready : Ready g o.conditions.setup (busy e) (held? e)
      ready = rw o.pending at s.ready

      sim : (v : Event) → Added (changes g v).0 → Fit (engine_after g v e) (journal_after g v j) → Ready g (conditions_after v d).setup (busy (engine_after g v e)) (held? (engine_after g v e))
          → Sim (conditions_after v d) (engine_after g v e) (journal_after g v j)
      sim v a f y = let l = lying_after v a j s.lying in record { match = f.0; order = f.1; inside = match_inside f.0 l; lying = l; ready = y }

      go : (v : Event) → Cause g o.conditions (busy e) (held? e) o.step v → Sim (conditions_after v d) (engine_after g v e) (journal_after g v j)
      go v by_nothing = s
      go v (by_supply true z) = sim (supplied true) tt (s.match, s.order) s.ready
      go v (by_supply false z) = sim (supplied false) tt (match_unsupplied e j s.match, order_resting (busy e) (stack e) s.order) (ready_unsupplied d.setup e s.ready)
      go v (by_reset z) = sim was_reset tt (entries.match_all_broken (kinds g) s.match, tt) tt
      go v (by_work n z) = sim (units n) tt (fit_work n e j (s.match, s.order)) (ready_work n d.setup e s.ready)
      go v (by_suspend z) = sim suspend tt (match_suspend e j s.match, s.order) (none z _ _)
      go v (by_resume_program z x y) = sim resume_program tt (match_resume is_program e j x (program_top e x y s.order) s.match, s.order) (none z _ _)
      go v (by_resume_erase z x y w) = sim resume_erase tt (match_resume is_erase e j x (erase_top e x y w s.order) s.match, s.order) (none z _ _)
      go v (by_end_program i z x y) = sim end_program tt (match_end is_program e j x (program_top e x y s.order) s.match, order_resting true (stack e) s.order) (none z _ _)
      go v (by_end_erase i z x y w) = sim end_erase tt (match_end is_erase e j x (erase_top e x y w s.order) s.match, order_resting true (stack e) s.order) (none z _ _)
      go v (by_setup t f) = sim (setup_is t) tt (s.match, s.order) (f sound ready)
      go v (by_protection b p x) = sim (unprotected_is b p) tt (s.match, s.order) tt
      go v (by_accept k a w z x y) = let f = accepted_fits sound o.conditions.setup e j k a w x ready y.2 (s.match, s.order) in sim (accept k) f.0 f.1 tt

  -- ---- the words keep up with the journal

  abbrev pub After : List (Entry Operation) → ℕ → ℕ → ℕ
  After = entries.after (kinds g)

  words_worked_ok : (n : ℕ) (e : Engine) (j : List (Entry Operation)) (m : ℕ → ℕ) (L w : ℕ) → Matches (busy e) (stack e) j → m L ≡ After j L w
      → words_worked g n e m L ≡ After (journal_after g (units n) j) L w
  words_worked_ok n (engine false s) j m L w f h = rw (entries.idle_worked (kinds g) n f) h
  words_worked_ok n (engine true []) j m L w f h = absurd (entries.match_some (kinds g) f)
  words_worked_ok n (engine true (live k u ∷ s)) j m L w f h =
      ap (λ (x : ℕ). entries.advanced (kinds g) k u (min n (len g k - u)) (λ i. x) L) h
      ∙ sym (entries.after_worked (kinds g) n f L w)

  pub words_after_ok : (v : Event) (d : Conditions) (e : Engine) (j : List (Entry Operation)) (m : ℕ → ℕ) (L w : ℕ) → Sim d e j → m L ≡ After j L w
      → words_after_event g v e m L ≡ After (journal_after g v j) L w
  words_after_ok v d e j m L w s h = go (changes g v).0
    where
      go : {v : Event} (c : OnJournal g v) → words_by g c e m L ≡ After (journal_after g v j) L w
      go (adds k) = h ∙ sym (entries.effect_zero (kinds g) k L (After j L w))
      go (works n) = words_worked_ok n e j m L w s.match h
      go (rephases v f q i) = rw (i j) (h ∙ sym (entries.after_rephased (kinds g) f q j L w))

  -- what the journal says of running and suspended operations is what the engine says
  held_same : (e : Engine) (j : List (Entry Operation)) → Matches (busy e) (stack e) j → (λ q. any_suspended q j) ≡ held? e
  held_same (engine r s) j m = fun_ext (λ q. entries.match_held (kinds g) q m)

  pub rules_agree : (s : Step) (d : Conditions) (e : Engine) (j : List (Entry Operation)) → Sim d e j
      → event g s (record { conditions = d; journal = j }) ≡ rule g d (busy e) (held? e) s
  rules_agree s d e j x =
      ap (λ (r : Bool). rule g d r (λ p. any_suspended p j) s) (entries.match_runs (kinds g) x.match)
      ∙ ap (λ (h : (Operation → Bool) → Bool). rule g d (busy e) h s) (held_same e j x.match)
