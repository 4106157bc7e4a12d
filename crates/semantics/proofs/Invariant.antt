-- The invariant behind the theorem, and that every step keeps it: the device and the recorder agree on the conditions and on what is under way, and
-- the words are the journal's. So the state is well formed on the way and the array as long as it was, and of all refusals only 3 and 4 can come.
-- Assumes nothing.
use Rattle.std.specs.Prelude.{◌≡◌, List, [], ◌∷◌, Bool, ◌⊎◌, ℕ, ◌≤◌, ◌<◌, ◌%◌, length, get_or, Some, None}
use Rattle.std.proofs.Math.Path.{refl, ap, fun_ext}
use Rattle.std.proofs.Common.{sym, ◌∙◌, subst, subst₂, true≢false, inl, inr, arith, length-set, lt-ltb, le-ltb, le-leb, eq-eqb}
use Rattle.std.proofs.Math.Bool.{true, false}
use Rattle.std.proofs.lemmas.Bool.{lt-leb}
use Rattle.refusal.specs.declared.Refusal.{Refusal}
use Rattle.refusal.specs.declared.Refusal.TheVariants as refusal
use Rattle.geometry.specs.declared.Part.{Part}
use Rattle.geometry.specs.declared.Geometry.{Geometry}
use Rattle.geometry.specs.Blocks.{Sound, geometry_of, words, location, block_of}
use Rattle.geometry.specs.Laws as laws
use Rattle.protection.specs.Words.{spare_zero}
use Rattle.protection.specs.Laws as protection
use Rattle.semantics.specs.declared.Setup.{Setup}
use Rattle.semantics.specs.declared.Setup.TheVariants as setup
use Rattle.semantics.specs.declared.Running.{Running}
use Rattle.semantics.specs.declared.Running.TheVariants as running
use Rattle.semantics.specs.declared.Control.{Control}
use Rattle.semantics.specs.declared.State.{State}
use Rattle.semantics.specs.declared.Step.{Step}
use Rattle.semantics.specs.declared.Step.TheVariants.{Read, Write, Work, Supply, Reset}
use Rattle.semantics.specs.declared.Answer.TheVariants.{Refused}
use Rattle.semantics.specs.declared.Next.{Next}
use Rattle.semantics.specs.declared.Place.{Place}
use Rattle.semantics.specs.declared.View.{View}
use Rattle.semantics.specs.Branches.{by_test}
use Rattle.semantics.proofs.Cycles.{nothing_running}
use Rattle.semantics.proofs.Refusals.{of_step, of_array}
use Rattle.semantics.specs.State.{geometry, set_activity, with_running, with_supply, with_buffer, power_up, runs}
use Rattle.semantics.specs.Supply.{ended, ended_if_unsupplied, switched}
use Rattle.semantics.proofs.Supplied.{of_switched, switched_supplied, cycle_supplied, idle_supplied, on_supplied, unsupplied_idle}
use Rattle.semantics.specs.View.{place_of, view_at, with_view}
use Rattle.semantics.specs.Register.{reserved_zero}
use Rattle.semantics.proofs.RegisterBits.{default_zero, cycle_zero}
use Rattle.semantics.specs.WellFormed.{well_formed, activity_formed, runs_supplied}
use Rattle.semantics.specs.Writing.{cycle_at, written, written_at}
use Rattle.semantics.specs.Working.{units_done, running_after, buffer_after, worked_on, worked, worked_array}
use Rattle.semantics.specs.Arrays.{array_length, array_word}
use Rattle.semantics.specs.Card.{given, card}
use Rattle.semantics.specs.Split.{step_refusal}
use Rattle.semantics.proofs.Split.{reset_refused, refused_first, address_good, address_bad, count_good, count_bad}
use Rattle.semantics.specs.Steps.{refusal_of, next, switched_to, accepted, accepted_array, step_of, array_of, Machine, after, after_all, fresh}
use Rattle.semantics.specs.Entries as entries
use Rattle.semantics.specs.Entries.{Entry}
use Rattle.semantics.specs.Recorder as recorder
use Rattle.semantics.specs.Recorder.{Operation, Event, nothing, supplied, was_reset, Conditions, conditions_after, Recorder, beginning, recorded, recorded_all, event, journal_after}
use Rattle.semantics.proofs.Engine.{busy, held?, engine_after, words_after_event, Ready, Ok, rule_ok, Sim, sim_do, words_after_ok, rules_agree, After}
use Rattle.semantics.proofs.Follows.{conditions, under_way, setup_of, event_of, Together, Lacking, Follows, follows_written, under_way_worked, under_way_off, words_under_way}
use Rattle.semantics.proofs.Formed.{together, lacking, formed}
use Rattle.semantics.specs.Buffer.{zero_empty}
use Rattle.semantics.specs.Spare.{Spared}
use Rattle.semantics.proofs.Spare.{length_empty, length_loaded, length_held, length_after, buffer_on, spared_written, spared_worked, spared_ended}

-- ---- refusals

-- a state that is well formed, on an array of its part's length, is refused for neither: a reset of it is not refused
pub state_good : (s : State) (n : ℕ) → n ≡ words (geometry s) → well_formed s ≡ true → refusal_of s n Reset ≡ None
unfolding refusal_of
state_good s n h w = rw (reset_refused (geometry s) (well_formed s) n, eq-eqb n (words (geometry s)) h, w)

module _ (s : State) (xs : List ℕ) (good : refusal_of s (length xs) Reset ≡ None) where
  -- so a step is refused for its own numbers
  own : (x : Step) → refusal_of s (length xs) x ≡ step_refusal (geometry s) x
  unfolding refusal_of
  own x = refused_first (geometry s) (well_formed s) (length xs) x ∙ rw good

  pub step_done : (x : Step) → step_refusal (geometry s) x ≡ None → step_of s xs x ≡ accepted s xs x
  unfolding step_of
  step_done x h = rw (own x, h)

  pub step_refused : (x : Step) (e : Refusal) → step_refusal (geometry s) x ≡ Some e → step_of s xs x ≡ next s (Refused e)
  unfolding step_of
  step_refused x e h = rw (own x, h)

  pub array_done : (x : Step) → step_refusal (geometry s) x ≡ None → array_of s xs x ≡ accepted_array s xs x
  unfolding array_of
  array_done x h = rw (own x, h)

  pub array_refused : (x : Step) (e : Refusal) → step_refusal (geometry s) x ≡ Some e → array_of s xs x ≡ xs
  unfolding array_of
  array_refused x e h = rw (own x, h)

-- ---- the array

-- no step changes the array's length
pub length_accepted : (s : State) (xs : List ℕ) (x : Step) → length (accepted_array s xs x) ≡ length xs
unfolding accepted_array worked_array
length_accepted s xs (Read a) = refl
length_accepted s xs (Write a w) = refl
length_accepted s xs (Work n) = array_length _ _ _ _ xs
length_accepted s xs (Supply on) = refl
length_accepted s xs Reset = refl

pub length_kept : (s : State) (xs : List ℕ) (x : Step) → length (array_of s xs x) ≡ length xs
length_kept s xs x = of_array (λ (l : List ℕ). length l ≡ length xs) s xs x (length_accepted s xs x) refl

-- ---- each step is an event, in the state and in every word

-- the words of an array
abbrev pub words_of : List ℕ → ℕ → ℕ
words_of xs L = get_or xs L 0

-- what a step makes of a state and an array is what the event v makes of them
abbrev pub Steps : Event → State → List ℕ → State → List ℕ → Type 0
Steps v s xs t ys =
    (conditions t ≡ conditions_after v (conditions s)) × (under_way t ≡ engine_after (geometry s) v (under_way s))
    × ((L : ℕ) → L < length xs → words_of ys L ≡ words_after_event (geometry s) v (under_way s) (words_of xs) L)

abbrev Steps-of : Event → State → List ℕ → Step → Type 0
Steps-of v s xs x = Steps v s xs (step_of s xs x).state (array_of s xs x)

-- the pieces of the invariant that a step asks for
pub record Fit (s : State) : Type 0 where
  pub alone : Together s.control.activity.running s.control.activity.program s.control.activity.erase
  pub lacks : Lacking (geometry s) s.buffer s.control.activity.running
  pub ready : Ready (geometry s) (setup_of s.buffer s.control.activity.setup) (busy (under_way s)) (held? (under_way s))
  pub five : length s.unprotected ≡ 5
  pub thirty_two : length s.buffer ≡ 32

-- a load has the buffer to itself: where something runs, none stands, and where nothing runs, work leaves the buffer
setup_stays : (g : Geometry) (c : Setup) (r t : Running) (bs : List ℕ) (h : (Operation → Bool) → Bool) → Ready g (setup_of bs c) (runs r) h → setup_of (buffer_after r t bs) c ≡ setup_of bs c
unfolding buffer_after
setup_stays g c running.Idle t bs h y = refl
setup_stays g c (running.Program l w) t bs h y = refl
setup_stays g c (running.Erase b n) t bs h y = refl
setup_stays g setup.Nothing (running.Buffer l n d) t bs h y = refl
setup_stays g setup.Program (running.Buffer l n d) t bs h y = refl
setup_stays g setup.Erase (running.Buffer l n d) t bs h y = refl
setup_stays g setup.Lock (running.Buffer l n d) t bs h y = refl
setup_stays g (setup.BufferCount b) (running.Buffer l n d) t bs h y = refl
setup_stays g (setup.BufferFirst b i) (running.Buffer l n d) t bs h y = refl
setup_stays g (setup.BufferWords a i k) (running.Buffer l n d) t bs h y = absurd (true≢false y.0)

no_conditions_yet : (s : State) → conditions (with_supply (power_up s.part) s.control.supply) ≡ conditions_after was_reset (conditions s)
unfolding power_up
no_conditions_yet s = ap (λ (u : ℕ → Bool). record { supply = s.control.supply; unprotected = u; setup = recorder.no_setup }) (fun_ext (λ b. protection.all_none b))

module _ (s : State) (xs : List ℕ) (good : refusal_of s (length xs) Reset ≡ None) (fit : Fit s) where
  sound : Sound (geometry s)
  sound = laws.sound s.part

  -- a refused step is no event
  refused_nothing : (x : Step) (e : Refusal) → step_refusal (geometry s) x ≡ Some e → Steps-of nothing s xs x
  refused_nothing x e h = rw (step_refused s xs good x e h, array_refused s xs good x e h) (refl, refl, λ L k. refl)

  -- a step that is not refused, and changes no word
  quiet : (v : Event) (x : Step) (t : State) → step_refusal (geometry s) x ≡ None → (accepted s xs x).state ≡ t → accepted_array s xs x ≡ xs → Follows (geometry s) v s t
      → Steps-of v s xs x
  quiet v x t h q a f =
      rw (step_done s xs good x h, array_done s xs good x h, q, a) (f.0, f.1, λ L k. ap (λ (m : ℕ → ℕ). m L) (sym (f.2 (words_of xs))))

  steps_write : (a w : ℕ) → (a < 16777216) ⊎ (16777216 ≤ a) → Steps-of (event_of (geometry s) s (Write a w)) s xs (Write a w)
  unfolding given card step_refusal accepted accepted_array written
  steps_write a w (inl h) =
      let k : block_of (geometry s) (location (geometry s) a) < 259 = laws.part_block_lt s.part (location (geometry s) a) (laws.location_lt (geometry s) sound a) in
      rw (lt-ltb a 16777216 h)
      (quiet (recorder.cycle (geometry s) (conditions s) (busy (under_way s)) (held? (under_way s)) (setup_of s.buffer s.control.activity.setup) (location (geometry s) a) (w % 256) w) (Write a w)
      (written s a w) (address_good (geometry s) sound a h) refl refl (follows_written s fit.alone fit.ready fit.five fit.thirty_two a w k))
  steps_write a w (inr h) = rw (le-ltb a 16777216 h) (refused_nothing (Write a w) refusal.Address (address_bad (geometry s) a h))

  steps_read : (a : ℕ) → (a < 16777216) ⊎ (16777216 ≤ a) → Steps-of nothing s xs (Read a)
  unfolding given card step_refusal accepted accepted_array
  steps_read a (inl h) = quiet nothing (Read a) s (address_good (geometry s) sound a h) refl refl (refl, refl, λ m. refl)
  steps_read a (inr h) = refused_nothing (Read a) refusal.Address (address_bad (geometry s) a h)

  steps_work : (n : ℕ) → (65535 < n) ⊎ (n ≤ 65535) → Steps-of (event_of (geometry s) s (Work n)) s xs (Work n)
  unfolding given card step_refusal accepted accepted_array worked_on worked worked_array
  steps_work n (inl h) = rw (lt-leb n 65535 h) (refused_nothing (Work n) refusal.WorkCount (count_bad (geometry s) n h))
  steps_work n (inr h) =
      rw (le-leb n 65535 h, step_done s xs good (Work n) (count_good (geometry s) n h), array_done s xs good (Work n) (count_good (geometry s) n h)) (
        ap (λ (c : recorder.Setup). record { supply = s.control.supply; unprotected = (conditions s).unprotected; setup = c })
            (setup_stays (geometry s) s.control.activity.setup s.control.activity.running (running_after (geometry s) s.control.activity.running (units_done (geometry s) s.control.activity.running n)) s.buffer
            (held? (under_way s)) fit.ready),
        under_way_worked (geometry s) s.buffer n s.control.activity.running s.control.activity.program s.control.activity.erase fit.lacks fit.alone,
        λ L k. array_word _ _ _ _ xs L k ∙ words_under_way (geometry s) s.buffer n s.control.activity.running s.control.activity.program s.control.activity.erase (words_of xs) L,
      )

  follows_switched : (on : Bool) → Follows (geometry s) (supplied on) s (switched_to s on)
  unfolding switched_to switched ended_if_unsupplied ended
  follows_switched true = rw (buffer_on s.control.activity.running s.buffer) (refl, refl, λ m. refl)
  follows_switched false = (
    ap (λ (c : recorder.Setup). record { supply = false; unprotected = (conditions s).unprotected; setup = c })
        (setup_stays (geometry s) s.control.activity.setup s.control.activity.running running.Idle s.buffer (held? (under_way s)) fit.ready),
    under_way_off (geometry s) s.buffer s.control.activity.running s.control.activity.program s.control.activity.erase fit.alone,
    λ m. refl,
  )

  -- every step is the event that the recorder's rule makes of it
  pub steps : (x : Step) → Steps-of (event_of (geometry s) s x) s xs x
  unfolding given card step_refusal accepted accepted_array power_up
  steps (Read a) = steps_read a (laws.order a 16777216)
  steps (Write a w) = steps_write a w (laws.order a 16777216)
  steps (Work n) = steps_work n (laws.order 65535 n)
  steps (Supply on) = quiet (supplied on) (Supply on) (switched_to s on) refl refl refl (follows_switched on)
  steps Reset = quiet was_reset Reset (with_supply (power_up s.part) s.control.supply) refl refl refl (no_conditions_yet s, refl, λ m. refl)

  -- and leaves no word in a place of the buffer that is not in use
  spared_accepted : (x : Step) → Spared s.control.activity s.buffer → Spared (accepted s xs x).state.control.activity (accepted s xs x).state.buffer
  unfolding accepted switched_to switched ended_if_unsupplied ended written worked_on worked power_up
  spared_accepted (Read a) h = h
  spared_accepted (Write a w) h = spared_written s fit.alone fit.ready (place_of (geometry s) a) w h
  spared_accepted (Work n) h =
      spared_worked (geometry s) s.control.activity.setup s.control.activity.running s.control.activity.program s.control.activity.erase
      (units_done (geometry s) s.control.activity.running n) s.buffer h
  spared_accepted (Supply true) h = rw (buffer_on s.control.activity.running s.buffer) h
  spared_accepted (Supply false) h = spared_ended s.control.activity.setup s.control.activity.running s.control.activity.program s.control.activity.erase s.buffer h
  spared_accepted Reset h = zero_empty _

  pub spared_step : (x : Step) → Spared s.control.activity s.buffer → Spared (step_of s xs x).state.control.activity (step_of s xs x).state.buffer
  spared_step x h =
      of_step (λ (y : Next). Spared y.state.control.activity y.state.buffer) s xs x (spared_accepted x h) (λ e r. h)

-- ---- what no step changes

-- the part, the banks' number, the protection words' number, and their spare bits where these are zero, the buffer's length, the register's reserved bits where these are zero,
-- and that something runs only with supply on
pub record Kept (s t : State) : Type 0 where
  pub part : t.part ≡ s.part
  pub sixteen : length s.banks ≡ 16 → length t.banks ≡ 16
  pub five : length t.unprotected ≡ length s.unprotected
  pub spare : spare_zero s.unprotected ≡ true → spare_zero t.unprotected ≡ true
  pub thirty_two : length s.buffer ≡ 32 → length t.buffer ≡ 32
  pub reserved : reserved_zero s.control.configuration ≡ true → reserved_zero t.control.configuration ≡ true
  pub powered : runs_supplied s.control ≡ true → runs_supplied t.control ≡ true

kept : (s t : State) → t.part ≡ s.part → t.banks ≡ s.banks → t.unprotected ≡ s.unprotected → t.control.configuration ≡ s.control.configuration → (length s.buffer ≡ 32 → length t.buffer ≡ 32) → (runs_supplied s.control ≡ true → runs_supplied t.control ≡ true) → Kept s t
kept s t p b u r c o = record { part = p; sixteen = λ h. ap length b ∙ h; five = ap length u; spare = λ h. ap spare_zero u ∙ h; thirty_two = c; reserved = λ h. ap reserved_zero r ∙ h; powered = o }

kept_view : (s : State) (p : Place) (v : View) (bs : List ℕ) → (length s.buffer ≡ 32 → length bs ≡ 32) → (reserved_zero s.control.configuration ≡ true → reserved_zero v.control.configuration ≡ true)
    → (runs_supplied s.control ≡ true → runs_supplied v.control ≡ true) → Kept s (with_buffer (with_view s p v) bs)
kept_view s p v bs c r o = record {
  part = refl;
  sixteen = λ h. length-set s.banks p.bank (record { mode = v.mode }) ∙ h;
  five = protection.with_length s.unprotected p.block v.unprotected;
  spare = protection.with_spare s.unprotected p.block v.unprotected;
  thirty_two = c;
  reserved = r;
  powered = o;
}

-- work leaves nothing running where nothing ran
idle_after : (g : Geometry) (r : Running) (m : ℕ) → runs r ≡ false → runs (running_after g r m) ≡ false
unfolding running_after
idle_after g r m h = rw (nothing_running r h)

worked_supplied : (g : Geometry) (c : Control) (m : ℕ) → runs_supplied c ≡ true → runs_supplied (set_activity c (with_running c.activity (running_after g c.activity.running m))) ≡ true
worked_supplied g c m h =
    by_test c.supply (λ e. on_supplied _ e)
    (λ e. idle_supplied _ (idle_after g c.activity.running m (unsupplied_idle c h e)))

kept_accepted : (s : State) (xs : List ℕ) (x : Step) → length s.unprotected ≡ 5 → Kept s (accepted s xs x).state
unfolding accepted switched_to ended written written_at worked_on worked power_up
kept_accepted s xs (Read a) h = kept s s refl refl refl refl (λ z. z) (λ z. z)
kept_accepted s xs (Write a w) h =
    kept_view s (place_of (geometry s) a) (cycle_at s (place_of (geometry s) a) w) (written_at s (place_of (geometry s) a) w).buffer
    (λ z. length_held s.control.activity.program (cycle_at s (place_of (geometry s) a) w).control.activity _
    (length_loaded (geometry s) s.control.activity.setup (place_of (geometry s) a) w (cycle_at s (place_of (geometry s) a) w).control.activity.running s.buffer z))
    (cycle_zero (geometry s) (view_at s (place_of (geometry s) a)) s.control.activity.setup (place_of (geometry s) a) w)
    (cycle_supplied (geometry s) (view_at s (place_of (geometry s) a)) s.control.activity.setup (place_of (geometry s) a) w)
kept_accepted s xs (Work n) h = kept s (worked s n) refl refl refl refl (length_after s.control.activity.running (worked s n).control.activity.running s.buffer)
    (worked_supplied (geometry s) s.control (units_done (geometry s) s.control.activity.running n))
kept_accepted s xs (Supply on) h = kept s (switched_to s on) refl refl refl (of_switched (λ (c : Control). c.configuration ≡ s.control.configuration) s.control on refl refl) (length_after s.control.activity.running (switched_to s on).control.activity.running s.buffer) (λ z. switched_supplied s.control on)
kept_accepted s xs Reset h = record { part = refl; sixteen = λ z. refl; five = protection.all_length ∙ sym h; spare = λ z. protection.all_spare; thirty_two = λ z. length_empty; reserved = λ z. default_zero s.part; powered = λ z. idle_supplied _ refl }

pub kept_step : (s : State) (xs : List ℕ) (x : Step) → length s.unprotected ≡ 5 → Kept s (step_of s xs x).state
kept_step s xs x h =
    of_step (λ (y : Next). Kept s y.state) s xs x (kept_accepted s xs x h)
    (λ e r. kept s s refl refl refl refl (λ z. z) (λ z. z))

-- ---- the invariant: the device and the recorder agree, and the words are the journal's

pub record Agree (p : Part) (xs₀ : List ℕ) (m : Machine) (c : Recorder) : Type 0 where
  pub part : m.state.part ≡ p
  pub size : length m.array ≡ words (geometry_of p)
  pub five : length m.state.unprotected ≡ 5
  pub spare : spare_zero m.state.unprotected ≡ true
  pub thirty_two : length m.state.buffer ≡ 32
  pub spared : Spared m.state.control.activity m.state.buffer
  pub reserved : reserved_zero m.state.control.configuration ≡ true
  pub powered : runs_supplied m.state.control ≡ true
  pub same : conditions m.state ≡ c.conditions
  pub sim : Sim (geometry_of p) (conditions m.state) (under_way m.state) c.journal
  pub word : (L : ℕ) → L < words (geometry_of p) → words_of m.array L ≡ After (geometry_of p) c.journal L (words_of xs₀ L)

-- a state that agrees is well formed, so that 1 and 2 do not come
pub agree_formed : (p : Part) (xs₀ : List ℕ) (m : Machine) (c : Recorder) → Agree p xs₀ m c → well_formed m.state ≡ true
unfolding well_formed
agree_formed p xs₀ m c a =
    let s : State = m.state in
    let f : activity_formed (geometry_of p) s.control.activity ≡ true =
    formed (geometry_of p) s.buffer (laws.sound p) (conditions s) s.control.activity.setup s.control.activity.running s.control.activity.program s.control.activity.erase c.journal refl a.sim
    in
    rw (a.part, f, a.spare, a.spared, a.reserved, a.powered)

agree_good : (p : Part) (xs₀ : List ℕ) (m : Machine) (c : Recorder) → Agree p xs₀ m c → refusal_of m.state (length m.array) Reset ≡ None
agree_good p xs₀ m c a = state_good m.state (length m.array) (a.size ∙ ap (λ (q : Part). words (geometry_of q)) (sym a.part)) (agree_formed p xs₀ m c a)

-- the part of the state itself
agree_own : (p : Part) (xs₀ : List ℕ) (m : Machine) (c : Recorder) → Agree p xs₀ m c → Agree m.state.part xs₀ m c
agree_own p xs₀ m c a = subst (λ (q : Part). Agree q xs₀ m c) (sym a.part) a

-- what a step asks for, from the agreement
pub agree_fit : (s : State) (d : Conditions) (j : List (Entry Operation)) → length s.unprotected ≡ 5 → length s.buffer ≡ 32 → Sim (geometry s) (conditions s) (under_way s) j → Fit s
agree_fit s d j h i sim = record {
  alone = together (geometry s) s.buffer s.control.activity.running s.control.activity.program s.control.activity.erase sim.order;
  lacks = lacking (geometry s) s.buffer s.control.activity.running s.control.activity.program s.control.activity.erase j sim.match;
  ready = sim.ready;
  five = h;
  thirty_two = i;
}

-- one step keeps the agreement
agree_step : (xs₀ : List ℕ) (m : Machine) (c : Recorder) (x : Step) → Agree m.state.part xs₀ m c → Agree m.state.part xs₀ (after m x) (recorded (geometry m.state) c x)
agree_step xs₀ m c x a =
    subst (λ (e : Event). Agree m.state.part xs₀ (after m x) (record { conditions = conditions_after e c.conditions; journal = journal_after g e c.journal })) (sym q)
    (record {
      part = k.part;
      size = length_kept s xs x ∙ a.size;
      five = k.five ∙ a.five;
      spare = k.spare a.spare;
      thirty_two = k.thirty_two a.thirty_two;
      spared = spared_step s xs (agree_good s.part xs₀ m c a) i x a.spared;
      reserved = k.reserved a.reserved;
      powered = k.powered a.powered;
      same = f.0 ∙ ap (λ (d : Conditions). conditions_after v d) a.same;
      sim = subst₂ (λ d e. Sim g d e (journal_after g v c.journal)) (sym f.0) (sym f.1) (sim_do g (laws.sound s.part) (conditions s) (under_way s) c.journal v o a.sim);
      word = λ L h. f.2 L (omega (arith, a.size)) ∙ words_after_ok g v (conditions s) (under_way s) c.journal (words_of xs) L (words_of xs₀ L) a.sim (a.word L h);
    })
  where
    s : State
    s = m.state

    xs : List ℕ
    xs = m.array

    g : Geometry
    g = geometry m.state

    v : Event
    v = event_of (geometry m.state) m.state x

    o : Ok (geometry m.state) (setup_of m.state.buffer m.state.control.activity.setup) (busy (under_way m.state)) (held? (under_way m.state)) v
    o = rule_ok (geometry m.state) (laws.sound m.state.part) (conditions m.state) (busy (under_way m.state)) (held? (under_way m.state)) a.sim.ready x

    i : Fit m.state
    i = agree_fit m.state c.conditions c.journal a.five a.thirty_two a.sim

    f : Steps-of v m.state m.array x
    f = steps m.state m.array (agree_good m.state.part xs₀ m c a) i x

    k : Kept m.state (step_of m.state m.array x).state
    k = kept_step m.state m.array x a.five

    q : event (geometry m.state) x c ≡ v
    q =
        ap (λ (d : Conditions). event (geometry m.state) x (record { conditions = d; journal = c.journal })) (sym a.same)
        ∙ rules_agree (geometry m.state) x (conditions m.state) (under_way m.state) c.journal a.sim

pub agree_after : (p : Part) (xs₀ : List ℕ) (m : Machine) (c : Recorder) (x : Step) → Agree p xs₀ m c → Agree p xs₀ (after m x) (recorded (geometry_of p) c x)
agree_after p xs₀ m c x a =
    subst (λ (q : Part). Agree q xs₀ (after m x) (recorded (geometry_of q) c x)) a.part (agree_step xs₀ m c x (agree_own p xs₀ m c a))

pub agree_all : (p : Part) (xs₀ : List ℕ) (l : List Step) (m : Machine) (c : Recorder) → Agree p xs₀ m c → Agree p xs₀ (after_all m l) (recorded_all (geometry_of p) c l)
agree_all p xs₀ [] m c a = a
agree_all p xs₀ (x ∷ l) m c a = agree_all p xs₀ l (after m x) (recorded (geometry_of p) c x) (agree_after p xs₀ m c x a)

-- power-up agrees with the recorder's beginning
pub agree_fresh : (p : Part) (xs : List ℕ) → length xs ≡ words (geometry_of p) → Agree p xs (fresh p xs) beginning
unfolding power_up
agree_fresh p xs h = record {
  part = refl;
  size = h;
  five = protection.all_length;
  spare = protection.all_spare;
  thirty_two = length_empty;
  spared = zero_empty _;
  reserved = default_zero p;
  powered = idle_supplied _ refl;
  same = ap (λ (u : ℕ → Bool). record { supply = false; unprotected = u; setup = recorder.no_setup }) (fun_ext (λ b. protection.all_none b));
  sim = record { match = entries.start; order = tt; inside = tt; lying = tt; ready = tt };
  word = λ L k. refl;
}
