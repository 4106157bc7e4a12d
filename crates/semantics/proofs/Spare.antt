-- "Spare storage, if any, is zero": no step leaves a word in a place of the buffer that is not in use.
-- Assumes nothing.
use Rattle.std.specs.Prelude.{◌≡◌, List, Bool, ◌||◌, ℕ, ◌+◌, ◌-◌, ◌%◌, ltb, eqb, length, set, Option, Some, None}
use Rattle.std.proofs.Math.Path.{refl, ap, subst}
use Rattle.std.proofs.Common.{sym, ◌∙◌, subst₂, true≢false, arith, length-set}
use Rattle.std.proofs.Math.Bool.{true, false, cond}
use Rattle.std.proofs.lemmas.Bool.{false≢true}
use Rattle.geometry.specs.declared.Geometry.{Geometry}
use Rattle.geometry.specs.Blocks.{size_of}
use Rattle.semantics.specs.declared.Setup.{Setup}
use Rattle.semantics.specs.declared.Setup.TheVariants as setup
use Rattle.semantics.specs.declared.Running.{Running}
use Rattle.semantics.specs.declared.Running.TheVariants as running
use Rattle.semantics.specs.declared.SuspendedProgram.{SuspendedProgram}
use Rattle.semantics.specs.declared.SuspendedProgram.TheVariants as program
use Rattle.semantics.specs.declared.SuspendedErase.{SuspendedErase}
use Rattle.semantics.specs.declared.Activity.{Activity}
use Rattle.semantics.specs.declared.Command.{Command}
use Rattle.semantics.specs.declared.State.{State}
use Rattle.semantics.specs.declared.Place.{Place}
use Rattle.semantics.specs.declared.View.{View}
use Rattle.semantics.specs.Branches.{of_cond, by_test}
use Rattle.semantics.specs.Numbers.{within_true}
use Rattle.semantics.specs.Tabulate.{length_tabulate}
use Rattle.semantics.specs.State as state
use Rattle.semantics.specs.State.{activity, with_running, runs, program_suspended, empty_buffer, suspended_erase}
use Rattle.semantics.specs.View.{view_at, with_activity}
use Rattle.semantics.specs.Supply.{ended}
use Rattle.semantics.proofs.Cycles.{nothing_pending, nothing_running, nothing_suspended, of_first, of_program, of_erase, of_lock}
use Rattle.semantics.proofs.Supplied.{held_left}
use Rattle.semantics.specs.WellFormed.{pending, setup_places, running_places, program_places, places_used, zero_from}
use Rattle.semantics.specs.Writing.{command_of, suspended, resumed, first_cycle, lock_command_of, settle, loads, count_right, first_right, later_right, confirm_right, confirm_cycle, words_cycle, cycle, kept_if, first_loaded, words_loaded, held_after, loaded, written_at}
use Rattle.semantics.specs.Working.{running_after, buffer_after}
use Rattle.semantics.proofs.Engine.{held?, Ready}
use Rattle.semantics.specs.Buffer.{zero_empty, zero_set, zero_first}
use Rattle.semantics.proofs.Follows.{setup_of, under_way, under_way_of, Together}
use Rattle.semantics.proofs.Formed.{setup_alone}
use Rattle.semantics.specs.Spare.{Spared}

-- ---- the buffer's length

pub length_empty : length empty_buffer ≡ 32
unfolding empty_buffer
length_empty = refl

pub length_kept_if : (b : Bool) (bs : List ℕ) → length bs ≡ 32 → length (kept_if b bs) ≡ 32
unfolding kept_if
length_kept_if b bs h = of_cond (λ (l : List ℕ). length l ≡ 32) b _ _ h length_empty

pub length_held : (q : SuspendedProgram) (a : Activity) (bs : List ℕ) → length bs ≡ 32 → length (held_after q a bs) ≡ 32
unfolding held_after
length_held program.Nothing a bs h = h
length_held (program.Program l w) a bs h = h
length_held (program.Buffer l n d) a bs h = length_kept_if (program_suspended a.program || runs a.running) bs h

pub length_loaded : (g : Geometry) (c : Setup) (p : Place) (w : ℕ) (r : Running) (bs : List ℕ) → length bs ≡ 32 → length (loaded g c p w r bs) ≡ 32
unfolding loaded words_loaded first_loaded
length_loaded g setup.Nothing p w r bs h = h
length_loaded g setup.Program p w r bs h = h
length_loaded g setup.Erase p w r bs h = h
length_loaded g setup.Lock p w r bs h = h
length_loaded g (setup.BufferCount b) p w r bs h = h
length_loaded g (setup.BufferFirst b n) p w r bs h =
    of_cond (λ (l : List ℕ). length l ≡ 32) (first_right g b n p) _ _ (length_tabulate 32 _) h
length_loaded g (setup.BufferWords l n due) p w r bs h =
    of_cond (λ (l : List ℕ). length l ≡ 32) (eqb due 0) _ _ (length_kept_if (runs r) bs h)
    (length_kept_if (later_right l n p) (set bs (p.location - l) w) (length-set bs (p.location - l) w ∙ h))

pub length_after : (r t : Running) (bs : List ℕ) → length bs ≡ 32 → length (buffer_after r t bs) ≡ 32
unfolding buffer_after
length_after running.Idle t bs h = h
length_after (running.Program l w) t bs h = h
length_after (running.Erase b n) t bs h = h
length_after (running.Buffer l n d) t bs h = length_kept_if (runs t) bs h

-- what runs on leaves the buffer
pub buffer_on : (r : Running) (bs : List ℕ) → buffer_after r r bs ≡ bs
unfolding buffer_after kept_if
buffer_on running.Idle bs = refl
buffer_on (running.Program l w) bs = refl
buffer_on (running.Erase b n) bs = refl
buffer_on (running.Buffer l n d) bs = refl

-- ---- a cycle

-- a view with these under way
abbrev at : View → Setup → Running → SuspendedProgram → Option SuspendedErase → View
at x c r q e = with_activity x (activity c r q e)

-- a cycle of a load puts f true into the buffer where it is right, and else f false
spared_loads : (x : View) (c : Setup) (e : Option SuspendedErase) (t : Setup) (f : Bool → List ℕ) (b : Bool) → (b ≡ true → zero_from (setup_places t) (f true) ≡ true) → (b ≡ false → zero_from 0 (f false) ≡ true)
    → Spared (loads b (at x c running.Idle program.Nothing e) t).control.activity (f b)
unfolding loads settle places_used setup_places running_places program_places
spared_loads x c e t f true h k = ap (λ (n : ℕ). zero_from n (f true)) (omega arith) ∙ h refl
spared_loads x c e t f false h k = k refl

module _ (g : Geometry) (s : State) (p : Place) (w : ℕ) where
  abbrev seen : Setup → Running → SuspendedProgram → Option SuspendedErase → View
  seen c r q e = at (view_at s p) c r q e

  abbrev After : Setup → Running → SuspendedProgram → Option SuspendedErase → Type 0
  After c r q e = Spared (cycle g (seen c r q e) c p w).control.activity (held_after q (cycle g (seen c r q e) c p w).control.activity (loaded g c p w (cycle g (seen c r q e) c p w).control.activity.running s.buffer))

  -- what a first cycle leaves, of which the buffer is as it was, or empty where D0h ended a buffer program
  abbrev Left : SuspendedProgram → Activity → Type 0
  Left q a = Spared a (held_after q a s.buffer)

  -- as many places are used, and the same program is suspended
  left : (q : SuspendedProgram) (x a : Activity) → a.program ≡ q → places_used a ≡ places_used x
      → Spared x s.buffer → Left q a
  left q x a e i h = rw (held_left q a s.buffer e) (ap (λ (n : ℕ). zero_from n s.buffer) i ∙ h)

  left_suspended : (r : Running) (q : SuspendedProgram) (e : Option SuspendedErase) → Together r q e
      → Spared (activity setup.Nothing r q e) s.buffer → Left q (suspended (activity setup.Nothing r q e) r)
  unfolding held_after places_used setup_places running_places program_places
  left_suspended running.Idle q e m h =
      left q (activity setup.Nothing running.Idle q e) (activity setup.Nothing running.Idle q e) refl refl h
  left_suspended (running.Program l w) program.Nothing e m h = h
  left_suspended (running.Program l w) (program.Program k v) e m h = absurd m
  left_suspended (running.Program l w) (program.Buffer k v d) e m h = absurd m
  left_suspended (running.Erase b n) q e m h =
      left q (activity setup.Nothing (running.Erase b n) q e)
      (activity setup.Nothing running.Idle q (Some (suspended_erase b n))) refl refl h
  left_suspended (running.Buffer l n d) program.Nothing e m h = ap (λ (k : ℕ). zero_from k s.buffer) (omega arith) ∙ h
  left_suspended (running.Buffer l n d) (program.Program k v) e m h = absurd m
  left_suspended (running.Buffer l n d) (program.Buffer k v i) e m h = absurd m

  -- D0h: t tells whether there is supply
  left_resumed : (t : Bool) (r : Running) (q : SuspendedProgram) (e : Option SuspendedErase) → runs r ≡ false
      → Spared (activity setup.Nothing r q e) s.buffer
      → Left q (cond t (resumed (activity setup.Nothing r q e) q)
      (with_running (resumed (activity setup.Nothing r q e) q) running.Idle))
  unfolding held_after kept_if places_used setup_places running_places program_places
  left_resumed true running.Idle (program.Program l w) e i h = h
  left_resumed true running.Idle (program.Buffer l n d) e i h = ap (λ (k : ℕ). zero_from k s.buffer) (omega arith) ∙ h
  left_resumed true running.Idle program.Nothing None i h = h
  left_resumed true running.Idle program.Nothing (Some e) i h = h
  left_resumed false running.Idle (program.Program l w) e i h = h
  left_resumed false running.Idle (program.Buffer l n d) e i h = zero_empty 0
  left_resumed false running.Idle program.Nothing None i h = h
  left_resumed false running.Idle program.Nothing (Some e) i h = h
  left_resumed t (running.Program l w) q e i h = absurd (true≢false i)
  left_resumed t (running.Erase b n) q e i h = absurd (true≢false i)
  left_resumed t (running.Buffer l n d) q e i h = absurd (true≢false i)

  spared_first : (r : Running) (q : SuspendedProgram) (e : Option SuspendedErase) → Together r q e → (c : Command)
      → Spared (activity setup.Nothing r q e) s.buffer
      → Left q (first_cycle (seen setup.Nothing r q e) p c).control.activity
  unfolding ended places_used setup_places
  spared_first r q e m c h = of_first (λ (x : View). Left q x.control.activity) (seen setup.Nothing r q e) p c (record {
    modes = λ i y. same;
    suspends = λ i. left_suspended r q e m h;
    resumes = λ i z t. left_resumed true r q e z h;
    ends = λ i z t. left_resumed false r q e z h;
    clears = λ i z. same;
    sets_up =
        λ i x z. left q (activity setup.Nothing r q e) (activity x r q e) refl
        (ap (λ (n : ℕ). n + (running_places r + program_places q)) z) h;
    stays = same;
  })
    where
      same : Left q (activity setup.Nothing r q e)
      same = left q (activity setup.Nothing r q e) (activity setup.Nothing r q e) refl refl h

  -- what a confirming cycle leaves, and a cycle that is none of a load
  abbrev Confirmed : View → Type 0
  Confirmed x = Spared x.control.activity (kept_if (runs x.control.activity.running) s.buffer)

  abbrev Plain : View → Type 0
  Plain x = Spared x.control.activity s.buffer

  spared_confirm : (l n due : ℕ) (e : Option SuspendedErase) → zero_from n s.buffer ≡ true
      → Confirmed (confirm_cycle g (seen (setup.BufferWords l n due) running.Idle program.Nothing e) l n p w)
  unfolding confirm_cycle settle kept_if places_used setup_places running_places program_places
  spared_confirm l n due e h =
      of_cond Confirmed (confirm_right g l p w) _ _
      (of_program Confirmed (settle (seen (setup.BufferWords l n due) running.Idle program.Nothing e)) p
      (running.Buffer l n 0) (λ f. zero_empty 0) (ap (λ (k : ℕ). zero_from k s.buffer) (omega arith) ∙ h))
      (zero_empty 0)

  spared_words : (l n due : ℕ) (e : Option SuspendedErase) → zero_from n s.buffer ≡ true → After (setup.BufferWords l n due) running.Idle program.Nothing e
  unfolding cycle words_cycle loaded words_loaded held_after later_right kept_if setup_places
  spared_words l n due e h = go (eqb due 0)
    where
      x : View
      x = confirm_cycle g (seen (setup.BufferWords l n due) running.Idle program.Nothing e) l n p w

      y : View
      y =
          loads (later_right l n p) (seen (setup.BufferWords l n due) running.Idle program.Nothing e)
          (setup.BufferWords l n (due - 1))

      bs : List ℕ
      bs = set s.buffer (p.location - l) w

      go : (b : Bool) → Spared (cond b x y).control.activity
          (cond b (kept_if (runs (cond b x y).control.activity.running) s.buffer) (kept_if (later_right l n p) bs))
      go true = spared_confirm l n due e h
      go false =
          spared_loads (view_at s p) (setup.BufferWords l n due) e (setup.BufferWords l n (due - 1)) (λ o. kept_if o bs)
          (later_right l n p)
          (λ z. zero_set n (p.location - l) w s.buffer (omega (arith, within_true l n p.location z)) h) (λ z. zero_empty 0)

  -- after a set-up nothing runs and no program is suspended
  spared_second : (c : Setup) (e : Option SuspendedErase) → pending c ≡ true
      → Ready g (setup_of s.buffer c) false (held? (under_way_of s.buffer running.Idle program.Nothing e))
      → Spared (activity c running.Idle program.Nothing e) s.buffer → After c running.Idle program.Nothing e
  unfolding cycle settle loaded held_after places_used setup_places running_places program_places
  spared_second setup.Nothing e z y h = absurd (false≢true z)
  spared_second setup.Program e z y h =
      of_program Plain (settle (seen setup.Program running.Idle program.Nothing e)) p (running.Program p.location w)
      (λ f. h) h
  spared_second setup.Erase e z y h =
      of_erase Plain (settle (seen setup.Erase running.Idle program.Nothing e)) p (w % 256) (λ f. h) h
  spared_second setup.Lock e z y h =
      of_lock Plain (settle (seen setup.Lock running.Idle program.Nothing e)) p (lock_command_of (w % 256)) (λ f. h)
      (λ b. h) (λ n. h)
  spared_second (setup.BufferCount b) e z y h =
      spared_loads (view_at s p) (setup.BufferCount b) e (setup.BufferFirst b (w + 1)) (λ o. s.buffer)
      (count_right b p w) (λ i. h) (λ i. h)
  spared_second (setup.BufferFirst b n) e z y h =
      spared_loads (view_at s p) (setup.BufferFirst b n) e (setup.BufferWords p.location n (n - 1))
      (λ o. cond o (first_loaded n w) s.buffer) (first_right g b n p) (λ i. zero_first n w y.3) (λ i. h)
  spared_second (setup.BufferWords l n due) e z y h =
      spared_words l n due e (ap (λ (k : ℕ). zero_from k s.buffer) (omega arith) ∙ h)

  alone : (c : Setup) → pending c ≡ true → (r : Running) (q : SuspendedProgram) (e : Option SuspendedErase)
      → Ready g (setup_of s.buffer c) (runs r) (held? (under_way_of s.buffer r q e))
      → Spared (activity c r q e) s.buffer → After c r q e
  alone c z r q e y h =
      let a = setup_alone g s.buffer c r q e y z in
      subst₂ (λ (t : Running) (v : SuspendedProgram). Ready g (setup_of s.buffer c) (runs t) (held? (under_way_of s.buffer t v e))
      → Spared (activity c t v e) s.buffer → After c t v e)
      (sym (nothing_running r a.0)) (sym (nothing_suspended q a.1)) (spared_second c e z) y h

  spared_cycle : (c : Setup) (r : Running) (q : SuspendedProgram) (e : Option SuspendedErase) → Together r q e
      → Ready g (setup_of s.buffer c) (runs r) (held? (under_way_of s.buffer r q e))
      → Spared (activity c r q e) s.buffer → After c r q e
  unfolding cycle loaded
  spared_cycle c r q e m y h =
      by_test (pending c) (λ z. alone c z r q e y h)
      (λ z. subst (λ (x : Setup). Spared (activity x r q e) s.buffer → After x r q e) (sym (nothing_pending c z))
      (spared_first r q e m (command_of (w % 256))) h)

-- ---- the steps

-- a write
pub spared_written : (s : State) → Together s.control.activity.running s.control.activity.program s.control.activity.erase
    → Ready (state.geometry s) (setup_of s.buffer s.control.activity.setup) (runs s.control.activity.running) (held? (under_way s))
    → (p : Place) (w : ℕ) → Spared s.control.activity s.buffer → Spared (written_at s p w).control.activity (written_at s p w).buffer
unfolding written_at
spared_written s m y p w h =
    spared_cycle (state.geometry s) s p w s.control.activity.setup s.control.activity.running s.control.activity.program s.control.activity.erase m y h

-- work: what runs after it is what ran, with more done, or nothing
pub spared_worked : (g : Geometry) (c : Setup) (r : Running) (p : SuspendedProgram) (e : Option SuspendedErase) (m : ℕ) (bs : List ℕ) → Spared (activity c r p e) bs
    → Spared (activity c (running_after g r m) p e) (buffer_after r (running_after g r m) bs)
unfolding running_after buffer_after kept_if places_used running_places
spared_worked g c running.Idle p e m bs h = h
spared_worked g c (running.Program l w) p e m bs h =
    of_cond (λ (t : Running). Spared (activity c t p e) bs) (ltb m 1) _ _ h h
spared_worked g c (running.Erase b n) p e m bs h =
    of_cond (λ (t : Running). Spared (activity c t p e) bs) (ltb (n + m) (size_of g b)) _ _ h h
spared_worked g c (running.Buffer l n d) p e m bs h =
    of_cond (λ (t : Running). Spared (activity c t p e) (kept_if (runs t) bs)) (ltb (d + m) n) _ _ h (zero_empty _)

-- what runs ends
pub spared_ended : (c : Setup) (r : Running) (p : SuspendedProgram) (e : Option SuspendedErase) (bs : List ℕ) → Spared (activity c r p e) bs → Spared (activity c running.Idle p e) (buffer_after r running.Idle bs)
unfolding buffer_after kept_if places_used running_places
spared_ended c running.Idle p e bs h = h
spared_ended c (running.Program l w) p e bs h = h
spared_ended c (running.Erase b n) p e bs h = h
spared_ended c (running.Buffer l n d) p e bs h = zero_empty (setup_places c + (0 + program_places p))
