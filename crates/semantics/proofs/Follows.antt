-- The device goes, in what bears on the array, by the recorder's rules: each of its writes is one event of the recorder
-- on what is under way. Only this file goes through the cycles of both.
-- Assumes nothing.
use Rattle.std.specs.Prelude.{◌≡◌, ◌&&◌, ◌||◌, length, set, replicate, Option, Some, None}
use Rattle.std.proofs.Math.Path.{refl, sym, ap, fun_ext}
use Rattle.std.proofs.Common.{◌∙◌, true≢false, arith}
use mathlib.Core.List.{List}
use Rattle.std.proofs.Math.Bool.{Bool, true, false, cond, not}
use Prim.Native.Nat.{ℕ, ◌+◌, ◌-◌, ◌≤◌, ◌<◌, ◌%◌}
use Rattle.std.proofs.Math.Dec.{leb, eqb}
use borrow.Author.Tests.{eqb-true}
use Rattle.geometry.specs.declared.Geometry.{Geometry}
use Rattle.geometry.specs.Blocks.{location, block_of, start_of, size_of}
use Rattle.protection.specs.Words.{is_unprotected}
use Rattle.protection.specs.Laws as protection
use Rattle.semantics.specs.declared.Setup.{Setup}
use Rattle.semantics.specs.declared.Setup.TheVariants as setup
use Rattle.semantics.specs.declared.Running.{Running}
use Rattle.semantics.specs.declared.Running.TheVariants as running
use Rattle.semantics.specs.declared.SuspendedProgram.{SuspendedProgram}
use Rattle.semantics.specs.declared.SuspendedProgram.TheVariants as program
use Rattle.semantics.specs.declared.SuspendedErase.{SuspendedErase}
use Rattle.semantics.specs.declared.Command.{Command}
use Rattle.semantics.specs.declared.Command.TheVariants as command
use Rattle.semantics.specs.declared.State.{State}
use Rattle.semantics.specs.declared.Step.{Step}
use Rattle.semantics.specs.declared.Place.{Place}
use Rattle.semantics.specs.declared.View.{View}
use Rattle.semantics.specs.Branches.{of_cond, by_cond}
use Rattle.semantics.specs.Tests.{or_false_l, or_false_r}
use Rattle.semantics.specs.Numbers.{within, within_true}
use Rattle.semantics.specs.State as state
use Rattle.semantics.specs.State.{activity, with_buffer, runs, program_suspended, erase_suspended, empty_buffer}
use Rattle.semantics.specs.Buffer.{words_in, words_length, words_first, words_later}
use Rattle.semantics.specs.View.{place_of, view_at, with_view, with_control, with_activity}
use Rattle.semantics.specs.Supply.{ended, ended_if_unsupplied}
use Rattle.semantics.specs.Supplied.{is_resume}
use Rattle.semantics.proofs.Supplied.{only_resume, first_holds}
use Rattle.semantics.specs.WellFormed.{erasing}
use Rattle.semantics.specs.Writing as writing
use Rattle.semantics.specs.Writing.{command_of, suspended, resume, program_free, accepts, set_up, clear_status, first_cycle, program_runs, erase_cycle, lock_command_of, lock_cycle, settle, loads, count_right, first_right, later_right, confirm_right, confirm_cycle, words_cycle, kept_if, first_loaded, words_loaded, held_after, loaded, cycle_at, loaded_at, written_at}
use Rattle.semantics.specs.Recorder.{Event, nothing, suspend, resume_program, resume_erase, end_program, end_erase, setup_is, unprotected_is, accept, Conditions, conditions_after, rule, is_program, is_erase, first_cycle_event, cycle, no_setup, first_setup, words_setup}
use Rattle.semantics.specs.Recorder as recorder
use Rattle.semantics.proofs.Engine.{busy, held?, engine_after, words_after_event, Ready}
pub use Rattle.semantics.proofs.UnderWay.{setup_of, conditions, add_erase, add_program, add_running, under_way_of, under_way, Together, Lacking, under_way_program, under_way_any, under_way_worked, under_way_off, words_under_way}
use Rattle.semantics.proofs.UnderWay.{under_way_in, Beside, none_is_running, program_is_running, buffer_is_running, erase_is_running, beside, under_way_erasing}
use Rattle.semantics.specs.Commands.{bears, commands_agree}

-- ---- each step is an event

-- the event of a step, by the recorder's rule on the device as it would see it
abbrev pub event_of : Geometry → State → Step → Event
event_of g s x = rule g (conditions s) (busy (under_way s)) (held? (under_way s)) x

-- an operation that is accepted where three tests allow it, and four views by the first that does not
accepting : (P : Event → View → Type 0) (t u z y : Bool) → y ≡ not z → (v w : Event) {a b c d : View} → P w a → P w b → P w c → P v d → P (cond (t && (u && y)) v w) (cond (not t) a (cond (not u) b (cond z c d)))
accepting P false u z y e v w h i j k = h
accepting P true false z y e v w h i j k = i
accepting P true true true y e v w h i j k = rw e j
accepting P true true false y e v w h i j k = rw e k

-- the same behind one test more
guarded : (P : Event → View → Type 0) (o y : Bool) (v w : Event) {a b : View} → P w b → P (cond y v w) a → P (cond (o && y) v w) (cond o a b)
guarded P true y v w h k = k
guarded P false y v w h k = h

and_not : (u : Bool) → (u && true) ≡ not (not u)
and_not true = refl
and_not false = refl

module _ (g : Geometry) where
  -- the state t is, in what bears on the array, what the event v makes of the state s; and v changes no word
  abbrev pub Follows : Event → State → State → Type 0
  Follows v s t =
      (conditions t ≡ conditions_after v (conditions s)) × (under_way t ≡ engine_after g v (under_way s))
      × ((m : ℕ → ℕ) → words_after_event g v (under_way s) m ≡ m)

  -- ---- at a place

  module _ (s : State) (p : Place) where
    -- what the recorder would see of the state with this buffer, and this view at the place
    abbrev seen : List ℕ → View → Conditions
    seen bs x = record { supply = x.control.supply; unprotected = λ c. cond (eqb c p.block) x.unprotected (is_unprotected s.unprotected c); setup = setup_of bs x.control.activity.setup }

    -- the same of a view: y, with the buffer bs, is what the event v makes of x
    abbrev FollowsTo : Event → View → View → List ℕ → Type 0
    FollowsTo v x y bs =
        (seen bs y ≡ conditions_after v (seen s.buffer x)) × (under_way_in bs y.control.activity ≡ engine_after g v (under_way_in s.buffer x.control.activity))
        × ((m : ℕ → ℕ) → words_after_event g v (under_way_in s.buffer x.control.activity) m ≡ m)

    -- the buffer stays
    abbrev FollowsAt : Event → View → View → Type 0
    FollowsAt v x y = FollowsTo v x y s.buffer

    seen_own : conditions s ≡ seen s.buffer (view_at s p)
    seen_own =
        ap (λ (u : ℕ → Bool). record { supply = s.control.supply; unprotected = u; setup = setup_of s.buffer s.control.activity.setup })
        (fun_ext (λ c. by_cond (λ (x : Bool). is_unprotected s.unprotected c ≡ x) (eqb c p.block) _ _ (λ e. ap (is_unprotected s.unprotected) (eqb-true c p.block e)) (λ e. refl)))

    seen_put : length s.unprotected ≡ 5 → p.block < 259 → (y : View) (bs : List ℕ) → conditions (with_buffer (with_view s p y) bs) ≡ seen bs y
    seen_put h i y bs =
        ap (λ (u : ℕ → Bool). record { supply = y.control.supply; unprotected = u; setup = setup_of bs y.control.activity.setup }) (fun_ext (λ c. protection.with_each s.unprotected p.block c y.unprotected h i))

    -- what is put back at the place follows where the view does
    follows_put : length s.unprotected ≡ 5 → p.block < 259 → (v : Event) (y : View) (bs : List ℕ) → FollowsTo v (view_at s p) y bs → Follows v s (with_buffer (with_view s p y) bs)
    follows_put h i v y bs f = (seen_put h i y bs ∙ f.0 ∙ ap (conditions_after v) (sym seen_own), f.1, f.2)

    -- a view with these under way: every view is one, by its own
    abbrev at : View → Setup → Running → SuspendedProgram → Option SuspendedErase → View
    at x c r q e = with_activity x (activity c r q e)

    follows_suspend : (x : View) {r : Running} {q : SuspendedProgram} {e : Option SuspendedErase} → Beside r q e
        → FollowsAt (cond (runs r) suspend nothing) (at x setup.Nothing r q e) (with_activity x (suspended (activity setup.Nothing r q e) r))
    follows_suspend x (none_is_running q e) = (refl, refl, λ m. refl)
    follows_suspend x (program_is_running l w e) = (refl, refl, λ m. refl)
    follows_suspend x (buffer_is_running l n d e) = (refl, refl, λ m. refl)
    follows_suspend x (erase_is_running b n) = (refl, refl, λ m. refl)

    -- D0h, with the supply on and off. The words of a buffer program that it ends are no longer in the buffer
    abbrev Resumes : View → Bool → Running → SuspendedProgram → Option SuspendedErase → Type 0
    Resumes x t r q e =
        FollowsTo
        (cond (runs r) nothing (cond (held? (under_way_of s.buffer r q e) is_program) (cond t resume_program end_program) (cond (held? (under_way_of s.buffer r q e) is_erase) (cond t resume_erase end_erase) nothing)))
        (at x setup.Nothing r q e) (with_control x (resume (at x setup.Nothing r q e).control)) (held_after q (resume (at x setup.Nothing r q e).control).activity s.buffer)

    follows_resume : (x : View) (t : Bool) → x.control.supply ≡ t → {r : Running} {q : SuspendedProgram} {e : Option SuspendedErase} → Beside r q e → Resumes x t r q e
    unfolding resume ended_if_unsupplied ended held_after kept_if
    follows_resume x true h (none_is_running (program.Program l w) e) = rw h (refl, refl, λ m. refl)
    follows_resume x true h (none_is_running (program.Buffer l n d) e) = rw h (refl, refl, λ m. refl)
    follows_resume x true h (none_is_running program.Nothing None) = rw h (refl, refl, λ m. refl)
    follows_resume x true h (none_is_running program.Nothing (Some e)) = rw h (refl, refl, λ m. refl)
    follows_resume x false h (none_is_running (program.Program l w) e) = rw h (refl, refl, λ m. refl)
    follows_resume x false h (none_is_running (program.Buffer l n d) e) = rw h (refl, refl, λ m. refl)
    follows_resume x false h (none_is_running program.Nothing None) = rw h (refl, refl, λ m. refl)
    follows_resume x false h (none_is_running program.Nothing (Some e)) = rw h (refl, refl, λ m. refl)
    follows_resume x t h (program_is_running l w e) = (refl, refl, λ m. refl)
    follows_resume x t h (buffer_is_running l n d e) = (refl, refl, λ m. refl)
    follows_resume x t h (erase_is_running b n) = (refl, refl, λ m. refl)

    -- a set-up is accepted by the device exactly where the recorder begins it
    follows_setup : (x : View) (c : Setup) (b : Bool) → accepts x.control.activity c ≡ not b → FollowsAt (cond b nothing (setup_is (setup_of s.buffer c))) x (set_up x c)
    unfolding set_up
    follows_setup x c true e = rw e (refl, refl, λ m. refl)
    follows_setup x c false e = rw e (refl, refl, λ m. refl)

    not_or : (a b : Bool) → (not a && not b) ≡ not (a || b)
    not_or true b = refl
    not_or false b = refl

    module _ (x : View) (d : Conditions) (r : Running) (q : SuspendedProgram) (e : Option SuspendedErase) where
      abbrev first : View
      first = at x setup.Nothing r q e

      -- 10h, 40h, 60h and E8h are taken alike
      follows_program_setup : (c : Setup) → accepts first.control.activity c ≡ program_free first.control.activity
          → FollowsAt (cond (runs r || held? (under_way_of s.buffer r q e) is_program) nothing (setup_is (setup_of s.buffer c))) first (set_up first c)
      follows_program_setup c h = rw (under_way_program s.buffer r q e) (follows_setup first c (runs r || program_suspended q) (h ∙ not_or (runs r) (program_suspended q)))

      -- every other first cycle leaves the buffer
      follows_other : Together r q e → (c : Command) → is_resume c ≡ false → FollowsAt (first_cycle_event g d (runs r) (held? (under_way_of s.buffer r q e)) p.block (bears c)) first (first_cycle first p c)
      unfolding first_cycle clear_status accepts
      follows_other m command.ReadArray n = (refl, refl, λ m. refl)
      follows_other m command.ReadStatus n = (refl, refl, λ m. refl)
      follows_other m command.ReadSignature n = (refl, refl, λ m. refl)
      follows_other m command.ReadQuery n = (refl, refl, λ m. refl)
      follows_other m command.Suspend n = follows_suspend x (beside r q e m)
      follows_other m command.Resume n = absurd (true≢false n)
      follows_other m command.ClearStatus n = of_cond (λ (y : View). FollowsAt nothing first y) (runs r) _ _ (refl, refl, λ m. refl) (refl, refl, λ m. refl)
      follows_other m command.SetUpProgram n = follows_program_setup setup.Program refl
      follows_other m command.SetUpLock n = follows_program_setup setup.Lock refl
      follows_other m command.SetUpBuffer n = follows_program_setup (setup.BufferCount p.block) refl
      follows_other m command.SetUpErase n =
          rw (under_way_any s.buffer r q e)
          (follows_setup first setup.Erase (runs r || (program_suspended q || erase_suspended e))
          (ap (λ (b : Bool). not (runs r) && b) (not_or (program_suspended q) (erase_suspended e)) ∙ not_or (runs r) (program_suspended q || erase_suspended e)))
      follows_other m command.Unknown n = (refl, refl, λ m. refl)

      follows_first : Together r q e → d.supply ≡ x.control.supply → (c : Command)
          → FollowsTo (first_cycle_event g d (runs r) (held? (under_way_of s.buffer r q e)) p.block (bears c)) first (first_cycle first p c) (held_after q (first_cycle first p c).control.activity s.buffer)
      unfolding first_cycle
      follows_first m z c = go (is_resume c) refl
        where
          go : (b : Bool) → is_resume c ≡ b
              → FollowsTo (first_cycle_event g d (runs r) (held? (under_way_of s.buffer r q e)) p.block (bears c)) first (first_cycle first p c) (held_after q (first_cycle first p c).control.activity s.buffer)
          go true h = rw (only_resume c h, z) (follows_resume x x.control.supply refl (beside r q e m))
          go false h = rw (first_holds first p c s.buffer (λ k. absurd (true≢false (sym k ∙ h)))) (follows_other m c h)

    -- ---- second cycles

    -- of two changes of one block's protection the later counts
    twice : (v u : Bool)
        → ◌≡◌ {A = ℕ → Bool} (λ c. cond (eqb c p.block) v (is_unprotected s.unprotected c)) (λ c. cond (eqb c p.block) v (cond (eqb c p.block) u (is_unprotected s.unprotected c)))
    twice v u = fun_ext (λ c. go (eqb c p.block) (is_unprotected s.unprotected c))
      where
        go : (b i : Bool) → cond b v i ≡ cond b v (cond b u i)
        go true i = refl
        go false i = refl

    follows_lock : (x : View) (c : Setup) (r : Running) (q : SuspendedProgram) (e : Option SuspendedErase) (d : ℕ) (h k z : Bool) → eqb d 0x01 ≡ h → eqb d 0xD0 ≡ k → eqb d 0x03 ≡ z
        → FollowsAt (cond k (unprotected_is p.block true) (cond h (unprotected_is p.block false) (setup_is no_setup))) (at x c r q e) (lock_cycle (settle (at x c r q e)) p (lock_command_of d))
    unfolding lock_cycle lock_command_of settle
    follows_lock x c r q e d true true z hh hk hz = absurd (omega (arith, eqb-true d 0x01 hh, eqb-true d 0xD0 hk))
    follows_lock x c r q e d true false z hh hk hz =
        rw hh (ap (λ (u : ℕ → Bool). record { supply = x.control.supply; unprotected = u; setup = no_setup }) (twice false x.unprotected), refl, λ m. refl)
    follows_lock x c r q e d false true z hh hk hz =
        rw (hh, hk) (ap (λ (u : ℕ → Bool). record { supply = x.control.supply; unprotected = u; setup = no_setup }) (twice true x.unprotected), refl, λ m. refl)
    follows_lock x c r q e d false false true hh hk hz = rw (hh, hk, hz) (refl, refl, λ m. refl)
    follows_lock x c r q e d false false false hh hk hz = rw (hh, hk, hz) (refl, refl, λ m. refl)

    -- ---- the cycles of a load. Nothing else is under way but a suspended erase, so that the buffer is the load's alone

    abbrev loading : View → Setup → Option SuspendedErase → View
    loading x c e = at x c running.Idle program.Nothing e

    -- where the cycle is right, the load goes on, with the buffer f true
    follows_loads : (x : View) (c : Setup) (e : Option SuspendedErase) (t : Setup) (d : recorder.Setup) (f : Bool → List ℕ) (b : Bool) → (b ≡ true → setup_of (f true) t ≡ d)
        → FollowsTo (cond b (setup_is d) (setup_is no_setup)) (loading x c e) (loads b (loading x c e) t) (f b)
    unfolding loads settle
    follows_loads x c e t d f true z = (ap (λ (i : recorder.Setup). record { supply = x.control.supply; unprotected = (seen s.buffer x).unprotected; setup = i }) (z refl), refl, λ m. refl)
    follows_loads x c e t d f false z = (refl, refl, λ m. refl)

  -- a write, by the set-up that is pending
  module _ (s : State) (a w : ℕ) where
    abbrev seen_as : Setup → Running → SuspendedProgram → Option SuspendedErase → View
    seen_as c r q e = with_activity (view_at s (place_of g a)) (activity c r q e)

    -- the recorder's event of the write, and the device's view and buffer after it
    abbrev Goes : Setup → Running → SuspendedProgram → Option SuspendedErase → Type 0
    Goes c r q e =
        FollowsTo s (place_of g a)
        (cycle g (conditions (state.with_activity s (activity c r q e))) (runs r) (held? (under_way_of s.buffer r q e)) (setup_of s.buffer c) (location g a) (w % 256) w)
        (seen_as c r q e) (writing.cycle g (seen_as c r q e) c (place_of g a) w)
        (held_after q (writing.cycle g (seen_as c r q e) c (place_of g a) w).control.activity (loaded g c (place_of g a) w (writing.cycle g (seen_as c r q e) c (place_of g a) w).control.activity.running s.buffer))

    abbrev ReadyAt : Setup → Running → SuspendedProgram → Option SuspendedErase → Type 0
    ReadyAt c r q e = Ready g (setup_of s.buffer c) (runs r) (held? (under_way_of s.buffer r q e))

    free : (r : Running) (q : SuspendedProgram) (e : Option SuspendedErase) → held? (under_way_of s.buffer r q e) is_program ≡ false → program_suspended q ≡ false
    free r q e h = sym (under_way_program s.buffer r q e) ∙ h

    -- nothing runs and no program is suspended
    lone : (c : Setup) (r : Running) (q : SuspendedProgram) (e : Option SuspendedErase) → runs r ≡ false → program_suspended q ≡ false → Goes c running.Idle program.Nothing e → Goes c r q e
    lone c running.Idle program.Nothing e i k f = f
    lone c running.Idle (program.Program l v) e i k f = absurd (true≢false k)
    lone c running.Idle (program.Buffer l n d) e i k f = absurd (true≢false k)
    lone c (running.Program l v) q e i k f = absurd (true≢false i)
    lone c (running.Erase b n) q e i k f = absurd (true≢false i)
    lone c (running.Buffer l n d) q e i k f = absurd (true≢false i)

    -- and no erase
    lone_erase : (e : Option SuspendedErase) → erase_suspended e ≡ false → Goes setup.Erase running.Idle program.Nothing e
    unfolding writing.cycle loaded held_after erase_cycle settle
    lone_erase None k =
        let u : Bool = is_unprotected s.unprotected (block_of g (location g a)) in
        accepting (λ (v : Event) (y : View). FollowsTo s (place_of g a) v (seen_as setup.Erase running.Idle program.Nothing None) y s.buffer)
        (eqb (w % 256) 0xD0) s.control.supply (not u) (u && true) (and_not u)
        (accept (recorder.erase (block_of g (location g a)))) (setup_is no_setup) (refl, refl, λ m. refl) (refl, refl, λ m. refl) (refl, refl, λ m. refl) (refl, refl, λ m. refl)
    lone_erase (Some e) k = absurd (true≢false k)

    -- the confirming cycle of a load, and the cycles before it
    goes_words : (l n due : ℕ) (e : Option SuspendedErase) → length s.buffer ≡ 32 → n ≤ 32 → (b : Bool) → eqb due 0 ≡ b → Goes (setup.BufferWords l n due) running.Idle program.Nothing e
    unfolding writing.cycle words_cycle loaded words_loaded held_after confirm_right confirm_cycle program_runs settle kept_if later_right
    goes_words l n due e h k true z =
        rw (z, under_way_erasing g s.buffer running.Idle program.Nothing e (block_of g (location g a)))
        (guarded Confirmed (eqb (w % 256) 0xD0 && eqb (block_of g (location g a)) (block_of g l)) _ accepted (setup_is no_setup) (refl, refl, λ m. refl)
        (accepting Confirmed s.control.supply (is_unprotected s.unprotected (block_of g (location g a))) (erasing e (block_of g (location g a))) _ refl
        accepted (setup_is no_setup) (refl, refl, λ m. refl) (refl, refl, λ m. refl) (refl, refl, λ m. refl) (refl, refl, λ m. refl)))
      where
        accepted : Event
        accepted = accept (recorder.buffer l (words_in s.buffer n))

        Confirmed : Event → View → Type 0
        Confirmed v y = FollowsTo s (place_of g a) v (seen_as (setup.BufferWords l n due) running.Idle program.Nothing e) y (cond (runs y.control.activity.running) s.buffer empty_buffer)
    goes_words l n due e h k false z =
        rw (z, words_length s.buffer n)
        (follows_loads s (place_of g a) (view_at s (place_of g a)) (setup.BufferWords l n due) e (setup.BufferWords l n (due - 1)) (words_setup l (set (words_in s.buffer n) (location g a - l) w) (due - 1))
        (λ o. cond o (set s.buffer (location g a - l) w) empty_buffer) (within l n (location g a))
        (λ x. ap (λ (ws : List ℕ). words_setup l ws (due - 1)) (words_later s.buffer n (location g a - l) w h k (omega (arith, within_true l n (location g a) x)))))

    follows_cycle : (c : Setup) (r : Running) (q : SuspendedProgram) (e : Option SuspendedErase) → Together r q e → ReadyAt c r q e → length s.buffer ≡ 32 → Goes c r q e
    unfolding writing.cycle loaded held_after count_right first_right program_runs settle
    follows_cycle setup.Nothing r q e m y h =
        rw (commands_agree (w % 256)) (follows_first s (place_of g a) (view_at s (place_of g a)) (conditions (state.with_activity s (activity setup.Nothing r q e))) r q e m refl (command_of (w % 256)))
    follows_cycle setup.Program r q e m y h = lone setup.Program r q e y.0 (free r q e y.1)
        (rw (under_way_erasing g s.buffer running.Idle program.Nothing e (block_of g (location g a)))
        (accepting (λ (v : Event) (x : View). FollowsTo s (place_of g a) v (seen_as setup.Program running.Idle program.Nothing e) x s.buffer)
        s.control.supply (is_unprotected s.unprotected (block_of g (location g a))) (erasing e (block_of g (location g a))) _ refl
        (accept (recorder.program (location g a) w)) (setup_is no_setup) (refl, refl, λ m. refl) (refl, refl, λ m. refl) (refl, refl, λ m. refl) (refl, refl, λ m. refl)))
    follows_cycle setup.Erase r q e m y h =
        let i : (program_suspended q || erase_suspended e) ≡ false = sym (under_way_any s.buffer r q e) ∙ y.1 in
        lone setup.Erase r q e y.0 (or_false_l (program_suspended q) _ i) (lone_erase e (or_false_r (program_suspended q) _ i))
    follows_cycle setup.Lock r q e m y h = lone setup.Lock r q e y.0 (free r q e y.1)
        (follows_lock s (place_of g a) (view_at s (place_of g a)) setup.Lock running.Idle program.Nothing e (w % 256) (eqb (w % 256) 0x01) (eqb (w % 256) 0xD0) (eqb (w % 256) 0x03) refl refl refl)
    follows_cycle (setup.BufferCount b) r q e m y h = lone (setup.BufferCount b) r q e y.0 (free r q e y.1)
        (follows_loads s (place_of g a) (view_at s (place_of g a)) (setup.BufferCount b) e (setup.BufferFirst b (w + 1)) (first_setup b (w + 1)) (λ o. s.buffer) (eqb (block_of g (location g a)) b && leb w 31) (λ z. refl))
    follows_cycle (setup.BufferFirst b n) r q e m y h = lone (setup.BufferFirst b n) r q e y.0 (free r q e y.1)
        (follows_loads s (place_of g a) (view_at s (place_of g a)) (setup.BufferFirst b n) e (setup.BufferWords (location g a) n (n - 1)) (words_setup (location g a) (set (replicate n 0xFFFF) 0 w) (n - 1))
        (λ o. cond o (first_loaded n w) s.buffer) (eqb (block_of g (location g a)) b && leb (location g a + n) (start_of g b + size_of g b))
        (λ z. ap (λ (ws : List ℕ). words_setup (location g a) ws (n - 1)) (words_first n w y.3 y.4)))
    follows_cycle (setup.BufferWords l n due) r q e m y h =
        lone (setup.BufferWords l n due) r q e y.0 (free r q e y.1) (goes_words l n due e h (omega (arith, y.3.2, words_length s.buffer n)) (eqb due 0) refl)

-- and of the state
pub follows_written : (s : State) → Together s.control.activity.running s.control.activity.program s.control.activity.erase
    → Ready (state.geometry s) (setup_of s.buffer s.control.activity.setup) (runs s.control.activity.running) (held? (under_way s))
    → length s.unprotected ≡ 5 → length s.buffer ≡ 32 → (a w : ℕ) → block_of (state.geometry s) (location (state.geometry s) a) < 259
    → Follows (state.geometry s)
    (cycle (state.geometry s) (conditions s) (runs s.control.activity.running) (held? (under_way s)) (setup_of s.buffer s.control.activity.setup) (location (state.geometry s) a) (w % 256) w)
    s (written_at s (place_of (state.geometry s) a) w)
unfolding written_at
follows_written s m y h i a w k =
    follows_put (state.geometry s) s (place_of (state.geometry s) a) h k
    (cycle (state.geometry s) (conditions s) (runs s.control.activity.running) (held? (under_way s)) (setup_of s.buffer s.control.activity.setup) (location (state.geometry s) a) (w % 256) w)
    (cycle_at s (place_of (state.geometry s) a) w) (loaded_at s (place_of (state.geometry s) a) w (cycle_at s (place_of (state.geometry s) a) w).control.activity)
    (follows_cycle (state.geometry s) s a w s.control.activity.setup s.control.activity.running s.control.activity.program s.control.activity.erase m y i)
