-- What a write changes of a state, where that is little, and that this is what the definition of a write gives. Assumes nothing.
use Rattle.std.specs.Prelude.{ℕ, ◌-◌, ◌%◌, Bool, true, false, cond, List, ◌≡◌, refl, eqb, set, Option, Some, None}
use Rattle.std.proofs.Common.{true≢false, sym, ap, ◌∙◌}
use Rattle.std.proofs.lemmas.Bool.{false≢true}
use Rattle.geometry.specs.declared.Geometry.{Geometry}
use Rattle.protection.specs.Words.{with_unprotected}
use Rattle.semantics.specs.declared.Mode.{Mode}
use Rattle.semantics.specs.declared.Mode.TheVariants.{Array, Status, Signature, Query}
use Rattle.semantics.specs.declared.Setup.{Setup}
use Rattle.semantics.specs.declared.Setup.TheVariants as setup
use Rattle.semantics.specs.declared.Running.{Running}
use Rattle.semantics.specs.declared.Running.TheVariants as running
use Rattle.semantics.specs.declared.SuspendedProgram.{SuspendedProgram}
use Rattle.semantics.specs.declared.SuspendedProgram.TheVariants as program
use Rattle.semantics.specs.declared.SuspendedErase.{SuspendedErase}
use Rattle.semantics.specs.declared.Activity.{Activity}
use Rattle.semantics.specs.declared.Control.{Control}
use Rattle.semantics.specs.declared.Command.{Command}
use Rattle.semantics.specs.declared.Command.TheVariants as command
use Rattle.semantics.specs.declared.State.{State}
use Rattle.semantics.specs.declared.Place.{Place}
use Rattle.semantics.specs.declared.View.{View}
use Rattle.semantics.specs.State.{geometry, activity, set_activity, with_control, with_buffer, with_setup, with_running, with_activity, runs}
use Rattle.semantics.specs.Supply.{ended, ended_if_unsupplied}
use Rattle.semantics.specs.Branches.{of_cond, by_cond, by_cond₂, by_test}
use Rattle.semantics.specs.Cycles.{awake, suspended_in}
use Rattle.semantics.proofs.Cycles.{nothing_pending, nothing_running, of_second}
use Rattle.semantics.proofs.Supplied.{resume_supplied, first_holds, held_left}
use Rattle.semantics.specs.View.{view_at, with_view, with_mode}
use Rattle.semantics.proofs.Modes.{view_back}
use Rattle.semantics.specs.View as view
use Rattle.semantics.specs.WellFormed.{pending}
use Rattle.semantics.specs.Writing.{command_of, suspended, resumed_erase, resumed, resume, accepts, pend, set_up, clear_status, first_cycle, settle, loads, later_right, words_cycle, cycle, kept_if, words_loaded, held_after, loaded, cycle_at, loaded_at, written_at}
use Rattle.semantics.specs.Working.{buffer_after}
use Rattle.writing.specs.declared.Change.{Change}
use Rattle.writing.specs.declared.Change.TheVariants as change

abbrev pub set_up_change : Activity → Setup → Change
set_up_change a x = cond (accepts a x) (change.First Status x) (change.Activity a)

-- D0h: where nothing runs, what is suspended runs, and without supply ends
abbrev pub resume_change : Activity → Bool → Change
resume_change a supply = cond (runs a.running) (change.Activity a) (cond supply (change.Activity (resumed a a.program)) (change.Ended (resumed a a.program)))

abbrev pub command_change : Activity → Bool → Place → Command → Change
command_change a supply p command.ReadArray = change.First Array a.setup
command_change a supply p command.ReadStatus = change.First Status a.setup
command_change a supply p command.ReadSignature = change.First Signature a.setup
command_change a supply p command.ReadQuery = change.First Query a.setup
command_change a supply p command.Suspend = change.Activity (suspended a a.running)
command_change a supply p command.Resume = resume_change a supply
command_change a supply p command.ClearStatus = change.View
command_change a supply p command.SetUpProgram = set_up_change a setup.Program
command_change a supply p command.SetUpErase = set_up_change a setup.Erase
command_change a supply p command.SetUpLock = set_up_change a setup.Lock
command_change a supply p command.SetUpBuffer = set_up_change a (setup.BufferCount p.block)
command_change a supply p command.Unknown = change.Activity a

-- a load's data cycle after its first, where it is due and right: one word less is due, and the buffer gets the word
abbrev pub word_change : ℕ → ℕ → ℕ → Place → Change
word_change l n due p =
    cond (eqb due 0) change.View
    (cond (later_right l n p) (change.Data (setup.BufferWords l n (due - 1)) (p.location - l)) change.View)

abbrev pub second_change : Setup → Place → Change
second_change setup.Nothing p = change.View
second_change setup.Program p = change.View
second_change setup.Erase p = change.View
second_change setup.Lock p = change.View
second_change (setup.BufferCount b) p = change.View
second_change (setup.BufferFirst b n) p = change.View
second_change (setup.BufferWords l n due) p = word_change l n due p

abbrev pub change_of : Activity → Bool → Place → ℕ → Change
change_of a supply p w =
    cond (pending a.setup) (second_change a.setup p) (command_change a supply p (command_of (w % 256)))

-- a cycle that is told by its view: by the set-up that is pending, or 50h where none is
abbrev pub told_cycle : Geometry → View → Setup → Place → ℕ → View
told_cycle g v setup.Nothing p w = clear_status v
told_cycle g v setup.Program p w = cycle g v setup.Program p w
told_cycle g v setup.Erase p w = cycle g v setup.Erase p w
told_cycle g v setup.Lock p w = cycle g v setup.Lock p w
told_cycle g v (setup.BufferCount b) p w = cycle g v (setup.BufferCount b) p w
told_cycle g v (setup.BufferFirst b n) p w = cycle g v (setup.BufferFirst b n) p w
told_cycle g v (setup.BufferWords l n d) p w = cycle g v (setup.BufferWords l n d) p w

abbrev pub told_at : State → Place → ℕ → View
told_at s p w = told_cycle (geometry s) (view_at s p) s.control.activity.setup p w

pub told_pending : (g : Geometry) (v : View) (c : Setup) (p : Place) (w : ℕ) → pending c ≡ true → told_cycle g v c p w ≡ cycle g v c p w
told_pending g v setup.Nothing p w h = absurd (false≢true h)
told_pending g v setup.Program p w h = refl
told_pending g v setup.Erase p w h = refl
told_pending g v setup.Lock p w h = refl
told_pending g v (setup.BufferCount b) p w h = refl
told_pending g v (setup.BufferFirst b n) p w h = refl
told_pending g v (setup.BufferWords l n d) p w h = refl

pub cycle_first : (g : Geometry) (v : View) (c : Setup) (p : Place) (w : ℕ) → pending c ≡ false → first_cycle v p (command_of (w % 256)) ≡ cycle g v c p w
unfolding cycle
cycle_first g v c p w h = sym (ap (λ (x : Setup). cycle g v x p w) (nothing_pending c h))

-- ---- the first cycle, by what it changes

abbrev pub first_by : View → Change → View
first_by v (change.First m x) = with_mode (pend v x) m
first_by v (change.Activity a) = view.with_activity v a
first_by v (change.Ended a) = view.with_control v (ended (set_activity v.control a))
first_by v (change.Data x i) = pend v x
first_by v change.View = clear_status v

-- Q holds of each change that a first cycle may be, with the view that it leaves: a mode; B0h; D0h that resumes, and
-- that ends what it would have resumed; 50h; a set-up; nothing
record Each (Q : Change → View → Type 0) (v : View) : Type 0 where
  modes : (m : Mode) → Q (change.First m v.control.activity.setup) (with_mode v m)
  suspends : Q (change.Activity (suspended_in v).control.activity) (suspended_in v)
  resumes : runs v.control.activity.running ≡ false → v.control.supply ≡ true
      → Q (change.Activity (awake v.control).activity) (view.with_control v (awake v.control))
  ends : runs v.control.activity.running ≡ false → v.control.supply ≡ false
      → Q (change.Ended (awake v.control).activity) (view.with_control v (ended (awake v.control)))
  clears : Q change.View (clear_status v)
  sets_up : (x : Setup) → Q (change.First Status x) (pend v x)
  stays : Q (change.Activity v.control.activity) v

module _ (Q : Change → View → Type 0) (v : View) (p : Place) (h : Each Q v) where
  of_set_up : (x : Setup) → Q (set_up_change v.control.activity x) (set_up v x)
  unfolding set_up
  of_set_up x = by_cond₂ Q (accepts v.control.activity x) _ _ _ _ (λ e. h.sets_up x) (λ e. h.stays)

  of_command : (c : Command) → Q (command_change v.control.activity v.control.supply p c) (first_cycle v p c)
  unfolding first_cycle resume ended_if_unsupplied
  of_command command.ReadArray = h.modes Array
  of_command command.ReadStatus = h.modes Status
  of_command command.ReadSignature = h.modes Signature
  of_command command.ReadQuery = h.modes Query
  of_command command.Suspend = h.suspends
  of_command command.Resume =
      by_cond₂ (λ (k : Change) (c : Control). Q k (view.with_control v c))
      (runs v.control.activity.running) _ _ _ _ (λ e. h.stays)
      (λ e. by_cond₂ (λ (k : Change) (c : Control). Q k (view.with_control v c)) v.control.supply _ _ _ _
      (h.resumes e) (h.ends e))
  of_command command.ClearStatus = h.clears
  of_command command.SetUpProgram = of_set_up setup.Program
  of_command command.SetUpErase = of_set_up setup.Erase
  of_command command.SetUpLock = of_set_up setup.Lock
  of_command command.SetUpBuffer = of_set_up (setup.BufferCount p.block)
  of_command command.Unknown = h.stays

pub first_is : (v : View) (p : Place) (c : Command) → first_by v (command_change v.control.activity v.control.supply p c) ≡ first_cycle v p c
first_is v p = of_command (λ (k : Change) (x : View). first_by v k ≡ x) v p (record { modes = λ m. refl; suspends = refl; resumes = λ r t. refl; ends = λ r t. refl; clears = refl; sets_up = λ x. refl; stays = refl })

-- ---- the state after a write that changes little

-- the state with bank k in a mode
abbrev pub with_bank : State → ℕ → Mode → State
with_bank s k m = record { part = s.part; banks = set s.banks k (record { mode = m }); unprotected = s.unprotected; control = s.control; buffer = s.buffer }

-- the state with that changed at a place, by a write of w
abbrev pub put_change : State → Place → ℕ → Change → State
put_change s p w (change.First m x) = with_bank (with_activity s (with_setup s.control.activity x)) p.bank m
put_change s p w (change.Activity a) = with_activity s a
put_change s p w (change.Ended a) =
    with_buffer (with_control s (ended (set_activity s.control a))) (buffer_after a.running running.Idle s.buffer)
put_change s p w (change.Data x i) =
    with_buffer (with_bank (with_activity s (with_setup s.control.activity x)) p.bank Status) (set s.buffer i w)
put_change s p w change.View = s

abbrev pub told : Change → Bool
told (change.First m x) = false
told (change.Activity a) = false
told (change.Ended a) = false
told (change.Data x i) = false
told change.View = true

-- a mode, and a block's protection, put back as it was
banks_back : (s : State) (p : Place) → set s.banks p.bank (record { mode = (view_at s p).mode }) ≡ s.banks
banks_back s p = ap (λ (t : State). t.banks) (view_back s p)

protection_back : (s : State) (p : Place) → with_unprotected s.unprotected p.block (view_at s p).unprotected ≡ s.unprotected
protection_back s p = ap (λ (t : State). t.unprotected) (view_back s p)

-- the buffer with that changed
abbrev buffer_by : State → ℕ → Change → List ℕ
buffer_by s w (change.First m x) = s.buffer
buffer_by s w (change.Activity a) = s.buffer
buffer_by s w (change.Ended a) = buffer_after a.running running.Idle s.buffer
buffer_by s w (change.Data x i) = set s.buffer i w
buffer_by s w change.View = s.buffer

put_view : (s : State) (p : Place) (w : ℕ) (k : Change) → told k ≡ false
    → with_buffer (with_view s p (first_by (view_at s p) k)) (buffer_by s w k) ≡ put_change s p w k
put_view s p w (change.First m x) h = rw (protection_back s p)
put_view s p w (change.Activity a) h = rw (protection_back s p, banks_back s p)
put_view s p w (change.Ended a) h = rw (protection_back s p, banks_back s p)
put_view s p w (change.Data x i) h = rw (protection_back s p)
put_view s p w change.View h = absurd (true≢false h)

-- the same as the definition has it: D0h without supply ends a buffer program
ended_buffer : (a : Activity) (q : SuspendedProgram) (bs : List ℕ) → runs a.running ≡ false → buffer_after (resumed a q).running running.Idle bs ≡ held_after q (with_running (resumed a q) running.Idle) bs
unfolding buffer_after held_after kept_if
ended_buffer a (program.Program l w) bs h = refl
ended_buffer a (program.Buffer l n d) bs h = refl
ended_buffer a program.Nothing bs h = by_erase a.erase
  where
    by_erase : (e : Option SuspendedErase) → buffer_after (resumed_erase a e).running running.Idle bs ≡ bs
    by_erase None = ap (λ (r : Running). buffer_after r running.Idle bs) (nothing_running a.running h)
    by_erase (Some e) = refl

buffer_is : (s : State) (p : Place) (w : ℕ) (c : Command)
    → buffer_by s w (command_change s.control.activity s.control.supply p c)
    ≡ held_after s.control.activity.program (first_cycle (view_at s p) p c).control.activity s.buffer
unfolding first_cycle ended
buffer_is s p w = of_command (λ (k : Change) (x : View). buffer_by s w k ≡ held_after s.control.activity.program x.control.activity s.buffer) (view_at s p) p (record {
  modes = λ m. left s.control.activity refl;
  suspends = sym (first_holds (view_at s p) p command.Suspend s.buffer (λ k. absurd (false≢true k)));
  resumes =
      λ r t. sym (rw (resume_supplied s.control r t) at
      (first_holds (view_at s p) p command.Resume s.buffer (λ k. rw t)));
  ends = λ r t. ended_buffer s.control.activity s.control.activity.program s.buffer r;
  clears = sym (first_holds (view_at s p) p command.ClearStatus s.buffer (λ k. absurd (false≢true k)));
  sets_up = λ x. left (with_setup s.control.activity x) refl;
  stays = left s.control.activity refl;
})
  where
    left : (a : Activity) → a.program ≡ s.control.activity.program
        → s.buffer ≡ held_after s.control.activity.program a s.buffer
    left a e = sym (held_left s.control.activity.program a s.buffer e)

-- a load's data cycle as the definition has it: its view, its buffer, and what is suspended stays
abbrev Loads : State → Place → ℕ → Setup → Change → Type 0
Loads s p w x k =
    (first_by (view_at s p) k ≡ cycle (geometry s) (view_at s p) x p w)
    × ((r : Running) → buffer_by s w k ≡ loaded (geometry s) x p w r s.buffer)
    × ((cycle (geometry s) (view_at s p) x p w).control.activity.program ≡ s.control.activity.program)

second_loads : (s : State) (p : Place) (w : ℕ) (x : Setup) → told (second_change x p) ≡ false → Loads s p w x (second_change x p)
unfolding cycle words_cycle loads loaded words_loaded kept_if
second_loads s p w setup.Nothing h = absurd (true≢false h)
second_loads s p w setup.Program h = absurd (true≢false h)
second_loads s p w setup.Erase h = absurd (true≢false h)
second_loads s p w setup.Lock h = absurd (true≢false h)
second_loads s p w (setup.BufferCount b) h = absurd (true≢false h)
second_loads s p w (setup.BufferFirst b n) h = absurd (true≢false h)
second_loads s p w (setup.BufferWords l n due) h =
    by_cond (λ (k : Change). told k ≡ false → Loads s p w (setup.BufferWords l n due) k) (eqb due 0) _ _
    (λ e h. absurd (true≢false h))
    (λ e. by_cond (λ (k : Change). told k ≡ false → Loads s p w (setup.BufferWords l n due) k) (later_right l n p) _ _
    (λ f h. (rw (e, f), λ r. rw (e, f), rw (e, f)))
    (λ f h. absurd (true≢false h)))
    h

-- a write that changes little changes that
pub change_put : (s : State) (p : Place) (w : ℕ) (k : Change) → k ≡ change_of s.control.activity s.control.supply p w
    → told k ≡ false → put_change s p w k ≡ written_at s p w
unfolding written_at loaded
change_put s p w k e h = go (pending s.control.activity.setup) refl
  where
    a : Activity
    a = s.control.activity

    by_parts : first_by (view_at s p) k ≡ cycle_at s p w → buffer_by s w k ≡ loaded_at s p w (cycle_at s p w).control.activity
        → put_change s p w k ≡ written_at s p w
    by_parts f b = sym (put_view s p w k h) ∙ rw (f, b)

    go : (t : Bool) → pending a.setup ≡ t → put_change s p w k ≡ written_at s p w
    go true q =
        let d : k ≡ second_change a.setup p = e ∙ rw q in
        let l = second_loads s p w a.setup (sym (ap told d) ∙ h) in
        let f : first_by (view_at s p) k ≡ cycle_at s p w = ap (first_by (view_at s p)) d ∙ l.0 in
        by_parts f
        (ap (buffer_by s w) d ∙ l.1 _ ∙ sym (held_left a.program (cycle_at s p w).control.activity _ l.2))
    go false q =
        let n = nothing_pending a.setup q in
        let c : k ≡ command_change a s.control.supply p (command_of (w % 256)) = e ∙ rw q in
        by_parts
        (ap (first_by (view_at s p)) c ∙ first_is (view_at s p) p (command_of (w % 256)) ∙ cycle_first (geometry s) (view_at s p) a.setup p w q)
        (ap (buffer_by s w) c ∙ buffer_is s p w (command_of (w % 256))
        ∙ ap (λ (v : View). held_after a.program v.control.activity s.buffer) (cycle_first (geometry s) (view_at s p) a.setup p w q)
        ∙ ap (λ (x : Setup). held_after a.program (cycle_at s p w).control.activity (loaded (geometry s) x p w (cycle_at s p w).control.activity.running s.buffer)) (sym n))

-- one that is told by its view is what that says
pub change_told : (s : State) (p : Place) (w : ℕ) → change.View ≡ change_of s.control.activity s.control.supply p w → told_at s p w ≡ cycle_at s p w
change_told s p w e = go (pending s.control.activity.setup) refl
  where
    a : Activity
    a = s.control.activity

    go : (t : Bool) → pending a.setup ≡ t → told_at s p w ≡ cycle_at s p w
    go true q = told_pending (geometry s) (view_at s p) a.setup p w q
    go false q =
        let n = nothing_pending a.setup q in
        let c : change.View ≡ command_change a s.control.supply p (command_of (w % 256)) = e ∙ rw q in
        ap (λ (x : Setup). told_cycle (geometry s) (view_at s p) x p w) n ∙ ap (first_by (view_at s p)) c ∙ first_is (view_at s p) p (command_of (w % 256))
        ∙ cycle_first (geometry s) (view_at s p) a.setup p w q

-- ---- a cycle that is told by its view leaves what is suspended, and the supply

-- the control with the set-up, what runs, the flags and the configuration register of a view
abbrev pub settled_in : Control → View → Control
settled_in c v = record {
  activity = activity v.control.activity.setup v.control.activity.running c.activity.program c.activity.erase;
  flags = v.control.flags;
  configuration = v.control.configuration;
  supply = c.supply;
}

abbrev Left : View → View → Type 0
Left v x =
    (x.control.activity.program ≡ v.control.activity.program) × (x.control.activity.erase ≡ v.control.activity.erase) × (x.control.supply ≡ v.control.supply)

told_left : (g : Geometry) (v : View) (c : Setup) (p : Place) (w : ℕ) → Left v (told_cycle g v c p w)
unfolding clear_status settle
told_left g v c p w =
    by_test (pending c)
    (λ e. rw (told_pending g v c p w e) (of_second (Left v) v p g c w e (record { raises = λ f. same; starts = λ r t. same; protects = λ b. same; stores = λ i l n. same; loads = λ x. same })))
    (λ e. rw (nothing_pending c e) (of_cond (Left v) (runs v.control.activity.running) _ _ same same))
  where
    same : Left v v
    same = (refl, refl, refl)

pub told_settled : (s : State) (p : Place) (w : ℕ) → settled_in s.control (told_at s p w) ≡ (told_at s p w).control
told_settled s p w =
    let v : View = told_at s p w in
    let l = told_left (geometry s) (view_at s p) s.control.activity.setup p w in
    let x = sym l.0 in
    let y = sym l.1 in
    let z = sym l.2 in
    λ j. record { activity = activity v.control.activity.setup v.control.activity.running (x j) (y j); flags = v.control.flags; configuration = v.control.configuration; supply = z j }

-- and the words of a suspended buffer program
told_held : (s : State) (p : Place) (w : ℕ) (bs : List ℕ) → held_after s.control.activity.program (told_at s p w).control.activity bs ≡ bs
told_held s p w bs = held_left s.control.activity.program (told_at s p w).control.activity bs (told_left (geometry s) (view_at s p) s.control.activity.setup p w).0

-- the state after a write that is told by its view v, with the protection words u and the buffer bs that it leaves
pub told_put : (s : State) (p : Place) (w : ℕ) (v : View) (u bs : List ℕ) → change.View ≡ change_of s.control.activity s.control.supply p w → v ≡ told_at s p w
    → u ≡ with_unprotected s.unprotected p.block v.unprotected → bs ≡ loaded (geometry s) s.control.activity.setup p w v.control.activity.running s.buffer
    → ◌≡◌ {A = State} (record { part = s.part; banks = set s.banks p.bank (record { mode = v.mode }); unprotected = u; control = settled_in s.control v; buffer = bs }) (written_at s p w)
unfolding written_at
told_put s p w v u bs e f h i =
    let z : bs ≡ loaded_at s p w v.control.activity = i ∙ sym (rw f (told_held s p w _)) in
    rw (z, h, f, told_settled s p w, change_told s p w e)
