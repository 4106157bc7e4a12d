-- Laws of playing a list step by step. Assumes nothing.
use Rattle.std.specs.Prelude.{ℕ, zero, suc, ◌+◌, ◌≤◌, ◌<◌, List, [], ◌∷◌, ◌++◌, ◌≡◌, Bool, length, get_or, take, set, Option, Some, None}
use Rattle.std.proofs.Math.Path.{refl}
use Rattle.std.proofs.Common.{sym, ap, ◌∙◌, subst, arith, add-one, length-set}
use Rattle.std.proofs.Math.Seq.{take-length}
use Rattle.refusal.specs.declared.Refusal.{Refusal}
use Rattle.geometry.specs.declared.Part.{Part}
use Rattle.geometry.specs.declared.Geometry.{Geometry}
use Rattle.geometry.specs.Blocks.{geometry_of}
use Rattle.geometry.specs.Laws.{sound, location_lt, part_bank_lt}
use Rattle.semantics.specs.declared.Control.{Control}
use Rattle.semantics.specs.declared.State.{State}
use Rattle.semantics.specs.declared.Next.{Next}
use Rattle.semantics.specs.declared.Step.{Step}
use Rattle.semantics.specs.declared.Answer.{Answer}
use Rattle.semantics.specs.declared.Answer.TheVariants.{Word, Units, Done, Refused}
use Rattle.semantics.specs.declared.Step.TheVariants.{Read, Write, Work, Supply, Reset}
use Rattle.semantics.specs.declared.Place.{Place}
use Rattle.semantics.specs.Steps.{switched_to, Machine}
use Rattle.semantics.specs.Supply.{switched}
use Rattle.semantics.specs.Encoding.{decode}
use Rattle.semantics.specs.Demand.{Demand3}
use Rattle.semantics.proofs.Standing.{demand_3_whole}
use Rattle.wear.specs.Counts.{Counts, counts_after}
use Rattle.wear.specs.Steps.{Counted, answer_with, after_with, after_all_with, answers_with, fresh_with}
use Rattle.wear.proofs.Refused.{shared_all, fresh_shared, all_alone, all_same}
use Rattle.wear.specs.Claim.{CountsStand}
use Rattle.wear.proofs.Theorem.{counts_stand}
use Rattle.wear.specs.Held.{Held, Does}
use Rattle.wear.proofs.Held.{length_with, held_next, does_refused, does_read, does_write, does_work, does_supply, does_reset}
use Rattle.semantics.specs.State.{geometry, set_activity, with_control, with_buffer, with_running, with_supply, power_up}
use Rattle.semantics.specs.Reading.{read_word}
use Rattle.semantics.specs.Writing.{written_at}
use Rattle.semantics.specs.Working.{array_after, buffer_after, worked_on}
use Rattle.working.specs.declared.Progress.{Progress}
use Rattle.working.specs.Progress.{progress_of}
use Rattle.device.specs.declared.Device.{Device}
use Rattle.device.specs.declared.Outcome.{Outcome}
use Rattle.device.specs.Outcomes.{holding, outcome_of, outcome, array_out, counts_out}
use Rattle.playback.specs.declared.Task.TheVariants as task
use Rattle.playback.specs.Tasks.{Means}
use Rattle.playback.specs.Playback.{go_on, playable, answer_code, room_after, machine_of, Journaled, CountsJournaled, Played}

-- ---- lists of steps

pub after_all_append : (l k : List Step) (m : Counted) → after_all_with m (l ++ k) ≡ after_all_with (after_all_with m l) k
after_all_append [] k m = refl
after_all_append (x ∷ l) k m = after_all_append l k (after_with m x)

pub answers_append : (l k : List Step) (m : Counted) → answers_with m (l ++ k) ≡ answers_with m l ++ answers_with (after_all_with m l) k
answers_append [] k m = refl
answers_append (x ∷ l) k m = ap (λ (r : List Answer). answer_with m x ∷ r) (answers_append l k (after_with m x))

pub answers_length : (l : List Step) (m : Counted) → length (answers_with m l) ≡ length l
answers_length [] m = refl
answers_length (x ∷ l) m = ap suc (answers_length l (after_with m x))

-- ---- which steps are played

-- a number that encodes a step is played, where all before it were and there is room
pub playable_next : (codes : List ℕ) (n i : ℕ) (x : Step) → i ≤ length (playable codes n) → i < length codes → i < n → decode (get_or codes i 0) ≡ Some x
    → (take (suc i) (playable codes n) ≡ take i (playable codes n) ++ (x ∷ [])) × (suc i ≤ length (playable codes n))
unfolding playable
playable_next [] n i x h p q e = absurd (omega arith)
playable_next (c ∷ l) zero i x h p q e = absurd (omega arith)
playable_next (c ∷ l) (suc n) zero x h p q e = rw e (refl, omega arith)
playable_next (c ∷ l) (suc n) (suc i) x h p q e = go (decode c) h (λ k. playable_next l n i x k (omega arith) (omega arith) e)
  where
    go : (y : Option Step) → suc i ≤ length (go_on y (λ z. z ∷ playable l n))
        → (i ≤ length (playable l n) → (take (suc i) (playable l n) ≡ take i (playable l n) ++ (x ∷ [])) × (suc i ≤ length (playable l n)))
        → (take (suc (suc i)) (go_on y (λ z. z ∷ playable l n)) ≡ take (suc i) (go_on y (λ z. z ∷ playable l n)) ++ (x ∷ [])) × (suc (suc i) ≤ length (go_on y (λ z. z ∷ playable l n)))
    go None k f = absurd (omega arith)
    go (Some z) k f = let r = f (omega arith) in (ap (λ (t : List Step). z ∷ t) r.0, omega (arith, r.1))

-- and it is the end where it encodes none, or nothing is left, or no room
pub playable_stop : (codes : List ℕ) (n i : ℕ) → i ≤ length (playable codes n) → (i < length codes → i < n → decode (get_or codes i 0) ≡ None) → length (playable codes n) ≡ i
unfolding playable
playable_stop [] n i h e = omega arith
playable_stop (c ∷ l) zero i h e = omega arith
playable_stop (c ∷ l) (suc n) zero h e = rw (e (omega arith) (omega arith))
playable_stop (c ∷ l) (suc n) (suc i) h e = go (decode c) h (λ k. playable_stop l n i k (λ p q. e (omega arith) (omega arith)))
  where
    go : (y : Option Step) → suc i ≤ length (go_on y (λ z. z ∷ playable l n)) → (i ≤ length (playable l n) → length (playable l n) ≡ i) → length (go_on y (λ z. z ∷ playable l n)) ≡ suc i
    go None k f = absurd (omega arith)
    go (Some z) k f = ap suc (f (omega arith))

-- ---- the room

room_none : (room : List ℕ) → room ≡ room_after room []
unfolding room_after
room_none room = refl

room_next : (ans : List Answer) (room : List ℕ) (a : Answer) → length ans < length room → set (room_after room ans) (length ans) (answer_code a) ≡ room_after room (ans ++ (a ∷ []))
unfolding room_after
room_next [] [] a h = absurd (omega arith)
room_next [] (r ∷ room) a h = refl
room_next (b ∷ ans) [] a h = absurd (omega arith)
room_next (b ∷ ans) (r ∷ room) a h = ap (λ (t : List ℕ). answer_code b ∷ t) (room_next ans room a (omega arith))

-- ---- the loop: the first i numbers have been played

pub record Sofar (d₀ : Device) (k₀ : Counts) (codes room xs : List ℕ) (i : ℕ) (d : Device) (k : Counts) (answers array : List ℕ) : Type 0 where
  pub within : i ≤ length (playable codes (length room))
  pub machine : machine_of d k array ≡ after_all_with (machine_of d₀ k₀ xs) (take i (playable codes (length room)))
  pub written : answers ≡ room_after room (answers_with (machine_of d₀ k₀ xs) (take i (playable codes (length room))))

pub sofar_none : (d : Device) (k : Counts) (codes room xs : List ℕ) → Sofar d k codes room xs 0 d k room xs
sofar_none d k codes room xs = record { within = omega arith; machine = refl; written = room_none room }

length_take_le : (l : List Step) (i : ℕ) → i ≤ length l → length (take i l) ≡ i
length_take_le l zero h = refl
length_take_le [] (suc i) h = absurd (omega arith)
length_take_le (x ∷ l) (suc i) h = ap suc (length_take_le l i (omega arith))

-- one number more: the step that it encodes was played on the device with its counts and the array, and its answer written at place i
pub sofar_next : (d₀ : Device) (k₀ : Counts) (codes room xs : List ℕ) (i : ℕ) (d : Device) (k : Counts) (answers array : List ℕ) (x : Step) (o : Outcome) (array' : List ℕ) (k' : Counts)
    → Sofar d₀ k₀ codes room xs i d k answers array → i < length codes → i < length room → decode (get_or codes i 0) ≡ Some x → o ≡ outcome d k array x → array' ≡ array_out d k array x
    → k' ≡ counts_out d k array x → Sofar d₀ k₀ codes room xs (suc i) o.device k' (set answers i (answer_code o.answer)) array'
sofar_next d₀ k₀ codes room xs i d k answers array x o array' k' s p q e f h w =
    let l : List Step = playable codes (length room) in
    let m₀ : Counted = machine_of d₀ k₀ xs in
    let m : Counted = after_all_with m₀ (take i l) in
    let n = playable_next codes (length room) i x s.within p q e in
    let c : length (answers_with m₀ (take i l)) ≡ i = answers_length (take i l) m₀ ∙ length_take_le l i s.within in
    let a : o.answer ≡ answer_with m x =
    ap (λ (y : Outcome). y.answer) f ∙ ap (λ (y : Counted). answer_with y x) s.machine
    in
    record {
      within = n.1;
      machine =
          (λ j. record { machine = record { state = (f j).device.state; array = h j }; counts = w j }) ∙ ap (λ (y : Counted). after_with y x) s.machine ∙ sym (after_all_append (take i l) (x ∷ []) m₀)
          ∙ ap (λ (t : List Step). after_all_with m₀ t) (sym n.0);
      written =
          ap (λ (r : List ℕ). set r i (answer_code o.answer)) s.written
          ∙ ap (λ (t : ℕ). set (room_after room (answers_with m₀ (take i l))) t (answer_code o.answer)) (sym c)
          ∙ room_next (answers_with m₀ (take i l)) room o.answer (omega arith)
          ∙ ap (λ (y : Answer). room_after room (answers_with m₀ (take i l) ++ (y ∷ []))) a
          ∙ ap (λ (t : List Answer). room_after room t) (sym (answers_append (take i l) (x ∷ []) m₀))
          ∙ ap (λ (t : List Step). room_after room (answers_with m₀ t)) (sym n.0);
    }

-- demand 3 holds of whatever was played: the counts change nothing of the device and the array
pub journaled : (m : Counted) (l : List Step) → Journaled m l (after_all_with m l).machine.array
unfolding Journaled
journaled m l p xs₀ l₀ h e z =
    let c : Counted = fresh_with p xs₀ in
    subst (λ (y : Machine). Demand3 p (l₀ ++ l) xs₀ y.array)
    (sym (all_alone c (l₀ ++ l) fresh_shared) ∙ ap (λ (y : Counted). y.machine) (after_all_append l₀ l c) ∙ all_same (after_all_with c l₀) m l (shared_all c l₀ ∙ fresh_shared) z (all_alone c l₀ fresh_shared ∙ e))
    (demand_3_whole p (l₀ ++ l) xs₀ h)

-- and the counts are the journal's
pub counts_journaled : (m : Counted) (l : List Step) → CountsJournaled m l (after_all_with m l).counts
unfolding CountsJournaled
counts_journaled m l p xs₀ l₀ h e =
    subst (λ (y : Counted). CountsStand p (l₀ ++ l) y.counts) (after_all_append l₀ l (fresh_with p xs₀) ∙ ap (λ (y : Counted). after_all_with y l) e) (counts_stand p (l₀ ++ l) xs₀ h)

-- nothing more is played: the end
pub sofar_end : (d₀ : Device) (k₀ : Counts) (codes room xs : List ℕ) (i : ℕ) (d : Device) (k : Counts) (answers array : List ℕ) → Sofar d₀ k₀ codes room xs i d k answers array
    → (i < length codes → i < length room → decode (get_or codes i 0) ≡ None) → Played d₀ k₀ codes room xs (record { played = i; device = d }) k answers array
sofar_end d₀ k₀ codes room xs i d k answers array s e =
    let l : List Step = playable codes (length room) in
    let m₀ : Counted = machine_of d₀ k₀ xs in
    let n : length l ≡ i = playable_stop codes (length room) i s.within e in
    let t : take i l ≡ l = ap (λ (y : ℕ). take y l) (sym n) ∙ take-length l in
    let m : machine_of d k array ≡ after_all_with m₀ l = s.machine ∙ ap (λ (y : List Step). after_all_with m₀ y) t in
    let a : array ≡ (after_all_with m₀ l).machine.array = ap (λ (y : Counted). y.machine.array) m in
    let w : k ≡ (after_all_with m₀ l).counts = ap (λ (y : Counted). y.counts) m in
    record {
      count = sym n;
      device = ap (λ (y : Counted). y.machine.state) m;
      array_is = a;
      counts_are = w;
      answers_are = s.written ∙ ap (λ (y : List Step). room_after room (answers_with m₀ y)) t;
      journal = subst (λ (ys : List ℕ). Journaled m₀ l ys) (sym a) (journaled m₀ l);
      wear = subst (λ (y : Counts). CountsJournaled m₀ l y) (sym w) (counts_journaled m₀ l);
    }

-- the end by other names
pub played_as : (d : Device) (k : Counts) (codes room xs : List ℕ) (i i' : ℕ) (s s' : State) (l l' : Counts) (a a' y y' : List ℕ) → i ≡ i' → s ≡ s' → l ≡ l' → a ≡ a' → y ≡ y'
    → Played d k codes room xs (record { played = i'; device = holding s' }) l' a' y' → Played d k codes room xs (record { played = i; device = holding s }) l a y
played_as d k codes room xs i i' s s' l l' a a' y y' e f g h j p = rw (e, f, g, h, j) p

-- ---- the loop, with the one test of the state, its counts and the array

pub record Going (c : Option Refusal) (s₀ : State) (k₀ : Counts) (codes room xs : List ℕ) (i : ℕ) (s : State) (k : Counts) (answers array : List ℕ) : Type 0 where
  pub sofar : Sofar (holding s₀) k₀ codes room xs i (holding s) k answers array
  pub held : Held c s k array
  pub room_long : length answers ≡ length room
  pub array_long : length array ≡ length xs

pub going_none : (c : Option Refusal) (s : State) (k : Counts) (codes room xs : List ℕ) → Held c s k xs → Going c s k codes room xs 0 s k room xs
going_none c s k codes room xs r = record { sofar = sofar_none (holding s) k codes room xs; held = r; room_long = refl; array_long = refl }

-- ---- a turn: the number at hand is played, by the task that it asks

-- the state t, the answer a, the array ys and the counts l are what the step that a number encodes makes of the state with its counts and the array
abbrev pub Plays : State → Counts → List ℕ → ℕ → State → Answer → List ℕ → Counts → Type 0
Plays s k xs code t a ys l = (x : Step) × ((decode code ≡ Some x) × Does s k xs x t a ys l)

-- one number more
pub going_on : (c : Option Refusal) (s₀ : State) (k₀ : Counts) (codes room xs : List ℕ) (i : ℕ) (s : State) (k : Counts) (answers array : List ℕ) (t : State) (a : Answer) (ys : List ℕ) (l : Counts)
    → Going c s₀ k₀ codes room xs i s k answers array → i < length codes → i < length room → Plays s k array (get_or codes i 0) t a ys l → Going c s₀ k₀ codes room xs (suc i) t l (set answers i (answer_code a)) ys
going_on c s₀ k₀ codes room xs i s k answers array t a ys l g p q f =
    let x : Step = f.0 in
    let d : Does s k array x t a ys l = f.1.1 in
    record {
      sofar = sofar_next (holding s₀) k₀ codes room xs i (holding s) k answers array x (record { device = holding t; answer = a }) ys l g.sofar p q f.1.0 (ap outcome_of d.0) d.1 d.2;
      held = rw (ap (λ (n : Next). n.state) d.0, d.1, d.2) (held_next s k array x c g.held);
      room_long = length-set answers i (answer_code a) ∙ g.room_long;
      array_long = ap length d.1 ∙ length_with s k array x ∙ g.array_long;
    }

-- as the code says it: the next place is one more, and the number r that is written is the answer's
pub going_turn : (c : Option Refusal) (s₀ : State) (k₀ : Counts) (codes room xs : List ℕ) (i : ℕ) (s : State) (k : Counts) (answers array : List ℕ) (t : State) (a : Answer) (ys : List ℕ) (l : Counts) (r : ℕ)
    → r ≡ answer_code a → Going c s₀ k₀ codes room xs i s k answers array → i < length codes → i < length room → Plays s k array (get_or codes i 0) t a ys l → Going c s₀ k₀ codes room xs (i + 1) t l (set answers i r) ys
going_turn c s₀ k₀ codes room xs i s k answers array t a ys l r e g p q f = rw (add-one, e) (going_on c s₀ k₀ codes room xs i s k answers array t a ys l g p q f)

-- a number that encodes a step, on a device that is refused whatever the step is
pub all_refused : (c : Refusal) (g : Geometry) (code : ℕ) (x : Step) → decode code ≡ Some x → Means (Some c) g code (task.Refused c)
all_refused c g code x e = (x, (e, refl))

-- a reset, piece by piece: the part stays
pub reset_pieces : (q : Part) (z : State) (on : Bool) → z ≡ with_supply (power_up q) on
    → ◌≡◌ {A = State} (record { part = q; banks = z.banks; unprotected = z.unprotected; control = z.control; buffer = z.buffer }) (with_supply (power_up q) on)
unfolding power_up
reset_pieces q z on e = λ j. record { part = q; banks = (e j).banks; unprotected = (e j).unprotected; control = (e j).control; buffer = (e j).buffer }

-- a write names a bank of the part
pub write_bank : (c : Option Refusal) (q : Part) (code : ℕ) (p : Place) (w : ℕ) → Means c (geometry_of q) code (task.Write p w) → p.bank < 16
write_bank c q code p w m = rw m.1.0 (part_bank_lt q _ (location_lt (geometry_of q) (sound q) m.0))

module _ (c : Option Refusal) (s : State) (k : Counts) (xs : List ℕ) (r : Held c s k xs) (code : ℕ) (t : State) (a : Answer) (ys : List ℕ) (w : Counts) where
  pub plays_refused : (e : Refusal) → Means c (geometry s) code (task.Refused e) → t ≡ s → a ≡ Refused e → ys ≡ xs → w ≡ k → Plays s k xs code t a ys w
  plays_refused e m i j h z = (m.0, (m.1.0, does_refused c s k xs r m.0 _ _ refl refl t a ys w e m.1.1 i j h z))

  pub plays_read : (b v : ℕ) → Means c (geometry s) code (task.Read b) → v ≡ read_word s xs b → t ≡ s → a ≡ Word v → ys ≡ xs → w ≡ k → Plays s k xs code t a ys w
  plays_read b v m i j h l z = (Read b, (m.0, does_read c s k xs r (Read b) _ _ refl refl t a ys w b v m.1 refl i j h l z))

  pub plays_write : (p : Place) (v : ℕ) → Means c (geometry s) code (task.Write p v) → t ≡ written_at s p v → a ≡ Done → ys ≡ xs → w ≡ k → Plays s k xs code t a ys w
  plays_write p v m i j h z =
      let x : Step = Write m.0 v in
      (x, (m.1.1.0, does_write c s k xs r x _ _ refl refl t a ys w m.0 v p m.1.1.1 refl m.1.0 i j h z))

  pub plays_work : (n : ℕ) (o : Progress) (bs : List ℕ) → Means c (geometry s) code (task.Work n) → o ≡ progress_of (geometry s) s.control.activity.running n
      → bs ≡ buffer_after s.control.activity.running o.running s.buffer
      → t ≡ with_buffer (with_control s (set_activity s.control (with_running s.control.activity o.running))) bs → a ≡ Units o.units
      → ys ≡ array_after (geometry s) s.buffer s.control.activity.running o.units xs → w ≡ counts_after s.control.activity.running o.running k → Plays s k xs code t a ys w
  unfolding worked_on
  plays_work n o bs m i j q l h z =
      (Work n, (m.0, does_work c s k xs r (Work n) _ _ refl refl t a ys w n (worked_on (geometry s) s.control n) bs m.1 refl refl (j ∙ rw i) (q ∙ rw i) (l ∙ rw i) (h ∙ rw i) (z ∙ rw i)))

  pub plays_supply : (on : Bool) (d : Control) (bs : List ℕ) → Means c (geometry s) code (task.Supply on) → d ≡ switched s.control on
      → bs ≡ buffer_after s.control.activity.running (switched s.control on).activity.running s.buffer → t ≡ with_buffer (with_control s d) bs → a ≡ Done → ys ≡ xs → w ≡ k → Plays s k xs code t a ys w
  unfolding switched_to
  plays_supply on d bs m e f i j h z = (Supply on, (m.0, does_supply c s k xs r (Supply on) _ _ refl refl t a ys w on m.1 refl (i ∙ rw (e, f)) j h z))

  pub plays_reset : Means c (geometry s) code task.Reset → t ≡ with_supply (power_up s.part) s.control.supply → a ≡ Done → ys ≡ xs → w ≡ k → Plays s k xs code t a ys w
  plays_reset m i j h z = (Reset, (m.0, does_reset c s k xs r Reset _ _ refl refl t a ys w m.1 refl i j h z))
