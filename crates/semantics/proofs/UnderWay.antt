-- The device as the recorder would see it: its conditions, and what is under way as a stack. The stack answers as the
-- device does, and moves as it does by work and where the supply goes off. Assumes nothing.
use Rattle.std.specs.Prelude.{◌≡◌, List, [], ◌∷◌, Bool, ◌&&◌, ◌||◌, ltb, eqb, Option, Some, None}
use Rattle.std.proofs.Math.Path.{refl, ap}
use Rattle.std.proofs.Common.{sym, ◌∙◌, arith}
use Rattle.std.proofs.Math.Bool.{true, false, cond, or-false}
use Prim.Native.Nat.{ℕ, ◌+◌, ◌-◌, ◌<◌, min}
use Rattle.std.specs.Int.Bits.{bit_and}
use borrow.Author.Tests.{ltb-true, ltb-false, eqb-true, eqb-false, eq-eqb, ne_eqb}
use Rattle.geometry.specs.declared.Geometry.{Geometry}
use Rattle.geometry.specs.Blocks.{size_of}
use Rattle.protection.specs.Words.{is_unprotected}
use Rattle.semantics.specs.declared.Setup.{Setup}
use Rattle.semantics.specs.declared.Setup.TheVariants as setup
use Rattle.semantics.specs.declared.Running.{Running}
use Rattle.semantics.specs.declared.Running.TheVariants as running
use Rattle.semantics.specs.declared.SuspendedProgram.{SuspendedProgram}
use Rattle.semantics.specs.declared.SuspendedProgram.TheVariants as program
use Rattle.semantics.specs.declared.SuspendedErase.{SuspendedErase}
use Rattle.semantics.specs.declared.Activity.{Activity}
use Rattle.semantics.specs.declared.State.{State}
use Rattle.semantics.specs.Branches.{by_cond}
use Rattle.semantics.specs.Numbers.{within, within_in, within_out, within_true}
use Rattle.semantics.specs.State.{runs, program_suspended, erase_suspended, empty_buffer}
use Rattle.semantics.specs.Buffer.{words_in, words_length, words_word}
use Rattle.semantics.specs.WellFormed.{erasing}
use Rattle.semantics.specs.Writing.{kept_if}
use Rattle.semantics.specs.Working.{units_left, units_done, running_after, word_after, buffer_after}
use Rattle.semantics.specs.Entries.{Live, live, any_live}
use Rattle.semantics.specs.Recorder as recorder
use Rattle.semantics.specs.Recorder.{Operation, supplied, units, Conditions, is_program, is_erase_of, is_any, no_setup, program_setup, erase_setup, lock_setup, count_setup, first_setup, words_setup}
use Rattle.semantics.proofs.Engine.{Engine, engine, held?, engine_after, words_after_event}

-- with the buffer bs
abbrev pub setup_of : List ℕ → Setup → recorder.Setup
setup_of bs setup.Nothing = no_setup
setup_of bs setup.Program = program_setup
setup_of bs setup.Erase = erase_setup
setup_of bs setup.Lock = lock_setup
setup_of bs (setup.BufferCount b) = count_setup b
setup_of bs (setup.BufferFirst b n) = first_setup b n
setup_of bs (setup.BufferWords l n due) = words_setup l (words_in bs n) due

abbrev pub conditions : State → Conditions
conditions s = record { supply = s.control.supply; unprotected = λ b. is_unprotected s.unprotected b; setup = setup_of s.buffer s.control.activity.setup }

-- what is under way as a stack
abbrev pub add_erase : Option SuspendedErase → List (Live Operation)
add_erase None = []
add_erase (Some e) = live (recorder.erase e.block) e.done ∷ []

abbrev pub add_program : List ℕ → SuspendedProgram → List (Live Operation) → List (Live Operation)
add_program bs program.Nothing l = l
add_program bs (program.Program a w) l = live (recorder.program a w) 0 ∷ l
add_program bs (program.Buffer a n d) l = live (recorder.buffer a (words_in bs n)) d ∷ l

abbrev pub add_running : List ℕ → Running → List (Live Operation) → List (Live Operation)
add_running bs running.Idle l = l
add_running bs (running.Program a w) l = live (recorder.program a w) 0 ∷ l
add_running bs (running.Erase b n) l = live (recorder.erase b) n ∷ l
add_running bs (running.Buffer a n d) l = live (recorder.buffer a (words_in bs n)) d ∷ l

abbrev pub under_way_of : List ℕ → Running → SuspendedProgram → Option SuspendedErase → Engine
under_way_of bs r p e = engine (runs r) (add_running bs r (add_program bs p (add_erase e)))

abbrev pub under_way_in : List ℕ → Activity → Engine
under_way_in bs a = under_way_of bs a.running a.program a.erase

abbrev pub under_way : State → Engine
under_way s = under_way_in s.buffer s.control.activity

-- which of the three go together
abbrev pub Together : Running → SuspendedProgram → Option SuspendedErase → Type 0
Together running.Idle p e = Unit {0}
Together (running.Program l w) program.Nothing e = Unit {0}
Together (running.Program l w) (program.Program k v) e = ⊥
Together (running.Program l w) (program.Buffer k v d) e = ⊥
Together (running.Erase b n) program.Nothing None = Unit {0}
Together (running.Erase b n) program.Nothing (Some e) = ⊥
Together (running.Erase b n) (program.Program k v) e = ⊥
Together (running.Erase b n) (program.Buffer k v d) e = ⊥
Together (running.Buffer l n d) program.Nothing e = Unit {0}
Together (running.Buffer l n d) (program.Program k v) e = ⊥
Together (running.Buffer l n d) (program.Buffer k v i) e = ⊥

-- the same as the four ways in which they do
pub data Beside : Running → SuspendedProgram → Option SuspendedErase → Type 0 where
  none_is_running : (p : SuspendedProgram) (e : Option SuspendedErase) → Beside running.Idle p e
  program_is_running : (l w : ℕ) (e : Option SuspendedErase) → Beside (running.Program l w) program.Nothing e
  buffer_is_running : (l n d : ℕ) (e : Option SuspendedErase) → Beside (running.Buffer l n d) program.Nothing e
  erase_is_running : (b n : ℕ) → Beside (running.Erase b n) program.Nothing None

pub beside : (r : Running) (p : SuspendedProgram) (e : Option SuspendedErase) → Together r p e → Beside r p e
beside running.Idle p e m = none_is_running p e
beside (running.Program l w) program.Nothing e m = program_is_running l w e
beside (running.Program l w) (program.Program k v) e m = absurd m
beside (running.Program l w) (program.Buffer k v d) e m = absurd m
beside (running.Erase b n) program.Nothing None m = erase_is_running b n
beside (running.Erase b n) program.Nothing (Some e) m = absurd m
beside (running.Erase b n) (program.Program k v) e m = absurd m
beside (running.Erase b n) (program.Buffer k v d) e m = absurd m
beside (running.Buffer l n d) program.Nothing e m = buffer_is_running l n d e
beside (running.Buffer l n d) (program.Program k v) e m = absurd m
beside (running.Buffer l n d) (program.Buffer k v i) e m = absurd m

-- ---- the stack answers as the device does

module _ (bs : List ℕ) where
  held_under_way : (r : Running) (p : SuspendedProgram) (e : Option SuspendedErase) (q : Operation → Bool) → held? (under_way_of bs r p e) q ≡ any_live q (add_program bs p (add_erase e))
  held_under_way running.Idle p e q = refl
  held_under_way (running.Program l w) p e q = refl
  held_under_way (running.Erase b n) p e q = refl
  held_under_way (running.Buffer l n d) p e q = refl

  pub under_way_program : (r : Running) (p : SuspendedProgram) (e : Option SuspendedErase) → held? (under_way_of bs r p e) is_program ≡ program_suspended p
  under_way_program r p e = held_under_way r p e is_program ∙ go p e
    where
      go : (p : SuspendedProgram) (e : Option SuspendedErase) → any_live is_program (add_program bs p (add_erase e)) ≡ program_suspended p
      go (program.Program l w) e = refl
      go (program.Buffer l n d) e = refl
      go program.Nothing None = refl
      go program.Nothing (Some e) = refl

  pub under_way_any : (r : Running) (p : SuspendedProgram) (e : Option SuspendedErase) → held? (under_way_of bs r p e) is_any ≡ (program_suspended p || erase_suspended e)
  under_way_any r p e = held_under_way r p e is_any ∙ go p e
    where
      go : (p : SuspendedProgram) (e : Option SuspendedErase) → any_live is_any (add_program bs p (add_erase e)) ≡ (program_suspended p || erase_suspended e)
      go (program.Program l w) e = refl
      go (program.Buffer l n d) e = refl
      go program.Nothing None = refl
      go program.Nothing (Some e) = refl

module _ (g : Geometry) (bs : List ℕ) where
  pub under_way_erasing : (r : Running) (p : SuspendedProgram) (e : Option SuspendedErase) (b : ℕ) → held? (under_way_of bs r p e) (is_erase_of g b) ≡ erasing e b
  under_way_erasing r p e b = held_under_way bs r p e (is_erase_of g b) ∙ go p e
    where
      go : (p : SuspendedProgram) (e : Option SuspendedErase) → any_live (is_erase_of g b) (add_program bs p (add_erase e)) ≡ erasing e b
      go (program.Program l w) None = refl
      go (program.Program l w) (Some e) = or-false (eqb e.block b)
      go (program.Buffer l n d) None = refl
      go (program.Buffer l n d) (Some e) = or-false (eqb e.block b)
      go program.Nothing None = refl
      go program.Nothing (Some e) = or-false (eqb e.block b)

  -- ---- the stack moves as the device does

  -- an erase or a buffer program that runs lacks a word
  abbrev pub Lacking : Running → Type 0
  Lacking running.Idle = Unit {0}
  Lacking (running.Program l w) = Unit {0}
  Lacking (running.Erase b n) = n < size_of g b
  Lacking (running.Buffer l n d) = d < n

  -- what runs after n units were offered
  abbrev after_units : ℕ → Running → Running
  after_units n r = running_after g r (units_done g r n)

  pub under_way_worked : (n : ℕ) (r : Running) (p : SuspendedProgram) (e : Option SuspendedErase) → Lacking r → Together r p e
      → under_way_of (buffer_after r (after_units n r) bs) (after_units n r) p e ≡ engine_after g (units n) (under_way_of bs r p e)
  unfolding running_after units_done units_left buffer_after kept_if
  under_way_worked n running.Idle p e h i = refl
  under_way_worked n (running.Program l w) p e h i =
      by_cond (λ (r : Running). under_way_of bs r p e ≡ engine_after g (units n) (under_way_of bs (running.Program l w) p e)) (ltb (min n 1) 1) _ _
      (λ x. let z : 0 + min n (1 - 0) ≡ 0 = omega (arith, ltb-true (min n 1) 1 x) in rw (ne_eqb (0 + min n (1 - 0)) 1 (λ y. omega arith), z))
      (λ x. rw (eq-eqb (0 + min n (1 - 0)) 1 (omega (arith, ltb-false (min n 1) 1 x))))
  under_way_worked n (running.Erase b u) p e h i =
      let m : ℕ = u + min n (size_of g b - u) in
      by_cond (λ (r : Running). under_way_of bs r p e ≡ engine_after g (units n) (under_way_of bs (running.Erase b u) p e)) (ltb m (size_of g b)) _ _
      (λ x. let y = ltb-true m (size_of g b) x in rw (ne_eqb m (size_of g b) (λ z. omega arith)))
      (λ x. rw (eq-eqb m (size_of g b) (omega (arith, ltb-false m (size_of g b) x))))
  under_way_worked n (running.Buffer l k u) (program.Program c v) e h i = absurd i
  under_way_worked n (running.Buffer l k u) (program.Buffer c v d) e h i = absurd i
  under_way_worked n (running.Buffer l k u) program.Nothing e h i =
      let m : ℕ = u + min n (k - u) in
      rw (words_length bs k)
      (by_cond (λ (r : Running). under_way_of (cond (runs r) bs empty_buffer) r program.Nothing e ≡ cond (eqb m k) (engine false (add_erase e)) (engine true (live (recorder.buffer l (words_in bs k)) m ∷ add_erase e))) (ltb m k) _ _
      (λ x. let y = ltb-true m k x in rw (ne_eqb m k (λ z. omega arith))) (λ x. rw (eq-eqb m k (omega (arith, ltb-false m k x)))))

  -- the same where the supply goes off: what runs ends
  pub under_way_off : (r : Running) (p : SuspendedProgram) (e : Option SuspendedErase) → Together r p e
      → under_way_of (buffer_after r running.Idle bs) running.Idle p e ≡ engine_after g (supplied false) (under_way_of bs r p e)
  unfolding buffer_after kept_if
  under_way_off running.Idle p e m = refl
  under_way_off (running.Program l w) p e m = refl
  under_way_off (running.Erase b n) p e m = refl
  under_way_off (running.Buffer l n d) program.Nothing e m = refl
  under_way_off (running.Buffer l n d) (program.Program k v) e m = absurd m
  under_way_off (running.Buffer l n d) (program.Buffer k v i) e m = absurd m

  one_word : (l n L : ℕ) → (eqb L l && ltb 0 (min n 1)) ≡ within (l + 0) (min n (1 - 0)) L
  one_word l n L = go (eqb L l) refl (ltb 0 (min n 1)) refl
    where
      go : (s : Bool) → eqb L l ≡ s → (t : Bool) → ltb 0 (min n 1) ≡ t → (s && t) ≡ within (l + 0) (min n (1 - 0)) L
      go true e true f = let x = eqb-true L l e in let y = ltb-true 0 (min n 1) f in sym (within_in (l + 0) (min n (1 - 0)) L (omega arith) (omega arith))
      go true e false f = let y = ltb-false 0 (min n 1) f in sym (within_out (l + 0) (min n (1 - 0)) L (λ a b. omega arith))
      go false e t f = let x = eqb-false L l e in sym (within_out (l + 0) (min n (1 - 0)) L (λ a b. omega arith))

  -- two words that are the same where it matters
  same : (t : Bool) {x y : ℕ} (z : ℕ) → (t ≡ true → x ≡ y) → cond t x z ≡ cond t y z
  same true z h = h refl
  same false z h = refl

  -- the words after work, as the recorder's event has them
  pub words_under_way : (n : ℕ) (r : Running) (p : SuspendedProgram) (e : Option SuspendedErase) (m : ℕ → ℕ) (L : ℕ)
      → word_after g bs r (units_done g r n) L (m L) ≡ words_after_event g (units n) (under_way_of bs r p e) m L
  unfolding word_after units_done units_left
  words_under_way n running.Idle p e m L = refl
  words_under_way n (running.Program l w) p e m L = ap (λ (t : Bool). cond t (bit_and (m L) w) (m L)) (one_word l n L)
  words_under_way n (running.Erase b u) p e m L = refl
  words_under_way n (running.Buffer l k u) p e m L =
      rw (words_length bs k)
      (same (within (l + u) (min n (k - u)) L) (m L) (λ e. ap (λ (x : ℕ). bit_and (m L) x) (sym (words_word bs k (L - l) (omega (arith, within_true (l + u) (min n (k - u)) L e))))))
