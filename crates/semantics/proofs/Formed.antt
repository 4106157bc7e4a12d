-- A state that agrees with a journal is well formed; and what is under way in a well-formed state is a journal of its own, with which it agrees.
-- Assumes nothing.
use Rattle.std.specs.Prelude.{◌≡◌, List, [], ◌∷◌, Bool, true, false, ◌&&◌, ℕ, ◌+◌, ◌≤◌, ◌<◌, length, ltb, Option, Some, None}
use Rattle.std.proofs.Math.Path.{refl}
use Rattle.std.proofs.Common.{sym, ap, ◌∙◌, true≢false, arith}
use Rattle.std.proofs.Math.Bool.{not}
use Rattle.std.proofs.lemmas.Bool.{false≢true}
use Rattle.std.proofs.Math.Dec.{leb}
use borrow.Author.Tests.{lt-ltb, le-leb, ne_eqb, ltb-true, leb-true, eqb-false}
use Rattle.geometry.specs.declared.Geometry.{Geometry}
use Rattle.geometry.specs.Blocks.{Sound, words, blocks, block_of, start_of, size_of}
use Rattle.geometry.specs.Laws as laws
use Rattle.semantics.specs.declared.Setup.{Setup}
use Rattle.semantics.specs.declared.Setup.TheVariants as setup
use Rattle.semantics.specs.declared.Running.{Running}
use Rattle.semantics.specs.declared.Running.TheVariants as running
use Rattle.semantics.specs.declared.SuspendedProgram.{SuspendedProgram}
use Rattle.semantics.specs.declared.SuspendedProgram.TheVariants as program
use Rattle.semantics.specs.declared.SuspendedErase.{SuspendedErase}
use Rattle.semantics.specs.Layout.{inside, only, fits}
use Rattle.semantics.specs.State.{activity, runs, program_suspended, erase_suspended}
use Rattle.semantics.specs.WellFormed.{implies, pending, is_erase_setup, is_erase, erasing, running_alone, program_alone, erase_alone, erase_fits, words_fit, buffer_fits, setup_fits, running_fits, program_fits, suspended_erase_fits, all_fit, running_apart, program_apart, apart, activity_formed}
use Rattle.semantics.specs.Entries as entries
use Rattle.semantics.specs.Entries.{Entry, entry, Live}
use Rattle.semantics.specs.Recorder as recorder
use Rattle.semantics.specs.Recorder.{Operation, Conditions, base, len, kinds, is_program, is_any}
use Rattle.semantics.proofs.Engine.{stack, held?, Spans, Ready, Order, Inside, Lying, Sim, Matches, buffer_in_lem, and_true_l, and_true_r, not_true, or_false_l}
use Rattle.semantics.proofs.Follows.{setup_of, add_erase, add_program, add_running, under_way_of, under_way_program, under_way_any, Together, Lacking}
use Rattle.semantics.specs.Buffer.{words_in, words_length}

and_both : {a b : Bool} → a ≡ true → b ≡ true → (a && b) ≡ true
and_both p q = rw (p, q)

module _ (g : Geometry) (bs : List ℕ) where
  -- ---- from the agreement to the test

  -- the order of the stack says which of the three go together
  pub together : (r : Running) (p : SuspendedProgram) (e : Option SuspendedErase) → Order g (stack (under_way_of bs r p e)) → Together r p e
  together running.Idle p e o = tt
  together (running.Program l w) program.Nothing e o = tt
  together (running.Program l w) (program.Program k v) None o = false≢true o.1
  together (running.Program l w) (program.Program k v) (Some e) o = o
  together (running.Erase b n) program.Nothing None o = tt
  together (running.Erase b n) program.Nothing (Some e) o = true≢false o.0
  together (running.Erase b n) (program.Program k v) None o = true≢false o.0
  together (running.Erase b n) (program.Program k v) (Some e) o = o
  together (running.Program l w) (program.Buffer k v d) None o = false≢true o.1
  together (running.Program l w) (program.Buffer k v d) (Some e) o = o
  together (running.Erase b n) (program.Buffer k v d) None o = true≢false o.0
  together (running.Erase b n) (program.Buffer k v d) (Some e) o = o
  together (running.Buffer l n d) program.Nothing e o = tt
  together (running.Buffer l n d) (program.Program k v) None o = false≢true o.1
  together (running.Buffer l n d) (program.Program k v) (Some e) o = o
  together (running.Buffer l n d) (program.Buffer k v i) None o = false≢true o.1
  together (running.Buffer l n d) (program.Buffer k v i) (Some e) o = o

  pub lacking : (r : Running) (p : SuspendedProgram) (e : Option SuspendedErase) (j : List (Entry Operation)) → Matches g (runs r) (stack (under_way_of bs r p e)) j → Lacking g bs r
  lacking running.Idle p e j m = tt
  lacking (running.Program l w) p e j m = tt
  lacking (running.Erase b n) p e j m = entries.live_less (kinds g) m
  lacking (running.Buffer l n d) p e j m = let h = entries.live_less (kinds g) m in omega (arith, h, words_length bs n)

  abbrev Short : List (Live Operation) → Type 0
  Short = entries.Short (kinds g)

  abbrev Spread : List (Live Operation) → Type 0
  Spread = entries.Spread (kinds g)

  erase_fits_lem : Sound g → (b n : ℕ) → n < size_of g b → erase_fits g b n ≡ true
  unfolding erase_fits
  erase_fits_lem sound b n h = and_both (lt-ltb b (blocks g) (laws.block_real g sound b (omega arith))) (lt-ltb n (size_of g b) h)

  -- words that lie in one block, and are more than u
  words_fit_lem : (l n u : ℕ) → Spans g l (length (words_in bs n)) → u < length (words_in bs n) → buffer_fits g l n u ≡ true
  unfolding buffer_fits words_fit
  words_fit_lem l n u x h =
      let e = words_length bs n in
      let y : l + n ≤ start_of g (block_of g l) + size_of g (block_of g l) = rw e at x.1 in
      and_both (and_both (lt-ltb l (words g) x.0) (and_both (le-leb (l + n) (start_of g (block_of g l) + size_of g (block_of g l)) y) (le-leb n 32 (omega (arith, e, x.2))))) (lt-ltb u n (omega (arith, e, h)))

  fits_running : Sound g → (r : Running) (l : List (Live Operation)) → Inside g (add_running bs r l) → Short (add_running bs r l)
      → (running_fits g r ≡ true) × Inside g l × Short l
  unfolding running_fits
  fits_running sound running.Idle l i h = (refl, i, h)
  fits_running sound (running.Program a w) l i h = (lt-ltb a (words g) i.0, i.1, h.1)
  fits_running sound (running.Erase b n) l i h = (erase_fits_lem sound b n h.0, i.1, h.1)
  fits_running sound (running.Buffer a n d) l i h = (words_fit_lem a n d i.0 h.0, i.1, h.1)

  fits_program : (p : SuspendedProgram) (l : List (Live Operation)) → Inside g (add_program bs p l) → Short (add_program bs p l)
      → (program_fits g p ≡ true) × Short l
  unfolding program_fits
  fits_program program.Nothing l i h = (refl, h)
  fits_program (program.Program a w) l i h = (lt-ltb a (words g) i.0, h.1)
  fits_program (program.Buffer a n d) l i h = (words_fit_lem a n d i.0 h.0, h.1)

  fits_erase : Sound g → (e : Option SuspendedErase) → Short (add_erase e) → suspended_erase_fits g e ≡ true
  unfolding suspended_erase_fits
  fits_erase sound None h = refl
  fits_erase sound (Some e) h = erase_fits_lem sound e.block e.done h.0

  spread_running : (r : Running) (l : List (Live Operation)) → Spread (add_running bs r l) → Spread l
  spread_running running.Idle l h = h
  spread_running (running.Program a w) l h = h.1
  spread_running (running.Erase b n) l h = h.1
  spread_running (running.Buffer a n d) l h = h.1

  other_block : Sound g → (k : Operation) (e : Option SuspendedErase) → base g k < words g → 0 < len g k → entries.Apart (kinds g) k (add_erase e) → not (erasing e (block_of g (base g k))) ≡ true
  other_block sound k None v z h = refl
  other_block sound k (Some e) v z h =
      rw (ne_eqb e.block (block_of g (base g k)) (λ x. h.0 (base g k) (omega arith, omega arith) (rw (sym x) at (inside g sound (base g k) v))))

  apart_program : Sound g → (p : SuspendedProgram) (e : Option SuspendedErase) → Inside g (add_program bs p (add_erase e)) → Short (add_program bs p (add_erase e)) → Spread (add_program bs p (add_erase e)) → program_apart g e p ≡ true
  unfolding program_apart
  apart_program sound program.Nothing e i z h = refl
  apart_program sound (program.Program l w) e i z h = other_block sound (recorder.program l w) e i.0 (omega arith) h.0
  apart_program sound (program.Buffer l n d) e i z h = other_block sound (recorder.buffer l (words_in bs n)) e i.0.0 (omega (arith, z.0)) h.0

  apart_running : Sound g → (r : Running) (p : SuspendedProgram) (e : Option SuspendedErase) → Together r p e → Inside g (add_running bs r (add_program bs p (add_erase e)))
      → Short (add_running bs r (add_program bs p (add_erase e))) → Spread (add_running bs r (add_program bs p (add_erase e))) → running_apart g e r ≡ true
  unfolding running_apart
  apart_running sound running.Idle p e m i z h = refl
  apart_running sound (running.Program l w) program.Nothing e m i z h = other_block sound (recorder.program l w) e i.0 (omega arith) h.0
  apart_running sound (running.Program l w) (program.Program k v) e m i z h = absurd m
  apart_running sound (running.Program l w) (program.Buffer k v d) e m i z h = absurd m
  apart_running sound (running.Erase b n) p e m i z h = refl
  apart_running sound (running.Buffer l n d) program.Nothing e m i z h = other_block sound (recorder.buffer l (words_in bs n)) e i.0.0 (omega (arith, z.0)) h.0
  apart_running sound (running.Buffer l n d) (program.Program k v) e m i z h = absurd m
  apart_running sound (running.Buffer l n d) (program.Buffer k v f) e m i z h = absurd m

  -- a pending set-up means that nothing runs and no program is suspended
  pub setup_alone : (c : Setup) (r : Running) (p : SuspendedProgram) (e : Option SuspendedErase)
      → Ready g (setup_of bs c) (runs r) (held? (under_way_of bs r p e))
      → (pending c ≡ true → (runs r ≡ false) × (program_suspended p ≡ false))
  setup_alone setup.Nothing r p e y z = absurd (false≢true z)
  setup_alone setup.Program r p e y z = (y.0, sym (under_way_program bs r p e) ∙ y.1)
  setup_alone setup.Lock r p e y z = (y.0, sym (under_way_program bs r p e) ∙ y.1)
  setup_alone setup.Erase r p e y z = (y.0, or_false_l (program_suspended p) (erase_suspended e) (sym (under_way_any bs r p e) ∙ y.1))
  setup_alone (setup.BufferCount b) r p e y z = (y.0, sym (under_way_program bs r p e) ∙ y.1)
  setup_alone (setup.BufferFirst b n) r p e y z = (y.0, sym (under_way_program bs r p e) ∙ y.1)
  setup_alone (setup.BufferWords l n k) r p e y z = (y.0, sym (under_way_program bs r p e) ∙ y.1)

  -- and something that runs, that no program is suspended
  running_first : (r : Running) (p : SuspendedProgram) (e : Option SuspendedErase) → Together r p e → runs r ≡ true → program_suspended p ≡ false
  running_first running.Idle p e m z = absurd (false≢true z)
  running_first (running.Program l w) program.Nothing e m z = refl
  running_first (running.Program l w) (program.Program k v) e m z = absurd m
  running_first (running.Program l w) (program.Buffer k v d) e m z = absurd m
  running_first (running.Erase b n) program.Nothing e m z = refl
  running_first (running.Erase b n) (program.Program k v) e m z = absurd m
  running_first (running.Erase b n) (program.Buffer k v d) e m z = absurd m
  running_first (running.Buffer l n d) program.Nothing e m z = refl
  running_first (running.Buffer l n d) (program.Program k v) e m z = absurd m
  running_first (running.Buffer l n d) (program.Buffer k v i) e m z = absurd m

  alone_test : (a b c : Bool) → (b ≡ true → (a ≡ false) × (c ≡ false)) → (a ≡ true → c ≡ false) → (implies a (not b && not c) ≡ true) × (implies c (not b) ≡ true)
  alone_test false false false f h = (refl, refl)
  alone_test false false true f h = (refl, refl)
  alone_test false true false f h = (refl, refl)
  alone_test false true true f h = absurd (true≢false (f refl).1)
  alone_test true false false f h = (refl, refl)
  alone_test true false true f h = absurd (true≢false (h refl))
  alone_test true true c f h = absurd (true≢false (f refl).0)

  no_erase_runs : (r : Running) (p : SuspendedProgram) (e : SuspendedErase) → Together r p (Some e) → not (is_erase r) ≡ true
  no_erase_runs running.Idle p e m = refl
  no_erase_runs (running.Program l w) p e m = refl
  no_erase_runs (running.Erase c k) program.Nothing e m = absurd m
  no_erase_runs (running.Erase c k) (program.Program l w) e m = absurd m
  no_erase_runs (running.Erase c k) (program.Buffer l w d) e m = absurd m
  no_erase_runs (running.Buffer l w d) p e m = refl

  no_erase_setup : (c : Setup) (r : Running) (p : SuspendedProgram) (e : SuspendedErase) → Ready g (setup_of bs c) (runs r) (held? (under_way_of bs r p (Some e))) → not (is_erase_setup c) ≡ true
  no_erase_setup setup.Nothing r p e y = refl
  no_erase_setup setup.Program r p e y = refl
  no_erase_setup setup.Lock r p e y = refl
  no_erase_setup (setup.BufferCount c) r p e y = refl
  no_erase_setup (setup.BufferFirst c i) r p e y = refl
  no_erase_setup (setup.BufferWords l i k) r p e y = refl
  no_erase_setup setup.Erase r program.Nothing e y = absurd (true≢false (sym (under_way_any bs r program.Nothing (Some e)) ∙ y.1))
  no_erase_setup setup.Erase r (program.Buffer l w d) e y = absurd (true≢false (sym (under_way_any bs r (program.Buffer l w d) (Some e)) ∙ y.1))
  no_erase_setup setup.Erase r (program.Program l w) e y = absurd (true≢false (sym (under_way_any bs r (program.Program l w) (Some e)) ∙ y.1))

  erase_alone_lem : (c : Setup) (r : Running) (p : SuspendedProgram) (e : Option SuspendedErase) → Together r p e → Ready g (setup_of bs c) (runs r) (held? (under_way_of bs r p e))
      → implies (erase_suspended e) (not (is_erase r) && not (is_erase_setup c)) ≡ true
  erase_alone_lem c r p None m y = refl
  erase_alone_lem c r p (Some e) m y = and_both (no_erase_runs r p e m) (no_erase_setup c r p e y)

  -- a load that is ready
  fits_setup : (c : Setup) (r : Bool) (h : (Operation → Bool) → Bool) → Ready g (setup_of bs c) r h → setup_fits g c ≡ true
  unfolding setup_fits
  fits_setup setup.Nothing r h y = refl
  fits_setup setup.Program r h y = refl
  fits_setup setup.Erase r h y = refl
  fits_setup setup.Lock r h y = refl
  fits_setup (setup.BufferCount b) r h y = lt-ltb b (blocks g) y.2
  fits_setup (setup.BufferFirst b n) r h y = and_both (lt-ltb b (blocks g) y.2) (and_both (lt-ltb 0 n y.3) (le-leb n 32 y.4))
  fits_setup (setup.BufferWords l n k) r h y = words_fit_lem l n k y.3 y.2

  -- what is under way, and agrees with a journal, is well formed
  pub formed : Sound g → (d : Conditions) (c : Setup) (r : Running) (p : SuspendedProgram) (e : Option SuspendedErase) (j : List (Entry Operation)) → d.setup ≡ setup_of bs c
      → Sim g d (under_way_of bs r p e) j → activity_formed g (activity c r p e) ≡ true
  unfolding activity_formed running_alone program_alone erase_alone all_fit apart
  formed sound d c r p e j q s =
      let m = together r p e s.order in
      let y : Ready g (setup_of bs c) (runs r) (held? (under_way_of bs r p e)) = rw q at s.ready in
      let k = entries.match_short (kinds g) s.match in
      let x = fits_running sound r (add_program bs p (add_erase e)) s.inside k in
      let z = fits_program p (add_erase e) x.1 x.2 in
      let h = entries.match_spread (kinds g) s.match in
      let t = alone_test (runs r) (pending c) (program_suspended p) (setup_alone c r p e y) (running_first r p e m) in
      and_both t.0 (and_both t.1 (and_both (erase_alone_lem c r p e m y)
      (and_both (and_both (fits_setup c (runs r) (held? (under_way_of bs r p e)) y) (and_both x.0 (and_both z.0 (fits_erase sound e z.1))))
      (and_both (apart_running sound r p e m s.inside k h) (apart_program sound p e x.1 x.2 (spread_running r (add_program bs p (add_erase e)) h))))))

  -- ---- from the test to an agreement: what is under way, as a journal

  abbrev own_erase : Option SuspendedErase → List (Entry Operation)
  own_erase None = []
  own_erase (Some e) = entry (recorder.erase e.block) e.done entries.suspended ∷ []

  abbrev own_program : SuspendedProgram → List (Entry Operation) → List (Entry Operation)
  own_program program.Nothing j = j
  own_program (program.Program l w) j = entry (recorder.program l w) 0 entries.suspended ∷ j
  own_program (program.Buffer l n d) j = entry (recorder.buffer l (words_in bs n)) d entries.suspended ∷ j

  abbrev own_running : Running → List (Entry Operation) → List (Entry Operation)
  own_running running.Idle j = j
  own_running (running.Program l w) j = entry (recorder.program l w) 0 entries.running ∷ j
  own_running (running.Erase b n) j = entry (recorder.erase b) n entries.running ∷ j
  own_running (running.Buffer l n d) j = entry (recorder.buffer l (words_in bs n)) d entries.running ∷ j

  abbrev pub own : Running → SuspendedProgram → Option SuspendedErase → List (Entry Operation)
  own r p e = own_running r (own_program p (own_erase e))

  -- what the test says, by its parts
  record Parts (c : Setup) (r : Running) (p : SuspendedProgram) (e : Option SuspendedErase) : Type 0 where
    running_only : implies (runs r) (not (pending c) && not (program_suspended p)) ≡ true
    program_only : implies (program_suspended p) (not (pending c)) ≡ true
    erase_only : implies (erase_suspended e) (not (is_erase r) && not (is_erase_setup c)) ≡ true
    fits_c : setup_fits g c ≡ true
    fits_r : running_fits g r ≡ true
    fits_p : program_fits g p ≡ true
    fits_e : suspended_erase_fits g e ≡ true
    apart_r : running_apart g e r ≡ true
    apart_p : program_apart g e p ≡ true

  parts : (c : Setup) (r : Running) (p : SuspendedProgram) (e : Option SuspendedErase) → activity_formed g (activity c r p e) ≡ true → Parts c r p e
  unfolding activity_formed running_alone program_alone erase_alone all_fit apart
  parts c r p e h =
      let h₁ = and_true_r (implies (runs r) (not (pending c) && not (program_suspended p))) _ h in
      let h₂ = and_true_r (implies (program_suspended p) (not (pending c))) _ h₁ in
      let h₃ = and_true_r (implies (erase_suspended e) (not (is_erase r) && not (is_erase_setup c))) _ h₂ in
      let h₄ = and_true_l (setup_fits g c && (running_fits g r && (program_fits g p && suspended_erase_fits g e))) _ h₃ in
      let h₅ = and_true_r (setup_fits g c && (running_fits g r && (program_fits g p && suspended_erase_fits g e))) _ h₃ in
      let h₆ = and_true_r (setup_fits g c) _ h₄ in
      let h₇ = and_true_r (running_fits g r) _ h₆ in
      record {
        running_only = and_true_l (implies (runs r) (not (pending c) && not (program_suspended p))) _ h;
        program_only = and_true_l (implies (program_suspended p) (not (pending c))) _ h₁;
        erase_only = and_true_l (implies (erase_suspended e) (not (is_erase r) && not (is_erase_setup c))) _ h₂;
        fits_c = and_true_l (setup_fits g c) _ h₄;
        fits_r = and_true_l (running_fits g r) _ h₆;
        fits_p = and_true_l (program_fits g p) _ h₇;
        fits_e = and_true_r (program_fits g p) _ h₇;
        apart_r = and_true_l (running_apart g e r) _ h₅;
        apart_p = and_true_r (running_apart g e r) _ h₅;
      }

  fitted : (b n : ℕ) → erase_fits g b n ≡ true → n < size_of g b
  unfolding erase_fits
  fitted b n h = ltb-true n (size_of g b) (and_true_r (ltb b (blocks g)) _ h)

  -- the words of a load or of a buffer program that fits
  spanned : (l n u : ℕ) → buffer_fits g l n u ≡ true → Spans g l (length (words_in bs n)) × (u < length (words_in bs n))
  unfolding buffer_fits words_fit
  spanned l n u h =
      let e = words_length bs n in
      let k = and_true_l (ltb l (words g) && (leb (l + n) (start_of g (block_of g l) + size_of g (block_of g l)) && leb n 32)) _ h in
      let i = and_true_r (ltb l (words g)) _ k in
      let j = leb-true (l + n) (start_of g (block_of g l) + size_of g (block_of g l)) (and_true_l _ _ i) in
      let o = leb-true n 32 (and_true_r (leb (l + n) (start_of g (block_of g l) + size_of g (block_of g l))) _ i) in
      let t = ltb-true u n (and_true_r (ltb l (words g) && (leb (l + n) (start_of g (block_of g l) + size_of g (block_of g l)) && leb n 32)) _ h) in
      rw e ((ltb-true l (words g) (and_true_l _ _ k), j, o), t)

  -- an operation in one block is apart from the suspended erase of another
  own_apart : Sound g → (k : Operation) (b : ℕ) (e : Option SuspendedErase) → ((L : ℕ) → entries.In (kinds g) k L → block_of g L ≡ b) → not (erasing e b) ≡ true → entries.Apart (kinds g) k (add_erase e)
  own_apart sound k b None z h = tt
  own_apart sound k b (Some e) z h = ((λ L i j. eqb-false e.block b (not_true _ h) (sym (only g sound e.block L j.0 j.1) ∙ z L i)), tt)

  one_block : (l w L : ℕ) → entries.In (kinds g) (recorder.program l w) L → block_of g L ≡ block_of g l
  one_block l w L i = ap (λ (x : ℕ). block_of g x) (omega arith)

  match_erase : (e : Option SuspendedErase) → suspended_erase_fits g e ≡ true → Matches g false (add_erase e) (own_erase e)
  unfolding suspended_erase_fits
  match_erase None h = entries.start
  match_erase (Some e) h = entries.waits (recorder.erase e.block) e.done (fitted e.block e.done h) tt entries.start

  match_program : Sound g → (p : SuspendedProgram) (e : Option SuspendedErase) → program_fits g p ≡ true → suspended_erase_fits g e ≡ true → program_apart g e p ≡ true
      → Matches g false (add_program bs p (add_erase e)) (own_program p (own_erase e))
  unfolding program_fits program_apart
  match_program sound program.Nothing e z f h = match_erase e f
  match_program sound (program.Program l w) e z f h = entries.waits (recorder.program l w) 0 (omega arith) (own_apart sound (recorder.program l w) (block_of g l) e (one_block l w) h) (match_erase e f)
  match_program sound (program.Buffer l n d) e z f h =
      let x = spanned l n d z in
      entries.waits (recorder.buffer l (words_in bs n)) d x.1 (own_apart sound (recorder.buffer l (words_in bs n)) (block_of g l) e (buffer_in_lem g sound l (words_in bs n) x.0) h) (match_erase e f)

  none_beside : (c : Setup) {A : Type 0} → (not (pending c) && false) ≡ true → A
  none_beside c h = absurd (false≢true (and_true_r (not (pending c)) false h))

  match_running : Sound g → (c : Setup) (r : Running) (p : SuspendedProgram) (e : Option SuspendedErase) → Parts c r p e → Matches g (runs r) (add_running bs r (add_program bs p (add_erase e))) (own r p e)
  unfolding running_fits running_apart
  match_running sound c running.Idle p e x = match_program sound p e x.fits_p x.fits_e x.apart_p
  match_running sound c (running.Program l w) program.Nothing e x = entries.runs (recorder.program l w) 0 (omega arith) (own_apart sound (recorder.program l w) (block_of g l) e (one_block l w) x.apart_r) (match_erase e x.fits_e)
  match_running sound c (running.Program l w) (program.Program k v) e x = none_beside c x.running_only
  match_running sound c (running.Program l w) (program.Buffer k v d) e x = none_beside c x.running_only
  match_running sound c (running.Buffer l n d) program.Nothing e x =
      let y = spanned l n d x.fits_r in
      entries.runs (recorder.buffer l (words_in bs n)) d y.1 (own_apart sound (recorder.buffer l (words_in bs n)) (block_of g l) e (buffer_in_lem g sound l (words_in bs n) y.0) x.apart_r) (match_erase e x.fits_e)
  match_running sound c (running.Buffer l n d) (program.Program k v) e x = none_beside c x.running_only
  match_running sound c (running.Buffer l n d) (program.Buffer k v i) e x = none_beside c x.running_only
  match_running sound c (running.Erase b n) program.Nothing None x = entries.runs (recorder.erase b) n (fitted b n x.fits_r) tt entries.start
  match_running sound c (running.Erase b n) program.Nothing (Some e) x = absurd (false≢true x.erase_only)
  match_running sound c (running.Erase b n) (program.Program k v) e x = none_beside c x.running_only
  match_running sound c (running.Erase b n) (program.Buffer k v d) e x = none_beside c x.running_only

  order_own : (c : Setup) (r : Running) (p : SuspendedProgram) (e : Option SuspendedErase) → Parts c r p e → Order g (add_running bs r (add_program bs p (add_erase e)))
  order_own c running.Idle program.Nothing None x = tt
  order_own c running.Idle program.Nothing (Some e) x = tt
  order_own c running.Idle (program.Program l w) None x = tt
  order_own c running.Idle (program.Program l w) (Some e) x = (refl, refl)
  order_own c running.Idle (program.Buffer l w d) None x = tt
  order_own c running.Idle (program.Buffer l w d) (Some e) x = (refl, refl)
  order_own c (running.Program l w) program.Nothing None x = tt
  order_own c (running.Program l w) program.Nothing (Some e) x = (refl, refl)
  order_own c (running.Program l w) (program.Program k v) e x = none_beside c x.running_only
  order_own c (running.Program l w) (program.Buffer k v d) e x = none_beside c x.running_only
  order_own c (running.Buffer l n d) program.Nothing None x = tt
  order_own c (running.Buffer l n d) program.Nothing (Some e) x = (refl, refl)
  order_own c (running.Buffer l n d) (program.Program k v) e x = none_beside c x.running_only
  order_own c (running.Buffer l n d) (program.Buffer k v i) e x = none_beside c x.running_only
  order_own c (running.Erase b n) program.Nothing None x = tt
  order_own c (running.Erase b n) program.Nothing (Some e) x = absurd (false≢true x.erase_only)
  order_own c (running.Erase b n) (program.Program k v) e x = none_beside c x.running_only
  order_own c (running.Erase b n) (program.Buffer k v d) e x = none_beside c x.running_only

  below : Sound g → (b n : ℕ) → erase_fits g b n ≡ true → start_of g b < words g
  below sound b n h = omega (arith, fitted b n h, fits g sound b)

  inside_erase : Sound g → (e : Option SuspendedErase) → suspended_erase_fits g e ≡ true → Inside g (add_erase e)
  unfolding suspended_erase_fits
  inside_erase sound None h = tt
  inside_erase sound (Some e) h = (below sound e.block e.done h, tt)

  inside_program : Sound g → (p : SuspendedProgram) (e : Option SuspendedErase) → program_fits g p ≡ true → suspended_erase_fits g e ≡ true → Inside g (add_program bs p (add_erase e))
  unfolding program_fits
  inside_program sound program.Nothing e f h = inside_erase sound e h
  inside_program sound (program.Program l w) e f h = (ltb-true l (words g) f, inside_erase sound e h)
  inside_program sound (program.Buffer l n d) e f h = ((spanned l n d f).0, inside_erase sound e h)

  inside_running : Sound g → (r : Running) (p : SuspendedProgram) (e : Option SuspendedErase) → running_fits g r ≡ true → program_fits g p ≡ true → suspended_erase_fits g e ≡ true
      → Inside g (add_running bs r (add_program bs p (add_erase e)))
  unfolding running_fits
  inside_running sound running.Idle p e a b c = inside_program sound p e b c
  inside_running sound (running.Program l w) p e a b c = (ltb-true l (words g) a, inside_program sound p e b c)
  inside_running sound (running.Erase i n) p e a b c = (below sound i n a, inside_program sound p e b c)
  inside_running sound (running.Buffer l n d) p e a b c = ((spanned l n d a).0, inside_program sound p e b c)

  -- the journal has the operations of the stack
  lying_erase : (e : Option SuspendedErase) → Inside g (add_erase e) → Lying g (own_erase e)
  lying_erase None x = tt
  lying_erase (Some e) x = x

  lying_program : (p : SuspendedProgram) (e : Option SuspendedErase) → Inside g (add_program bs p (add_erase e)) → Lying g (own_program p (own_erase e))
  lying_program program.Nothing e x = lying_erase e x
  lying_program (program.Program l w) e x = (x.0, lying_erase e x.1)
  lying_program (program.Buffer l n d) e x = (x.0, lying_erase e x.1)

  lying_own : (r : Running) (p : SuspendedProgram) (e : Option SuspendedErase) → Inside g (add_running bs r (add_program bs p (add_erase e))) → Lying g (own r p e)
  lying_own running.Idle p e x = lying_program p e x
  lying_own (running.Program l w) p e x = (x.0, lying_program p e x.1)
  lying_own (running.Erase b n) p e x = (x.0, lying_program p e x.1)
  lying_own (running.Buffer l n d) p e x = (x.0, lying_program p e x.1)

  quiet_running : (r : Running) (p : SuspendedProgram) → implies (runs r) (false && not (program_suspended p)) ≡ true → runs r ≡ false
  quiet_running running.Idle p h = refl
  quiet_running (running.Program l w) p h = sym h
  quiet_running (running.Erase b n) p h = sym h
  quiet_running (running.Buffer l n d) p h = sym h

  quiet_program : (r : Running) (p : SuspendedProgram) (e : Option SuspendedErase) → implies (program_suspended p) false ≡ true → held? (under_way_of bs r p e) is_program ≡ false
  quiet_program r program.Nothing e h = under_way_program bs r program.Nothing e
  quiet_program r (program.Program l w) e h = absurd (false≢true h)
  quiet_program r (program.Buffer l n d) e h = absurd (false≢true h)

  quiet_any : (r : Running) (p : SuspendedProgram) (e : Option SuspendedErase) → implies (program_suspended p) false ≡ true → implies (erase_suspended e) (not (is_erase r) && false) ≡ true
      → held? (under_way_of bs r p e) is_any ≡ false
  quiet_any r (program.Program l w) e h k = absurd (false≢true h)
  quiet_any r (program.Buffer l n d) e h k = absurd (false≢true h)
  quiet_any r program.Nothing None h k = under_way_any bs r program.Nothing None
  quiet_any r program.Nothing (Some e) h k = absurd (false≢true (and_true_r (not (is_erase r)) false k))

  ready_own : (c : Setup) (r : Running) (p : SuspendedProgram) (e : Option SuspendedErase) → Parts c r p e → Ready g (setup_of bs c) (runs r) (held? (under_way_of bs r p e))
  unfolding setup_fits
  ready_own setup.Nothing r p e x = tt
  ready_own setup.Program r p e x = (quiet_running r p x.running_only, quiet_program r p e x.program_only)
  ready_own setup.Lock r p e x = (quiet_running r p x.running_only, quiet_program r p e x.program_only)
  ready_own setup.Erase r p e x = (quiet_running r p x.running_only, quiet_any r p e x.program_only x.erase_only)
  ready_own (setup.BufferCount b) r p e x = (quiet_running r p x.running_only, quiet_program r p e x.program_only, ltb-true b (blocks g) x.fits_c)
  ready_own (setup.BufferFirst b n) r p e x =
      let z = and_true_r (ltb b (blocks g)) _ x.fits_c in
      (quiet_running r p x.running_only, quiet_program r p e x.program_only, ltb-true b (blocks g) (and_true_l _ _ x.fits_c), ltb-true 0 n (and_true_l _ _ z), leb-true n 32 (and_true_r (ltb 0 n) _ z))
  ready_own (setup.BufferWords l n k) r p e x =
      let z = spanned l n k x.fits_c in (quiet_running r p x.running_only, quiet_program r p e x.program_only, z.1, z.0)

  -- a well-formed state agrees with the journal of what is under way in it
  pub formed_own : Sound g → (d : Conditions) (c : Setup) (r : Running) (p : SuspendedProgram) (e : Option SuspendedErase) → d.setup ≡ setup_of bs c → activity_formed g (activity c r p e) ≡ true
      → Sim g d (under_way_of bs r p e) (own r p e)
  formed_own sound d c r p e q h =
      let x = parts c r p e h in
      let i = inside_running sound r p e x.fits_r x.fits_p x.fits_e in
      record {
        match = match_running sound c r p e x;
        order = order_own c r p e x;
        inside = i;
        lying = lying_own r p e i;
        ready = rw q (ready_own c r p e x);
      }
