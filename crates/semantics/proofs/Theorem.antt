-- The words of demand 3: after any list of the five steps from power-up, refused ones included, every word of the array is its starting word with the journal
-- applied in order of acceptance. The journal is drawn up from the steps alone (Recorder). Demand 3 whole is demand_3_whole of Standing.
-- Assumes nothing.
use Rattle.std.specs.Prelude.{◌≡◌, refl, Bool, true, false, cond, ◌&&◌, ℕ, ◌+◌, ◌-◌, ◌≤◌, ◌<◌, ltb, eqb, length, get_or}
use Rattle.std.proofs.Common.{sym, ap, ◌∙◌, arith, ltb-true, ltb-false, eqb-true}
use mathlib.Core.List.{List, [], ◌∷◌, foldl, reverse_aux}
use Rattle.std.specs.Int.Bits.{bit_and}
use Rattle.std.proofs.lemmas.Bool.{eqb-false}
use Rattle.geometry.specs.declared.Part.{Part}
use Rattle.geometry.specs.declared.Geometry.{Geometry}
use Rattle.geometry.specs.Blocks.{Sound, geometry_of, words, block_of, start_of, size_of}
use Rattle.geometry.specs.Laws as laws
use Rattle.semantics.specs.declared.Step.{Step}
use Rattle.semantics.specs.Numbers.{within, within_in, within_out}
use Rattle.semantics.specs.Layout.{inside, only}
use Rattle.protection.specs.Words.{bit}
use Rattle.semantics.specs.Register.{is_reserved}
use Rattle.semantics.specs.RegisterBits.{ShowsRegister}
use Rattle.semantics.proofs.RegisterBits.{register_shown, zero_each}
use Rattle.semantics.specs.State.{runs}
use Rattle.semantics.proofs.Supplied.{runs_supply}
use Rattle.semantics.specs.Reading.{read_word}
use Rattle.semantics.specs.WellFormed.{well_formed}
use Rattle.semantics.specs.Steps.{Machine, after_all, fresh}
use Rattle.semantics.specs.Entries as entries
use Rattle.semantics.specs.Entries.{Entry, Live, is_finished}
use Rattle.semantics.specs.Recorder.{Operation, program, erase, buffer, Recorder, beginning, recorded_all, journal_of, made, reading, applied, kinds}
use Rattle.semantics.proofs.Engine.{Matches, After}
use Rattle.semantics.proofs.Invariant.{Agree, agree_fresh, agree_all, agree_formed}

-- ---- what an entry makes of a word, and what its units do, are the same

module _ (g : Geometry) where
  -- the journal applied, with the latest entry first
  abbrev pub readings : List (Entry Operation) → ℕ → ℕ → ℕ
  readings [] L w = w
  readings (e ∷ j) L w = reading g e L (readings j L w)

module _ (g : Geometry) (sound : Sound g) where
  only_word : (l u L : ℕ) → u ≡ 1 → eqb L l ≡ within l u L
  only_word l u L h = go (eqb L l) refl
    where
      go : (t : Bool) → eqb L l ≡ t → t ≡ within l u L
      go true e = let x = eqb-true L l e in sym (within_in l u L (omega arith) (omega arith))
      go false e = let x = eqb-false L l e in sym (within_out l u L (λ a b. omega arith))

  no_word : (l u L : ℕ) → u < 1 → within l u L ≡ false
  no_word l u L h = within_out l u L (λ a b. omega arith)

  block_words : (b u L : ℕ) → L < words g → u ≡ size_of g b → eqb (block_of g L) b ≡ within (start_of g b) u L
  block_words b u L q h = go (eqb (block_of g L) b) refl
    where
      go : (t : Bool) → eqb (block_of g L) b ≡ t → t ≡ within (start_of g b) u L
      go true e =
          let i : (start_of g b ≤ L) × (L < start_of g b + size_of g b) = rw (eqb-true (block_of g L) b e) at (inside g sound L q) in
          sym (within_in (start_of g b) u L i.0 (omega arith))
      go false e = sym (within_out (start_of g b) u L (λ x y. eqb-false (block_of g L) b e (only g sound b L x (omega arith))))

  lowest_words : (b u L : ℕ) → L < words g → u < size_of g b → (eqb (block_of g L) b && ltb (L - start_of g b) u) ≡ within (start_of g b) u L
  lowest_words b u L q h = go (eqb (block_of g L) b) refl (ltb (L - start_of g b) u) refl
    where
      go : (t : Bool) → eqb (block_of g L) b ≡ t → (v : Bool) → ltb (L - start_of g b) u ≡ v → (t && v) ≡ within (start_of g b) u L
      go true e true f =
          let i : (start_of g b ≤ L) × (L < start_of g b + size_of g b) = rw (eqb-true (block_of g L) b e) at (inside g sound L q) in
          sym (within_in (start_of g b) u L i.0 (omega (arith, ltb-true (L - start_of g b) u f)))
      go true e false f = let y = ltb-false (L - start_of g b) u f in sym (within_out (start_of g b) u L (λ a c. omega arith))
      go false e v f = sym (within_out (start_of g b) u L (λ x y. eqb-false (block_of g L) b e (only g sound b L x (omega arith))))

  made_effect : (k : Operation) (t : Bool) (u : ℕ) → entries.Whole (kinds g) k t u → (L w : ℕ) → L < words g → made g k t u L w ≡ entries.effect (kinds g) k u L w
  made_effect (program l d) true u s L w q = ap (λ (t : Bool). cond t (bit_and w d) w) (only_word l u L s)
  made_effect (program l d) false u s L w q = rw (no_word l u L s)
  made_effect (erase b) true u s L w q = ap (λ (t : Bool). cond t 65535 w) (block_words b u L q s)
  made_effect (erase b) false u s L w q = ap (λ (t : Bool). cond t 65535 w) (lowest_words b u L q s)
  made_effect (buffer l ws) true u s L w q = rw s
  made_effect (buffer l ws) false u s L w q = refl

  readings_after : (L w : ℕ) → L < words g → {r : Bool} {s : List (Live Operation)} {j : List (Entry Operation)} → Matches g r s j → readings g j L w ≡ After g j L w
  readings_after L w q m = entries.match_each (kinds g) (λ j. readings g j L w ≡ After g j L w) refl (λ k u t j e h. made_effect k (is_finished t) u e L (readings g j L w) q ∙ ap (λ (x : ℕ). entries.effect (kinds g) k u L x) h) m

  in_order : (j r : List (Entry Operation)) (L w : ℕ) → foldl (λ x e. reading g e L x) w (reverse_aux j r) ≡ foldl (λ x e. reading g e L x) (readings g j L w) r
  in_order [] r L w = refl
  in_order (e ∷ j) r L w = in_order j (e ∷ r) L w

  pub readings_applied : (j : List (Entry Operation)) (L w : ℕ) → applied g j L w ≡ readings g j L w
  readings_applied j L w = in_order j [] L w

-- ---- the theorem

-- a machine that agrees with a recorder has the words of its journal
pub agree_words : (p : Part) (xs₀ : List ℕ) (m : Machine) (c : Recorder) → Agree p xs₀ m c → (L : ℕ) → L < words (geometry_of p)
    → get_or m.array L 0 ≡ applied (geometry_of p) c.journal L (get_or xs₀ L 0)
agree_words p xs₀ m c a L h =
    a.word L h ∙ sym (readings_after (geometry_of p) (laws.sound p) L (get_or xs₀ L 0) h a.sim.match)
    ∙ sym (readings_applied (geometry_of p) (laws.sound p) c.journal L (get_or xs₀ L 0))

-- what is reached from power-up by a list of steps agrees with the recorder that was told of them
pub reached : (p : Part) (l : List Step) (xs : List ℕ) → length xs ≡ words (geometry_of p) → Agree p xs (after_all (fresh p xs) l) (recorded_all (geometry_of p) beginning l)
reached p l xs h = agree_all p xs l (fresh p xs) beginning (agree_fresh p xs h)

-- The words of demand 3. For every part p, every list l of steps and every array xs of the part's length: the word at every location L after the list is the
-- word there at the start with the journal of the list applied in order of acceptance.
pub demand_3 : (p : Part) (l : List Step) (xs : List ℕ) → length xs ≡ words (geometry_of p) → (L : ℕ) → L < words (geometry_of p)
    → get_or (after_all (fresh p xs) l).array L 0 ≡ applied (geometry_of p) (journal_of (geometry_of p) l) L (get_or xs L 0)
demand_3 p l xs h L k = agree_words p xs (after_all (fresh p xs) l) (recorded_all (geometry_of p) beginning l) (reached p l xs h) L k

-- every state on the way is well formed, and the array keeps its length: refusals 1 and 2 do not come
pub reached_formed : (p : Part) (l : List Step) (xs : List ℕ) → length xs ≡ words (geometry_of p) → well_formed (after_all (fresh p xs) l).state ≡ true
reached_formed p l xs h = agree_formed p xs (after_all (fresh p xs) l) (recorded_all (geometry_of p) beginning l) (reached p l xs h)

pub reached_length : (p : Part) (l : List Step) (xs : List ℕ) → length xs ≡ words (geometry_of p) → length (after_all (fresh p xs) l).array ≡ words (geometry_of p)
reached_length p l xs h = (reached p l xs h).size

-- "Reserved bits read 0": after any list of steps, where a read shows the configuration register, each reserved bit of the word is 0
pub reserved_read_0 : (p : Part) (l : List Step) (xs : List ℕ) → length xs ≡ words (geometry_of p) → (a : ℕ) → ShowsRegister (after_all (fresh p xs) l).state a
    → (i : ℕ) → is_reserved i ≡ true → bit (read_word (after_all (fresh p xs) l).state (after_all (fresh p xs) l).array a) i ≡ 0
reserved_read_0 p l xs h a r i e = let m : Machine = after_all (fresh p xs) l in
    ap (λ (w : ℕ). bit w i) (register_shown m.state m.array a r) ∙ zero_each _ (reached p l xs h).reserved i e

-- "something runs only with supply on": after any list of steps, whatever of them switched the supply
pub reached_supplied : (p : Part) (l : List Step) (xs : List ℕ) → length xs ≡ words (geometry_of p) → runs (after_all (fresh p xs) l).state.control.activity.running ≡ true
    → (after_all (fresh p xs) l).state.control.supply ≡ true
reached_supplied p l xs h r = runs_supply (after_all (fresh p xs) l).state.control (reached p l xs h).powered r
