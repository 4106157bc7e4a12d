-- What the leaves make of an array, and that it is what units of work make of it.
-- Assumes nothing.
use Prim.Native.Nat.{ℕ, zero, suc, ◌+◌, ◌-◌, ◌<◌, ◌≤◌, min, max}
use Rattle.std.specs.Prelude.{Bool, ◌&&◌, List, [], ◌∷◌, ◌⊎◌, ◌≡◌, ltb, leb, set}
use Rattle.std.proofs.Math.Bool.{true, false, cond, and-true, and-false}
use Rattle.std.proofs.Common.{inl, inr, sym, ◌∙◌, mod-eq_of_lt, length-set, get_or-set_same}
use Rattle.std.proofs.Math.Path.{refl, ap}
use native.Mathlib.Omega.{arith}
use Rattle.std.proofs.Math.Dec.{eqb}
use Rattle.std.specs.Int.Bits.{bit_and}
use Rattle.std.proofs.lemmas.Nat.{and_mask}
use Rattle.std.proofs.Math.ListN.{length, get_or, get_or-eq_default}
use Rattle.std.proofs.Math.Seq.{get_or-set_other}
use borrow.Author.Tests.{eqb-true, eqb-false, lt-ltb, le-ltb, ne_eqb, le-leb, lt-leb}
use Rattle.geometry.specs.declared.Geometry.{Geometry}
use Rattle.geometry.specs.Blocks.{start_of}
use Rattle.geometry.specs.Laws.{order}
use Rattle.semantics.specs.declared.Running.TheVariants as running
use Rattle.semantics.specs.Tabulate.{tabulate, length_tabulate, get_d_tabulate, tabulate_is}
use Rattle.semantics.specs.Working.{word_after, array_after}
use Rattle.semantics.specs.Arrays.{array_is}

-- ---- one word anded

-- w anded into the word at location l
unfoldable pub anded : List ℕ → ℕ → ℕ → List ℕ
anded xs l w = tabulate (length xs) (λ L. cond (eqb L l) (bit_and (get_or xs L 0) w) (get_or xs L 0))

module _ (xs : List ℕ) (l w : ℕ) where
  pub anded_set : l < length xs → set xs l (bit_and (get_or xs l 0) w) ≡ anded xs l w
  unfolding anded
  anded_set h = tabulate_is _ _ _ (length-set xs l (bit_and (get_or xs l 0) w)) (λ L k. go L (eqb L l) refl)
    where
      go : (L : ℕ) (t : Bool) → eqb L l ≡ t → get_or (set xs l (bit_and (get_or xs l 0) w)) L 0 ≡ cond t (bit_and (get_or xs L 0) w) (get_or xs L 0)
      go L true e = rw (eqb-true L l e) (get_or-set_same xs l (bit_and (get_or xs l 0) w) 0 h)
      go L false e = get_or-set_other xs l L (bit_and (get_or xs l 0) w) 0 (eqb-false L l e)

  -- a location that is not in the array
  pub anded_none : length xs ≤ l → xs ≡ anded xs l w
  unfolding anded
  anded_none h = tabulate_is _ _ xs refl (λ L k. rw (ne_eqb L l (λ e. omega arith)))

-- ---- a run of words changed

-- f L at each place L from `from` that is below `to`: the word at L
abbrev pub changed_word : List ℕ → (ℕ → ℕ) → ℕ → ℕ → ℕ → ℕ
changed_word xs f from to L = cond (leb from L && ltb L to) (f L) (get_or xs L 0)

unfoldable pub changed : List ℕ → (ℕ → ℕ) → ℕ → ℕ → List ℕ
changed xs f from to = tabulate (length xs) (changed_word xs f from to)

-- FFFFh at each place from `from` that is below `to`
abbrev pub filled : List ℕ → ℕ → ℕ → List ℕ
filled xs from to = changed xs (λ L. 0xFFFF) from to

-- the word L after a buffer whose words start at l is anded into it
abbrev pub buffer_word : List ℕ → ℕ → List ℕ → ℕ → ℕ
buffer_word xs l bs L = bit_and (get_or xs L 0) (get_or bs (L - l) 0xFFFF)

-- the words of the buffer from `from` on that are below `to`, anded into those from l on
abbrev pub anded_run : List ℕ → ℕ → List ℕ → ℕ → ℕ → List ℕ
anded_run xs l bs from to = changed xs (buffer_word xs l bs) (l + from) (l + to)

-- two runs from one place agree on L where their ends do
run_same : (from a b L : ℕ) → (from ≤ L → L < a → L < b) → (from ≤ L → L < b → L < a) → (leb from L && ltb L a) ≡ (leb from L && ltb L b)
run_same from a b L f g = go (order L from) (order L a) (order L b)
  where
    go : (L < from) ⊎ (from ≤ L) → (L < a) ⊎ (a ≤ L) → (L < b) ⊎ (b ≤ L) → (leb from L && ltb L a) ≡ (leb from L && ltb L b)
    go (inl h) _ _ = rw (lt-leb from L h)
    go (inr h) (inl k) _ = rw (lt-ltb L a k, lt-ltb L b (f h k))
    go (inr h) (inr k) (inl n) = absurd (omega (arith, g h n))
    go (inr h) (inr k) (inr n) = rw (le-ltb L a k, le-ltb L b n)

module _ (xs : List ℕ) (f : ℕ → ℕ) (from : ℕ) where
  -- a run that ends where it begins
  pub changed_none : xs ≡ changed xs f from from
  unfolding changed
  changed_none =
      tabulate_is _ _ xs refl
      (λ L k. rw (run_same from from 0 L (λ x y. omega arith) (λ x y. omega arith), le-ltb L 0 (omega arith), and-false (leb from L)))

  pub changed_length : (i : ℕ) → length (changed xs f from i) ≡ length xs
  unfolding changed
  changed_length i = length_tabulate (length xs) (changed_word xs f from i)

  -- the word at L is also that of another run, where L lies in both or in neither
  changed_word_lem : (a b L : ℕ) → L < length xs → (from ≤ L → L < a → L < b) → (from ≤ L → L < b → L < a) → get_or (changed xs f from a) L 0 ≡ changed_word xs f from b L
  unfolding changed
  changed_word_lem a b L k p q =
      get_d_tabulate (length xs) (changed_word xs f from a) L k ∙ ap (λ (t : Bool). cond t (f L) (get_or xs L 0)) (run_same from a b L p q)

  -- a word past the run
  pub changed_past : (i : ℕ) → from ≤ i → i < length xs → get_or (changed xs f from i) i 0 ≡ get_or xs i 0
  changed_past i a h = changed_word_lem i 0 i h (λ x y. omega arith) (λ x y. omega arith) ∙ rw (le-ltb i 0 (omega arith), and-false (leb from i))

  -- a run of one word more
  pub changed_more : (i : ℕ) → from ≤ i → i < length xs → set (changed xs f from i) i (f i) ≡ changed xs f from (i + 1)
  unfolding changed
  changed_more i a h =
      tabulate_is _ _ _ (length-set (changed xs f from i) i (f i) ∙ changed_length i) (λ L k. go L k (eqb L i) refl)
    where
      go : (L : ℕ) → L < length xs → (t : Bool) → eqb L i ≡ t → get_or (set (changed xs f from i) i (f i)) L 0 ≡ changed_word xs f from (i + 1) L
      go L k true e =
          let p : L ≡ i = eqb-true L i e in
          rw (le-leb from L (omega arith), lt-ltb L (i + 1) (omega arith), p) (get_or-set_same (changed xs f from i) i (f i) 0 (omega (arith, changed_length i)))
      go L k false e =
          let p : L ≡ i → ⊥ = eqb-false L i e in
          get_or-set_other (changed xs f from i) i L (f i) 0 p ∙ changed_word_lem i (i + 1) L k (λ x y. omega arith) (λ x y. omega arith)

  -- two runs whose ends agree on the array
  pub changed_same : (a b : ℕ) → ((L : ℕ) → L < length xs → from ≤ L → L < a → L < b) → ((L : ℕ) → L < length xs → from ≤ L → L < b → L < a) → changed xs f from a ≡ changed xs f from b
  unfolding changed
  changed_same a b p q = tabulate_is _ _ _ (changed_length a) (λ L k. changed_word_lem a b L k (p L k) (q L k))

  -- a run that reaches the end of the array, or the end that is asked for
  pub changed_end : (i to : ℕ) → min to (length xs) ≤ i → i ≤ max from (min to (length xs)) → changed xs f from i ≡ changed xs f from to
  changed_end i to a b = changed_same i to (λ L k x y. omega arith) (λ L k x y. omega arith)

-- ---- a run of a buffer's words anded

-- what stands for a word that a list does not have is not read where it has the word
get_d_any : (xs : List ℕ) (i d e : ℕ) → i < length xs → get_or xs i d ≡ get_or xs i e
get_d_any [] i d e h = omega arith
get_d_any (x ∷ xs) zero d e h = refl
get_d_any (x ∷ xs) (suc i) d e h = get_d_any xs i d e (omega arith)

-- FFFFh clears no bit of a word
and_all : (x : ℕ) → x < 65536 → bit_and x 0xFFFF ≡ x
and_all x h = and_mask x 16 ∙ mod-eq_of_lt h

cond_same : (t : Bool) (x y : ℕ) → x ≡ y → cond t x y ≡ y
cond_same true x y e = e
cond_same false x y e = refl

module _ (xs : List ℕ) (l : ℕ) (bs : List ℕ) (from : ℕ) where
  -- a word more; nothing changes where the array has no such place
  pub anded_more : (i : ℕ) → from ≤ i → i < length bs → anded (anded_run xs l bs from i) (l + i) (get_or bs i 0) ≡ anded_run xs l bs from (i + 1)
  anded_more i a h = go (order (l + i) (length xs))
    where
      f : ℕ → ℕ
      f = buffer_word xs l bs

      ys : List ℕ
      ys = changed xs f (l + from) (l + i)

      len : length ys ≡ length xs
      len = changed_length xs f (l + from) (l + i)

      word : l + i < length xs → bit_and (get_or ys (l + i) 0) (get_or bs i 0) ≡ f (l + i)
      word k =
          let e : l + i - l ≡ i = omega arith in
          rw (changed_past xs f (l + from) (l + i) (omega arith) k, get_d_any bs i 0 0xFFFF h, e)

      go : (l + i < length xs) ⊎ (length xs ≤ l + i) → anded ys (l + i) (get_or bs i 0) ≡ changed xs f (l + from) (l + (i + 1))
      go (inl k) =
          let e : l + i + 1 ≡ l + (i + 1) = omega arith in
          sym (anded_set ys (l + i) (get_or bs i 0) (omega (arith, len))) ∙ rw (word k, ← e) (changed_more xs f (l + from) (l + i) (omega arith) k)
      go (inr k) =
          sym (anded_none ys (l + i) (get_or bs i 0) (omega (arith, len)))
          ∙ changed_same xs f (l + from) (l + i) (l + (i + 1)) (λ L p x y. omega arith) (λ L p x y. omega arith)

  -- a run that reaches the end of the buffer, past which nothing changes, or the end that is asked for
  pub anded_end : (i to : ℕ) → ((L : ℕ) → get_or xs L 0 < 65536) → min to (length bs) ≤ i → i ≤ max from (min to (length bs)) → anded_run xs l bs from i ≡ anded_run xs l bs from to
  unfolding changed
  anded_end i to small a b =
      tabulate_is _ _ _ (changed_length xs f (l + from) (l + i)) (λ L k. get_d_tabulate (length xs) (changed_word xs f (l + from) (l + i)) L k ∙ go L (order L (l + length bs)))
    where
      f : ℕ → ℕ
      f = buffer_word xs l bs

      past : (L : ℕ) → l + length bs ≤ L → f L ≡ get_or xs L 0
      past L h = rw (get_or-eq_default bs 0xFFFF {n = L - l} (omega arith)) (and_all (get_or xs L 0) (small L))

      go : (L : ℕ) → (L < l + length bs) ⊎ (l + length bs ≤ L) → changed_word xs f (l + from) (l + i) L ≡ changed_word xs f (l + from) (l + to) L
      go L (inl h) = ap (λ (t : Bool). cond t (f L) (get_or xs L 0)) (run_same (l + from) (l + i) (l + to) L (λ x y. omega arith) (λ x y. omega arith))
      go L (inr h) =
          cond_same (leb (l + from) L && ltb L (l + i)) (f L) (get_or xs L 0) (past L h)
          ∙ sym (cond_same (leb (l + from) L && ltb L (l + to)) (f L) (get_or xs L 0) (past L h))

-- ---- what the leaves make of the array is what work makes of it

module _ (g : Geometry) (bs xs : List ℕ) where
  pub idle_done : (m : ℕ) → xs ≡ array_after g bs running.Idle m xs
  unfolding word_after
  idle_done m = array_is g bs running.Idle m xs xs refl (λ L k. refl)

  pub program_done : (l w m : ℕ) → 0 < m → anded xs l w ≡ array_after g bs (running.Program l w) m xs
  unfolding anded array_after word_after
  program_done l w m h = simp (lt-ltb 0 m h, and-true)

  pub erase_done : (b done m from to : ℕ) → from ≡ start_of g b + done → to ≡ from + m → filled xs from to ≡ array_after g bs (running.Erase b done) m xs
  unfolding changed array_after word_after
  erase_done b done m from to e k = rw (k, e)

  pub buffer_done : (l n done m : ℕ) → anded_run xs l bs done (done + m) ≡ array_after g bs (running.Buffer l n done) m xs
  unfolding changed array_after word_after
  buffer_done l n done m = let e : l + (done + m) ≡ l + done + m = omega arith in rw e

  -- no unit of a program is done
  pub program_undone : (l w : ℕ) → xs ≡ array_after g bs (running.Program l w) 0 xs
  unfolding word_after
  program_undone l w = array_is g bs (running.Program l w) 0 xs xs refl (λ L k. rw (and-false (eqb L l)))
