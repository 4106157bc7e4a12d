-- Blocks and counts answer one to one: each block that is not small has a place of its own, every place but the shared one is a block's, and a count that is put is the count
-- of its block and of no other. A row is a bank.
-- Assumes nothing.
use Prim.Native.Nat.{ℕ, zero, suc, ◌+◌, ◌*◌, ◌≤◌, ◌<◌, min}
use Rattle.std.specs.Prelude.{Bool, true, false, cond, ◌&&◌, List, [], ◌≡◌, refl, eqb, ltb, length, get_or, set, Some, None}
use Rattle.std.proofs.Common.{sym, ◌∙◌, length-set, get_or-set_same, get_or-set_other, lt-ltb, le-ltb, ltb-true, ltb-false, eq-eqb, ne_eqb, eqb-true}
use Rattle.std.proofs.Math.Path.{ap}
use native.Mathlib.Omega.{arith}
use Rattle.std.proofs.lemmas.Bool.{eqb-false}
use Rattle.geometry.specs.declared.Part.{Part}
use Rattle.geometry.specs.declared.Part.TheVariants.{FullBottom, FullTop, BenchBottom, BenchTop}
use Rattle.geometry.specs.Blocks.{geometry_of, block_of, bank_of}
use Rattle.geometry.specs.Laws as laws
use Rattle.semantics.specs.declared.Running.{Running}
use Rattle.semantics.specs.declared.Running.TheVariants as running
use Rattle.semantics.specs.State.{runs}
use Rattle.wear.specs.Counts.{Counts, lent, row_of, place_in, count_at, count_of, put_at, with_count, one_more, counts_after}
use Rattle.wear.specs.declared.Place.TheVariants.{Small, Main}
use Rattle.wear.specs.Places.{Placed, Shaped, StandsAt}

-- ---- rows and places

-- a row is the bank of its blocks, on every part
pub row_is_bank : (p : Part) (l : ℕ) → bank_of (geometry_of p) l ≡ row_of (block_of (geometry_of p) l)
unfolding row_of
row_is_bank FullBottom l = laws.bank_of_block_lem (geometry_of FullBottom) (laws.sound FullBottom) l
row_is_bank FullTop l = laws.bank_of_block_lem (geometry_of FullTop) (laws.sound FullTop) l
row_is_bank BenchBottom l = laws.bank_of_block_lem (geometry_of BenchBottom) (laws.sound BenchBottom) l
row_is_bank BenchTop l = laws.bank_of_block_lem (geometry_of BenchTop) (laws.sound BenchTop) l

pub placed : (b : ℕ) → 4 ≤ b → b < 259 → Placed b
unfolding row_of place_in
placed b h k = record { row = omega arith; place = omega arith; own = λ i j. omega arith; back = omega arith }

-- and every place but the shared one is a block's
pub place_of : (i j : ℕ) → i < 16 → j < 16 → (i ≡ 0 → j ≡ 0 → ⊥) → (4 ≤ 16 * i + j + 3) × (16 * i + j + 3 < 259) × (row_of (16 * i + j + 3) ≡ i) × (place_in (16 * i + j + 3) ≡ j)
unfolding row_of place_in
place_of i j h k n = (low (16 * i + j) refl, omega arith, omega arith, omega arith)
  where
    low : (m : ℕ) → 16 * i + j ≡ m → 4 ≤ 16 * i + j + 3
    low zero e = absurd (n (omega arith) (omega arith))
    low (suc m) e = omega arith

-- so no two blocks share a place
pub own_place : (b c : ℕ) → 4 ≤ b → 4 ≤ c → row_of b ≡ row_of c → place_in b ≡ place_in c → b ≡ c
unfolding row_of place_in
own_place b c h k i j = omega arith

-- ---- a count that is put

put_at_lem : (m : List (List ℕ)) (i j x i' j' : ℕ) → i < length m → j < length (get_or m i []) → count_at (put_at m i j x) i' j' ≡ cond (eqb i' i && eqb j' j) x (count_at m i' j')
unfolding count_at put_at
put_at_lem m i j x i' j' h k = go (eqb i' i) refl (eqb j' j) refl
  where
    new : List ℕ
    new = set (get_or m i []) j x

    go : (s : Bool) → eqb i' i ≡ s → (t : Bool) → eqb j' j ≡ t → get_or (get_or (set m i (set (get_or m i []) j x)) i' []) j' 0 ≡ cond (s && t) x (get_or (get_or m i' []) j' 0)
    go true e true f = rw (eqb-true i' i e, eqb-true j' j f, get_or-set_same m i new [] h, get_or-set_same (get_or m i []) j x 0 k)
    go true e false f = rw (eqb-true i' i e, get_or-set_same m i new [] h, get_or-set_other (get_or m i []) j j' x 0 (eqb-false j' j f))
    go false e t f = rw (get_or-set_other m i i' new [] (eqb-false i' i e))

-- the count of block c is put, and every other block's stays
pub count_with : (k : Counts) → Shaped k → (c x b : ℕ) → c < 259 → b < 259 → count_of (with_count k c x) b ≡ cond (eqb b c) x (count_of k b)
unfolding count_of with_count
count_with k s c x b h i = rw (lt-ltb c 259 h, lt-ltb b 259 i) (go (ltb c 4) refl (ltb b 4) refl)
  where
    go : (t : Bool) → ltb c 4 ≡ t → (u : Bool) → ltb b 4 ≡ u
        → cond u (get_or (cond t (lent k.main (set k.small c x)) (lent (put_at k.main (row_of c) (place_in c) x) k.small)).small b 0)
        (count_at (cond t (lent k.main (set k.small c x)) (lent (put_at k.main (row_of c) (place_in c) x) k.small)).main (row_of b) (place_in b))
        ≡ cond (eqb b c) x (cond u (get_or k.small b 0) (count_at k.main (row_of b) (place_in b)))
    go true e true f = small (eqb b c) refl
      where
        small : (v : Bool) → eqb b c ≡ v → get_or (set k.small c x) b 0 ≡ cond v x (get_or k.small b 0)
        small true d = rw (eqb-true b c d) (get_or-set_same k.small c x 0 (omega (arith, s.four, ltb-true c 4 e)))
        small false d = get_or-set_other k.small c b x 0 (eqb-false b c d)
    go true e false f = rw (ne_eqb b c (λ d. omega (arith, ltb-true c 4 e, ltb-false b 4 f)))
    go false e true f = rw (ne_eqb b c (λ d. omega (arith, ltb-false c 4 e, ltb-true b 4 f)))
    go false e false f =
        let q = placed c (ltb-false c 4 e) h in
        put_at_lem k.main (row_of c) (place_in c) x (row_of b) (place_in b) (omega (arith, s.rows, q.row)) (omega (arith, s.places (row_of c) q.row, q.place))
        ∙ ap (λ (v : Bool). cond v x (count_at k.main (row_of b) (place_in b))) (same (eqb (row_of b) (row_of c)) refl (eqb (place_in b) (place_in c)) refl)
      where
        same : (v : Bool) → eqb (row_of b) (row_of c) ≡ v → (w : Bool) → eqb (place_in b) (place_in c) ≡ w → (v && w) ≡ eqb b c
        same true d true g = sym (eq-eqb b c (own_place b c (ltb-false b 4 f) (ltb-false c 4 e) (eqb-true _ _ d) (eqb-true _ _ g)))
        same true d false g = sym (ne_eqb b c (λ z. eqb-false _ _ g (ap place_in z)))
        same false d w g = sym (ne_eqb b c (λ z. eqb-false _ _ d (ap row_of z)))

-- and the shape stays
pub shape_with : (k : Counts) → Shaped k → (c x : ℕ) → Shaped (with_count k c x)
unfolding with_count put_at
shape_with k s c x = go (ltb c 4) refl (ltb c 259) refl
  where
    row : (i : ℕ) → i < 16 → (v : Bool) → eqb i (row_of c) ≡ v → length (get_or (set k.main (row_of c) (set (get_or k.main (row_of c) []) (place_in c) x)) i []) ≡ 16
    row i h true e =
        rw (eqb-true i (row_of c) e, get_or-set_same k.main (row_of c) (set (get_or k.main (row_of c) []) (place_in c) x) [] (omega (arith, s.rows, eqb-true i (row_of c) e)), length-set (get_or k.main (row_of c) []) (place_in c) x)
        (s.places (row_of c) (omega (arith, eqb-true i (row_of c) e)))
    row i h false e = rw (get_or-set_other k.main (row_of c) i (set (get_or k.main (row_of c) []) (place_in c) x) [] (eqb-false i (row_of c) e)) (s.places i h)

    go : (t : Bool) → ltb c 4 ≡ t → (u : Bool) → ltb c 259 ≡ u → Shaped (cond t (lent k.main (set k.small c x)) (cond u (lent (set k.main (row_of c) (set (get_or k.main (row_of c) []) (place_in c) x)) k.small) k))
    go true e u f = record { rows = s.rows; places = s.places; four = length-set k.small c x ∙ s.four }
    go false e true f = record {
      rows = length-set k.main (row_of c) (set (get_or k.main (row_of c) []) (place_in c) x) ∙ s.rows;
      places = λ i h. row i h (eqb i (row_of c)) refl;
      four = s.four;
    }
    go false e false f = s

-- ---- a count by where it stands, as the code finds it

module _ (k : Counts) (b i : ℕ) (at : StandsAt b (Some (Small i))) where
  pub count_small : get_or k.small i 0 ≡ count_of k b
  unfolding count_of
  count_small = rw (at.0, lt-ltb b 4 at.1)

  pub put_small : (x : ℕ) → lent k.main (set k.small i x) ≡ with_count k b x
  unfolding with_count
  put_small x = rw (at.0, lt-ltb b 4 at.1)

module _ (k : Counts) (b r i : ℕ) (at : StandsAt b (Some (Main r i))) where
  pub count_main : get_or (get_or k.main r []) i 0 ≡ count_of k b
  unfolding count_of count_at
  count_main = rw (at.2, at.4, le-ltb b 4 at.0, lt-ltb b 259 at.1)

  pub put_main : (x : ℕ) → lent (set k.main r (set (get_or k.main r []) i x)) k.small ≡ with_count k b x
  unfolding with_count put_at
  put_main x = rw (at.2, at.4, le-ltb b 4 at.0, lt-ltb b 259 at.1)

module _ (k : Counts) (b : ℕ) (at : StandsAt b None) where
  pub count_none : 0 ≡ count_of k b
  unfolding count_of
  count_none = rw (le-ltb b 4 (omega (arith, at)), le-ltb b 259 at)

  pub put_none : (x : ℕ) → k ≡ with_count k b x
  unfolding with_count
  put_none x = rw (le-ltb b 4 (omega (arith, at)), le-ltb b 259 at)

-- ---- one more, as the code does it

pub more : (k : Counts) (b n m : ℕ) → n ≡ count_of k b → m ≡ min (n + 1) 65535 → with_count k b m ≡ one_more k b
unfolding one_more
more k b n m is h = let e : m ≡ min 65535 (count_of k b + 1) = omega (arith, is, h) in rw e

module _ (k : Counts) (r t : Running) (b done : ℕ) (erases : r ≡ running.Erase b done) where
  pub finished : runs t ≡ false → one_more k b ≡ counts_after r t k
  unfolding counts_after
  finished h = rw (erases, h)

  pub unfinished : runs t ≡ true → k ≡ counts_after r t k
  unfolding counts_after
  unfinished h = rw (erases, h)

-- what is no erase finishes none
pub no_erase : (k : Counts) (r t : Running) → ((b done : ℕ) → r ≡ running.Erase b done → ⊥) → k ≡ counts_after r t k
unfolding counts_after
no_erase k running.Idle t n = refl
no_erase k (running.Program l w) t n = refl
no_erase k (running.Erase b done) t n = absurd (n b done refl)
no_erase k (running.Buffer l i done) t n = refl
