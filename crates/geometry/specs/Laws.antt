-- Laws of the geometry, once over any sound one: each location lies in exactly one block and in that block's bank.
-- A law counted from the end that has the small blocks is named -from; `flip` carries it to the locations of either part.
-- Assumes nothing.
use Rattle.std.specs.Prelude.{ℕ, suc, ◌+◌, ◌-◌, ◌*◌, ◌/◌, ◌<◌, ◌≤◌, Bool, ◌≡◌, refl, ◌⊎◌, ◌↔◌}
use Rattle.std.proofs.Math.Bool.{true, false, cond}
use Rattle.std.proofs.Common.{sym, ap, ◌∙◌, subst, inl, inr, suc-mul, mul_comm, mul-le-mul_right, mul-le-mul_left, div-mul-le_self, div-lt_iff_lt-mul, le-div_iff_mul-le, one-mul, mod-lt, mul_assoc, add-one}
use Rattle.std.proofs.Math.Nat.{lt-div-mul-add, div-eq_of_lt-le, div-eq_of_lt, div-div-eq-div-mul}
use Rattle.std.proofs.Math.Decide.{dec_lt}
use native.Mathlib.Omega.{arith}
use borrow.Author.Tests.{lt-ltb, le-ltb}
use Rattle.geometry.specs.declared.Part.{Part}
use Rattle.geometry.specs.declared.Part.TheVariants.{FullBottom, FullTop, BenchBottom, BenchTop}
use Rattle.geometry.specs.declared.Geometry.{Geometry}
use Rattle.geometry.specs.Blocks.{geometry_of, small, bank_words, words, blocks, banks, location, mirror, block_from, block_of, bank_of, size_of, start_from, start_of, bank_start, block_offset, bank_offset, Sound}

-- ---- runs of words

-- of two numbers the first is below the second or not
pub order : (a b : ℕ) → (a < b) ⊎ (b ≤ a)
order a b = go (dec_lt a b)
  where
    go : Dec (a < b) → (a < b) ⊎ (b ≤ a)
    go (yes h) = inl h
    go (no h) = inr (omega arith)

-- m lies in the run of u words that its quotient numbers
pub run_of : (m u : ℕ) → 0 < u → (m / u * u ≤ m) × (m < m / u * u + u)
run_of m u h = (div-mul-le_self m u, lt-div-mul-add h)

-- and in no other
pub run_only : (k m u : ℕ) → k * u ≤ m → m < k * u + u → m / u ≡ k
run_only k m u l h = div-eq_of_lt-le u l (subst (λ (x : ℕ). m < x) (sym (ap (λ (j : ℕ). j * u) (add-one k) ∙ suc-mul k u)) h)

-- run j of u words ends within k of them where j < k
pub run_end : (j k u : ℕ) → j < k → j * u + u ≤ k * u
run_end j k u h = omega (arith, suc-mul j u, mul-le-mul_right u h)

-- the location l is one of `size` words from `start` on
pub record In (start size l : ℕ) : Type 0 where
  pub low : start ≤ l
  pub high : l < start + size

-- a run that ends within the array holds a location exactly when the run counted from the other end holds its mirror
pub flip : (t : Bool) (a z n l : ℕ) → a + z ≤ n → l < n → In a z (cond t (n - 1 - l) l) ↔ In (cond t (n - (a + z)) a) z l
flip true a z n l e h = (λ i. omega (arith, i), λ i. omega (arith, i))
flip false a z n l e h = (λ i. i, λ i. i)

-- such a run ends within the array as seen from the other end, too
pub flip_end : (t : Bool) (a z n : ℕ) → a + z ≤ n → cond t (n - (a + z)) a + z ≤ n
flip_end true a z n e = omega arith
flip_end false a z n e = e

-- ---- the forms of each definition, by its tests

-- the block of a location in the first place
pub block_small : (g : Geometry) (m : ℕ) → m < g.unit → block_from g m ≡ m / small g
unfolding block_from
block_small g m h = rw (lt-ltb m g.unit h)

-- the block of a location above the first place
pub block_main : (g : Geometry) (m : ℕ) → g.unit ≤ m → block_from g m ≡ m / g.unit + (g.smalls - 1)
unfolding block_from
block_main g m h = rw (le-ltb m g.unit h)

-- where a small block begins
pub start_small : (g : Geometry) (b : ℕ) → b < g.smalls → start_from g b ≡ b * small g
unfolding start_from
start_small g b h = rw (lt-ltb b g.smalls h)

-- where a main block begins
pub start_main : (g : Geometry) (b : ℕ) → g.smalls ≤ b → start_from g b ≡ (b - (g.smalls - 1)) * g.unit
unfolding start_from
start_main g b h = rw (le-ltb b g.smalls h)

-- the size of a small block
pub size_small : (g : Geometry) (b : ℕ) → b < g.smalls → size_of g b ≡ small g
unfolding size_of
size_small g b h = rw (lt-ltb b g.smalls h)

-- the size of a main block
pub size_main : (g : Geometry) (b : ℕ) → g.smalls ≤ b → b < blocks g → size_of g b ≡ g.unit
unfolding size_of
size_main g b h k = rw (le-ltb b g.smalls h, lt-ltb b (blocks g) k)

-- where a block begins, on either part
pub start_is : (g : Geometry) (b : ℕ) → b < blocks g → start_of g b ≡ cond g.top (words g - (start_from g b + size_of g b)) (start_from g b)
unfolding start_of
start_is g b h = rw (lt-ltb b (blocks g) h)

-- a number that is no block begins at 0
pub start_none : (g : Geometry) (b : ℕ) → blocks g ≤ b → start_of g b ≡ 0
unfolding start_of
start_none g b h = rw (le-ltb b (blocks g) h)

-- where a bank begins, on either part
pub bank_is : (g : Geometry) (k : ℕ) → k < banks g → bank_start g k ≡ cond g.top (words g - (k * bank_words g + bank_words g)) (k * bank_words g)
unfolding bank_start
bank_is g k h = rw (lt-ltb k (banks g) h)

-- a number that is no bank begins at 0
pub bank_none : (g : Geometry) (k : ℕ) → banks g ≤ k → bank_start g k ≡ 0
unfolding bank_start
bank_none g k h = rw (le-ltb k (banks g) h)

-- the mirror on a top part
pub mirror_top : (g : Geometry) (l : ℕ) → g.top ≡ true → mirror g l ≡ words g - 1 - l
unfolding mirror
mirror_top g l h = rw h

-- the mirror on a bottom part
pub mirror_bottom : (g : Geometry) (l : ℕ) → g.top ≡ false → mirror g l ≡ l
unfolding mirror
mirror_bottom g l h = rw h

module _ (g : Geometry) (w : Sound g) where
  -- ---- counted from the end that has the small blocks

  -- a location in the first place has the number of a small block
  quot_small : (m : ℕ) → m < g.unit → m / small g < g.smalls
  quot_small m h = (div-lt_iff_lt-mul w.small_pos).1 (omega (arith, w.whole))

  -- a location above the first place has a quotient of at least 1
  pub quot_main : (m : ℕ) → g.unit ≤ m → 1 ≤ m / g.unit
  quot_main m h = (le-div_iff_mul-le w.unit_pos).1 (omega (arith, one-mul g.unit))

  -- a number that is no block has no words
  pub size_none : (b : ℕ) → blocks g ≤ b → size_of g b ≡ 0
  unfolding size_of
  size_none b h =
      let k : g.smalls ≤ b = omega (arith, w.places_pos, w.smalls_pos) in
      rw (le-ltb b g.smalls k, le-ltb b (blocks g) h)

  -- the number of the block of a location of the array is a block's
  pub block_lt_from : (m : ℕ) → m < words g → block_from g m < blocks g
  block_lt_from m h = go (order m g.unit)
    where
      p : m / g.unit < g.places
      p = (div-lt_iff_lt-mul w.unit_pos).1 h

      go : (m < g.unit) ⊎ (g.unit ≤ m) → block_from g m < blocks g
      go (inl k) = rw (block_small g m k) (omega (arith, quot_small m k, p))
      go (inr k) = rw (block_main g m k) (omega (arith, p))

  -- a location lies in its block
  pub in_from : (m : ℕ) → m < words g → In (start_from g (block_from g m)) (size_of g (block_from g m)) m
  in_from m n = go (order m g.unit)
    where
      go : (m < g.unit) ⊎ (g.unit ≤ m) → In (start_from g (block_from g m)) (size_of g (block_from g m)) m
      go (inl h) =
          let b : ℕ = m / small g in
          let k : b < g.smalls = quot_small m h in
          let r = run_of m (small g) w.small_pos in
          rw (block_small g m h, start_small g b k, size_small g b k) (record { low = r.0; high = r.1 })
      go (inr h) =
          let b : ℕ = m / g.unit + (g.smalls - 1) in
          let k : g.smalls ≤ b = omega (arith, quot_main m h, w.smalls_pos) in
          let t : b < blocks g = omega (arith, block_lt_from m n, block_main g m h) in
          let e : b - (g.smalls - 1) ≡ m / g.unit = omega arith in
          let r = run_of m g.unit w.unit_pos in
          rw (block_main g m h, start_main g b k, size_main g b k t, e) (record { low = r.0; high = r.1 })

  -- and in no other
  pub only_from : (b m : ℕ) → In (start_from g b) (size_of g b) m → block_from g m ≡ b
  only_from b m i = go (order b g.smalls) (order b (blocks g))
    where
      go : (b < g.smalls) ⊎ (g.smalls ≤ b) → (b < blocks g) ⊎ (blocks g ≤ b) → block_from g m ≡ b
      go (inl k) _ =
          let s = start_small g b k in
          let z = size_small g b k in
          let h : m < g.unit = omega (arith, run_end b g.smalls (small g) k, w.whole, i.high) in
          block_small g m h ∙ run_only b m (small g) (omega (arith, i.low)) (omega (arith, i.high))
      go (inr k) (inl t) =
          let j : ℕ = b - (g.smalls - 1) in
          let s : start_from g b ≡ j * g.unit = start_main g b k in
          let z = size_main g b k t in
          let p : 0 < j = omega (arith, w.smalls_pos) in
          let h : g.unit ≤ m = omega (arith, run_end 0 j g.unit p, i.low) in
          block_main g m h
          ∙ ap (λ (x : ℕ). x + (g.smalls - 1)) (run_only j m g.unit (omega (arith, i.low)) (omega (arith, i.high)))
          ∙ omega (arith, w.smalls_pos)
      go (inr k) (inr n) = omega (arith, size_none b n, i.low, i.high)

  -- a block ends within the array
  pub end_from : (b : ℕ) → b < blocks g → start_from g b + size_of g b ≤ words g
  end_from b h = go (order b g.smalls)
    where
      go : (b < g.smalls) ⊎ (g.smalls ≤ b) → start_from g b + size_of g b ≤ words g
      go (inl k) =
          rw (start_small g b k, size_small g b k)
          (omega (arith, run_end b g.smalls (small g) k, w.whole, run_end 0 g.places g.unit w.places_pos))
      go (inr k) =
          let j : ℕ = b - (g.smalls - 1) in
          rw (start_main g b k, size_main g b k h) (run_end j g.places g.unit (omega (arith, w.smalls_pos)))

  -- a block ends where the next begins
  pub start_next : (b : ℕ) → b < blocks g → start_from g (suc b) ≡ start_from g b + size_of g b
  start_next b t = go (order (suc b) g.smalls) (order b g.smalls)
    where
      go : (suc b < g.smalls) ⊎ (g.smalls ≤ suc b) → (b < g.smalls) ⊎ (g.smalls ≤ b) → start_from g (suc b) ≡ start_from g b + size_of g b
      go (inl h) (inl k) = rw (start_small g (suc b) h, start_small g b k, size_small g b k) (suc-mul b (small g))
      go (inl h) (inr k) = omega arith
      go (inr h) (inl k) =
          let e : suc b ≡ g.smalls = omega arith in
          let j : suc b - (g.smalls - 1) ≡ 1 = omega arith in
          rw (start_main g (suc b) h, start_small g b k, size_small g b k, j) (omega (arith, one-mul g.unit, suc-mul b (small g), ap (λ (x : ℕ). x * small g) e, w.whole))
      go (inr h) (inr k) =
          let j : suc b - (g.smalls - 1) ≡ suc (b - (g.smalls - 1)) = omega (arith, w.smalls_pos) in
          rw (start_main g (suc b) h, start_main g b k, size_main g b k t, j) (suc-mul (b - (g.smalls - 1)) g.unit)

  -- above the first place a block's number is no more than the location, so it fits where the location does
  pub block_le : (m : ℕ) → g.unit ≤ m → m / g.unit + (g.smalls - 1) ≤ m
  block_le m h =
      let k : ℕ = m / g.unit - 1 in
      let q : suc k ≡ m / g.unit = omega (arith, quot_main m h) in
      let a : k * 1 ≤ k * g.unit = mul-le-mul_left k w.unit_pos in
      let b : g.smalls * 1 ≤ g.smalls * small g = mul-le-mul_left g.smalls w.small_pos in
      let d : suc k * g.unit ≤ m = subst (λ (x : ℕ). x * g.unit ≤ m) (sym q) (div-mul-le_self m g.unit) in
      omega (arith, suc-mul k g.unit, w.whole, w.smalls_pos)

  -- ---- the blocks of the locations

  -- the location of an address is within the array
  pub location_lt : (a : ℕ) → location g a < words g
  location_lt a = mod-lt a w.words_pos

  -- the mirror of a location is within the array
  pub mirror_lt : (l : ℕ) → l < words g → mirror g l < words g
  unfolding mirror
  mirror_lt l h = go g.top
    where
      go : (t : Bool) → cond t (words g - 1 - l) l < words g
      go true = omega arith
      go false = h

  -- a block holds a location exactly when it holds the mirror as counted from the end that has the small blocks
  mirrored : (b l : ℕ) → b < blocks g → l < words g → In (start_from g b) (size_of g b) (mirror g l) ↔ In (start_of g b) (size_of g b) l
  unfolding mirror
  mirrored b l k h = rw (start_is g b k) (flip g.top (start_from g b) (size_of g b) (words g) l (end_from b k) h)

  -- a number is a block's where it has words
  pub block_real : (b : ℕ) → 0 < size_of g b → b < blocks g
  block_real b p = go (order b (blocks g))
    where
      go : (b < blocks g) ⊎ (blocks g ≤ b) → b < blocks g
      go (inl h) = h
      go (inr h) = omega (arith, size_none b h)

  -- a block has at least one word
  pub size_pos : (b : ℕ) → b < blocks g → 0 < size_of g b
  size_pos b t = go (order b g.smalls)
    where
      go : (b < g.smalls) ⊎ (g.smalls ≤ b) → 0 < size_of g b
      go (inl h) = rw (size_small g b h) w.small_pos
      go (inr h) = rw (size_main g b h t) w.unit_pos

  -- a block has no more words than a main block
  pub size_le : (b : ℕ) → size_of g b ≤ g.unit
  size_le b = go (order b g.smalls) (order b (blocks g))
    where
      go : (b < g.smalls) ⊎ (g.smalls ≤ b) → (b < blocks g) ⊎ (blocks g ≤ b) → size_of g b ≤ g.unit
      go (inl h) _ = rw (size_small g b h) (omega (arith, run_end 0 g.smalls (small g) w.smalls_pos, w.whole))
      go (inr h) (inl t) = omega (arith, size_main g b h t)
      go (inr h) (inr n) = omega (arith, size_none b n)

  -- a block lies within the array
  pub end_le : (b : ℕ) → start_of g b + size_of g b ≤ words g
  end_le b = go (order b (blocks g))
    where
      go : (b < blocks g) ⊎ (blocks g ≤ b) → start_of g b + size_of g b ≤ words g
      go (inl h) = rw (start_is g b h) (flip_end g.top (start_from g b) (size_of g b) (words g) (end_from b h))
      go (inr h) = omega (arith, start_none g b h, size_none b h)

  -- a block begins within the array
  pub start_lt : (b : ℕ) → start_of g b < words g
  start_lt b = go (order b (blocks g))
    where
      go : (b < blocks g) ⊎ (blocks g ≤ b) → start_of g b < words g
      go (inl h) = omega (arith, end_le b, size_pos b h)
      go (inr h) = omega (arith, start_none g b h, w.words_pos)

  -- what a block holds is within the array
  pub in_lt : (b l : ℕ) → In (start_of g b) (size_of g b) l → l < words g
  in_lt b l i = omega (arith, end_le b, i.high)

  -- the number of the block of a location is a block's
  pub block_lt : (l : ℕ) → l < words g → block_of g l < blocks g
  unfolding block_of
  block_lt l h = block_lt_from (mirror g l) (mirror_lt l h)

  -- a location lies in its block
  pub lies : (l : ℕ) → l < words g → In (start_of g (block_of g l)) (size_of g (block_of g l)) l
  unfolding block_of
  lies l h = (mirrored (block_of g l) l (block_lt l h) h).0 (in_from (mirror g l) (mirror_lt l h))

  -- and in no other
  pub only : (b l : ℕ) → l < words g → In (start_of g b) (size_of g b) l → block_of g l ≡ b
  unfolding block_of
  only b l h i =
      let k : b < blocks g = block_real b (omega (arith, i.low, i.high)) in
      only_from b (mirror g l) ((mirrored b l k h).1 i)

  -- two blocks hold no location in common
  pub disjoint : (b c l : ℕ) → (b ≡ c → ⊥) → In (start_of g b) (size_of g b) l → In (start_of g c) (size_of g c) l → ⊥
  disjoint b c l n i j =
      let h : l < words g = in_lt b l i in
      n (sym (only b l h i) ∙ only c l h j)

  -- a location of block b, by its offset in the block
  pub block_at : (b o : ℕ) → o < size_of g b → block_of g (start_of g b + o) ≡ b
  block_at b o k = only b (start_of g b + o) (omega (arith, end_le b)) (record { low = omega arith; high = omega arith })

  -- no location is below the start of its block, also past the array
  pub start_le : (l : ℕ) → start_of g (block_of g l) ≤ l
  start_le l = go (order l (words g))
    where
      go : (l < words g) ⊎ (words g ≤ l) → start_of g (block_of g l) ≤ l
      go (inl h) = (lies l h).low
      go (inr h) = omega (arith, end_le (block_of g l))

  -- a location is its block's start and its offset, which is less than the block's words
  pub block_offset_lem : (l : ℕ) → l < words g → (start_of g (block_of g l) + block_offset g l ≡ l) × (block_offset g l < size_of g (block_of g l))
  unfolding block_offset
  block_offset_lem l h = let i = lies l h in (omega (arith, i.low), omega (arith, i.low, i.high))

  -- ---- the banks of the locations

  -- the banks fill the array
  banks_words : banks g * bank_words g ≡ words g
  banks_words = sym (mul_assoc (g.places / g.group) g.group g.unit) ∙ ap (λ (x : ℕ). x * g.unit) w.banks_whole

  -- a bank ends within the array, counted from the end that has the small blocks
  pub bank_end : (k : ℕ) → k < banks g → k * bank_words g + bank_words g ≤ words g
  bank_end k h = omega (arith, run_end k (banks g) (bank_words g) h, banks_words)

  -- a bank lies within the array
  pub bank_end_le : (k : ℕ) → bank_start g k + bank_words g ≤ words g
  bank_end_le k = go (order k (banks g))
    where
      go : (k < banks g) ⊎ (banks g ≤ k) → bank_start g k + bank_words g ≤ words g
      go (inl h) = rw (bank_is g k h) (flip_end g.top (k * bank_words g) (bank_words g) (words g) (bank_end k h))
      go (inr h) = omega (arith, bank_none g k h, w.bank_limit)

  -- a bank begins within the array
  pub bank_start_lt : (k : ℕ) → bank_start g k < words g
  bank_start_lt k = omega (arith, bank_end_le k, w.bank_pos)

  -- the number of the bank of a location is a bank's
  pub bank_lt : (l : ℕ) → l < words g → bank_of g l < banks g
  unfolding bank_of
  bank_lt l h = (div-lt_iff_lt-mul w.bank_pos).1 (omega (arith, mirror_lt l h, banks_words))

  -- a bank holds a location exactly when it holds the mirror as counted from the end that has the small blocks
  bank_mirrored : (k l : ℕ) → k < banks g → l < words g → In (k * bank_words g) (bank_words g) (mirror g l) ↔ In (bank_start g k) (bank_words g) l
  unfolding mirror
  bank_mirrored k l b h = rw (bank_is g k b) (flip g.top (k * bank_words g) (bank_words g) (words g) l (bank_end k b) h)

  -- a location lies in its bank
  pub bank_lies : (l : ℕ) → l < words g → In (bank_start g (bank_of g l)) (bank_words g) l
  unfolding bank_of
  bank_lies l h =
      let r = run_of (mirror g l) (bank_words g) w.bank_pos in
      (bank_mirrored (bank_of g l) l (bank_lt l h) h).0 (record { low = r.0; high = r.1 })

  -- and in no other
  pub bank_only : (k l : ℕ) → k < banks g → l < words g → In (bank_start g k) (bank_words g) l → bank_of g l ≡ k
  unfolding bank_of
  bank_only k l b h i =
      let j = (bank_mirrored k l b h).1 i in
      run_only k (mirror g l) (bank_words g) j.low j.high

  -- no location is below the start of its bank, also past the array
  pub bank_start_le : (l : ℕ) → bank_start g (bank_of g l) ≤ l
  bank_start_le l = go (order l (words g))
    where
      go : (l < words g) ⊎ (words g ≤ l) → bank_start g (bank_of g l) ≤ l
      go (inl h) = (bank_lies l h).low
      go (inr h) = omega (arith, bank_end_le (bank_of g l))

  -- a location is its bank's start and its offset, which is less than the bank's words
  pub bank_offset_lem : (l : ℕ) → l < words g → (bank_start g (bank_of g l) + bank_offset g l ≡ l) × (bank_offset g l < bank_words g)
  unfolding bank_offset
  bank_offset_lem l h = let i = bank_lies l h in (omega (arith, i.low), omega (arith, i.low, i.high))

  -- ---- banks and blocks

  -- the bank of a location is that of its block's place
  bank_from : (m : ℕ) → m / bank_words g ≡ (block_from g m - (g.smalls - 1)) / g.group
  bank_from m = go (order m g.unit)
    where
      through : m / bank_words g ≡ m / g.unit / g.group
      through = ap (λ (x : ℕ). m / x) (mul_comm g.group g.unit) ∙ sym (div-div-eq-div-mul m g.unit g.group)

      go : (m < g.unit) ⊎ (g.unit ≤ m) → m / bank_words g ≡ (block_from g m - (g.smalls - 1)) / g.group
      go (inl h) =
          let e : m / small g - (g.smalls - 1) ≡ 0 = omega (arith, quot_small m h) in
          through ∙ ap (λ (x : ℕ). x / g.group) (div-eq_of_lt h ∙ sym (ap (λ (x : ℕ). x - (g.smalls - 1)) (block_small g m h) ∙ e))
      go (inr h) =
          through ∙ ap (λ (x : ℕ). x / g.group) (sym (ap (λ (x : ℕ). x - (g.smalls - 1)) (block_main g m h) ∙ omega arith))

  -- the bank of a location, computed from its block's number
  pub bank_of_block_lem : (l : ℕ) → bank_of g l ≡ (block_of g l - (g.smalls - 1)) / g.group
  unfolding bank_of block_of
  bank_of_block_lem l = bank_from (mirror g l)

  -- two locations of one block are in one bank
  pub same_bank : (l k : ℕ) → block_of g l ≡ block_of g k → bank_of g l ≡ bank_of g k
  same_bank l k e = bank_of_block_lem l ∙ ap (λ (b : ℕ). (b - (g.smalls - 1)) / g.group) e ∙ sym (bank_of_block_lem k)

  -- the start of a block lies in that block
  pub start_block : (b : ℕ) → b < blocks g → block_of g (start_of g b) ≡ b
  start_block b h =
      only b (start_of g b) (start_lt b) (record { low = omega arith; high = omega (arith, size_pos b h) })

-- ---- each location lies in exactly one block

-- a block that holds l
pub record Held (g : Geometry) (l : ℕ) : Type 0 where
  pub block : ℕ
  pub is_block : block < blocks g
  pub holds : In (start_of g block) (size_of g block) l

-- the one block that holds l
pub record One (g : Geometry) (l : ℕ) : Type 0 where
  pub block : ℕ
  pub is_block : block < blocks g
  pub holds : In (start_of g block) (size_of g block) l
  pub unique : (b : ℕ) → In (start_of g b) (size_of g b) l → b ≡ block

module _ (g : Geometry) (w : Sound g) where
  -- the blocks fill the array: each location lies in some block
  pub fills : (l : ℕ) → l < words g → Held g l
  fills l h = record { block = block_of g l; is_block = block_lt g w l h; holds = lies g w l h }

  -- each location lies in exactly one block
  pub exactly_one : (l : ℕ) → l < words g → One g l
  exactly_one l h =
      record {
        block = block_of g l;
        is_block = block_lt g w l h;
        holds = lies g w l h;
        unique = λ b i. sym (only g w b l h i);
      }

-- ---- the parts

-- every part is sound
pub sound : (p : Part) → Sound (geometry_of p)
sound FullBottom = omega arith
sound FullTop = omega arith
sound BenchBottom = omega arith
sound BenchTop = omega arith

-- "There are 259 blocks"
pub part_blocks : (p : Part) → blocks (geometry_of p) ≡ 259
part_blocks FullBottom = refl
part_blocks FullTop = refl
part_blocks BenchBottom = refl
part_blocks BenchTop = refl

-- "The bank is ..., 0 to 15"
pub part_banks : (p : Part) → banks (geometry_of p) ≡ 16
part_banks FullBottom = refl
part_banks FullTop = refl
part_banks BenchBottom = refl
part_banks BenchTop = refl

-- the number of the block of a part's location
pub part_block_lt : (p : Part) (l : ℕ) → l < words (geometry_of p) → block_of (geometry_of p) l < 259
part_block_lt p l h = rw (part_blocks p) at (block_lt (geometry_of p) (sound p) l h)

-- the number of the bank of a part's location
pub part_bank_lt : (p : Part) (l : ℕ) → l < words (geometry_of p) → bank_of (geometry_of p) l < 16
part_bank_lt p l h = rw (part_banks p) at (bank_lt (geometry_of p) (sound p) l h)
