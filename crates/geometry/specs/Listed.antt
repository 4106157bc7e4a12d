-- Laws of the table of block starts: what passes the computed test has at each entry the start of its block, and gives the formula's block for every location
-- of every part. Once over any table and any sound geometry.
-- Assumes nothing.
use Rattle.std.specs.Prelude.{ℕ, zero, suc, ◌+◌, ◌-◌, ◌*◌, ◌/◌, ◌<◌, ◌≤◌, Bool, true, false, ◌&&◌, ◌||◌, ◌≡◌, refl, ◌⊎◌, leb, eqb, length, get_or}
use Rattle.std.proofs.Math.Bool.{not, and-eq-true_iff}
use Rattle.std.proofs.Common.{true≢false, sym, ap, ap₂, ◌∙◌, subst, inl, inr, mul-le-mul_right, mul-lt-mul_of_pos_right, mul-div_cancel, mul_assoc, le-div_iff_mul-le, arith}
use mathlib.Core.List.{List, [], ◌∷◌}
use Rattle.std.proofs.Math.Nat.{mul-div-mul_right}
use Rattle.std.specs.List.Sorted.{IsNonDecreasingBy}
use Rattle.std.proofs.lemmas.List.Sorted.{IsNonDecreasingBy-from_default}
use borrow.Author.Tests.{leb-true, eqb-true, not-true, le-leb, lt-leb, eq-eqb}
use Rattle.geometry.specs.declared.Part.{Part}
use Rattle.geometry.specs.declared.Part.TheVariants.{FullBottom, FullTop, BenchBottom, BenchTop}
use Rattle.geometry.specs.declared.Geometry.{Geometry}
use Rattle.geometry.specs.Blocks.{geometry_of, small, words, blocks, mirror, block_from, block_of, start_from, size_of, Sound}
use Rattle.geometry.specs.Laws.{In, order, block_small, block_main, start_small, start_main, in_from, only_from, start_next, block_lt_from, mirror_lt, sound, run_end}
use Rattle.geometry.specs.Table.{begins, tied, not_above, Rises, scale}

-- ---- the rule at each entry

module _ (g : Geometry) (w : Sound g) where
  -- past the part the formula gives no block's number
  past : (m : ℕ) → words g ≤ m → blocks g ≤ block_from g m
  past m h =
      let k : g.unit ≤ m = omega (arith, run_end 0 g.places g.unit w.places_pos) in
      let q : g.places ≤ m / g.unit = (le-div_iff_mul-le w.unit_pos).1 h in
      rw (block_main g m k) (omega arith)

  -- where the formula begins a block is the block's start
  pub begins_start : (b x : ℕ) → b < blocks g → begins g b x ≡ true → x ≡ start_from g b
  unfolding begins
  begins_start b x h e = go (order (start_from g b) x)
    where
      parts : (eqb (block_from g x) b ≡ true) × ((eqb x 0 || not (eqb (block_from g (x - 1)) b)) ≡ true)
      parts = (and-eq-true_iff (eqb (block_from g x) b) (eqb x 0 || not (eqb (block_from g (x - 1)) b))).0 e

      lies : block_from g x ≡ b
      lies = eqb-true (block_from g x) b parts.0

      within : (x < words g) ⊎ (words g ≤ x) → x < words g
      within (inl t) = t
      within (inr t) = omega (arith, past x t, lies)

      i : In (start_from g b) (size_of g b) x
      i = subst (λ (c : ℕ). In (start_from g c) (size_of g c) x) lies (in_from g w x (within (order x (words g))))

      -- a location further on in the block has one of the same block before it
      no_other : start_from g b < x → (eqb x 0 || not (eqb (block_from g (x - 1)) b)) ≡ true → ⊥
      no_other t d =
          let j : In (start_from g b) (size_of g b) (x - 1) = record { low = omega (arith, i.low); high = omega (arith, i.high) } in
          clash (eqb x 0) (eqb (block_from g (x - 1)) b) (λ z. omega (arith, eqb-true x 0 z)) (eq-eqb (block_from g (x - 1)) b (only_from g w b (x - 1) j)) d
        where
          clash : (s t : Bool) → (s ≡ true → ⊥) → t ≡ true → (s || not t) ≡ true → ⊥
          clash true t n p q = n refl
          clash false t n p q = true≢false (sym p ∙ not-true t q)

      go : (start_from g b < x) ⊎ (x ≤ start_from g b) → x ≡ start_from g b
      go (inl t) = absurd (no_other t parts.1)
      go (inr t) = omega (arith, i.low)

  -- what the test of the entries from block b on says of the first, and of those after it
  first : (b least x : ℕ) (xs : List ℕ) → tied g b least (x ∷ xs) ≡ true → (least ≤ x) × ((begins g b x ≡ true) × (tied g (suc b) (suc x) xs ≡ true))
  unfolding tied
  first b least x xs e =
      let a = (and-eq-true_iff (leb least x) (begins g b x && tied g (suc b) (suc x) xs)).0 e in
      let d = (and-eq-true_iff (begins g b x) (tied g (suc b) (suc x) xs)).0 a.1 in
      (leb-true least x a.0, d)

  -- the table ends with the last block
  tied_end : (b least : ℕ) (xs : List ℕ) → tied g b least xs ≡ true → b + length xs ≡ blocks g
  unfolding tied
  tied_end b least [] e = omega (arith, eqb-true b (blocks g) e)
  tied_end b least (x ∷ xs) e = omega (arith, tied_end (suc b) (suc x) xs (first b least x xs e).1.1)

  -- each entry is no less than the least, and begins its block
  tied_at : (b least : ℕ) (xs : List ℕ) → tied g b least xs ≡ true → (k : ℕ) → k < length xs → (least ≤ get_or xs k 0) × (begins g (b + k) (get_or xs k 0) ≡ true)
  tied_at b least [] e k h = absurd (omega arith)
  tied_at b least (x ∷ xs) e zero h = ((first b least x xs e).0, subst (λ (n : ℕ). begins g n x ≡ true) (omega arith) (first b least x xs e).1.0)
  tied_at b least (x ∷ xs) e (suc k) h =
      let f = first b least x xs e in
      let r = tied_at (suc b) (suc x) xs f.1.1 k (omega arith) in
      (omega (arith, f.0, r.0), subst (λ (n : ℕ). begins g n (get_or xs k 0) ≡ true) (omega arith) r.1)

  tied_rise : (b least : ℕ) (xs : List ℕ) → tied g b least xs ≡ true → (j k : ℕ) → j < k → k < length xs → get_or xs j 0 < get_or xs k 0
  tied_rise b least [] e j k t h = omega arith
  tied_rise b least (x ∷ xs) e j zero t h = omega arith
  tied_rise b least (x ∷ xs) e zero (suc k) t h = (tied_at (suc b) (suc x) xs (first b least x xs e).1.1 k (omega arith)).0
  tied_rise b least (x ∷ xs) e (suc j) (suc k) t h = tied_rise (suc b) (suc x) xs (first b least x xs e).1.1 j k (omega arith) (omega arith)

  module _ (xs : List ℕ) (e : tied g 0 0 xs ≡ true) where
    -- the table has an entry for each block and no more
    pub entries : length xs ≡ blocks g
    entries = omega (arith, tied_end 0 0 xs e)

    -- the rule at each entry: it is the start of its block
    pub entry : (b : ℕ) → b < blocks g → get_or xs b 0 ≡ start_from g b
    entry b h = begins_start b (get_or xs b 0) h (subst (λ (n : ℕ). begins g n (get_or xs b 0) ≡ true) (omega arith) (tied_at 0 0 xs e b (omega (arith, entries))).1)

    -- the table rises strictly
    pub rises : Rises xs
    rises = record { rise = tied_rise 0 0 xs e }

-- ---- the last entry that is not above

-- where the entries below n are not above l and the others are, n is how many are not above
pub split : (xs : List ℕ) (l n : ℕ) → n ≤ length xs → ((k : ℕ) → k < n → get_or xs k 0 ≤ l) → ((k : ℕ) → n ≤ k → k < length xs → l < get_or xs k 0) → not_above xs l ≡ n
unfolding not_above
split [] l n h below above = omega arith
split (x ∷ xs) l zero h below above =
    rw (lt-leb x l (above 0 (omega arith) (omega arith))) (omega (arith, split xs l 0 (omega arith) (λ k t. omega arith) (λ k t s. above (suc k) (omega arith) (omega arith))))
split (x ∷ xs) l (suc n) h below above =
    rw (le-leb x l (below 0 (omega arith)))
    (omega (arith, split xs l n (omega arith) (λ k t. below (suc k) (omega arith)) (λ k t s. above (suc k) (omega arith) (omega arith))))

-- the entries of a rising table up to one that is not above l are not above it, and those from one that is above l on are above it
pub up_to : (xs : List ℕ) (l j k : ℕ) → Rises xs → k < length xs → get_or xs k 0 ≤ l → j ≤ k → get_or xs j 0 ≤ l
up_to xs l j k r h t i = go (order j k)
  where
    go : (j < k) ⊎ (k ≤ j) → get_or xs j 0 ≤ l
    go (inl s) = omega (arith, r.rise j k s h)
    go (inr s) = subst (λ (n : ℕ). get_or xs n 0 ≤ l) (omega arith) t

pub from_on : (xs : List ℕ) (l j k : ℕ) → Rises xs → k < length xs → l < get_or xs j 0 → j ≤ k → l < get_or xs k 0
from_on xs l j k r h t i = go (order j k)
  where
    go : (j < k) ⊎ (k ≤ j) → l < get_or xs k 0
    go (inl s) = omega (arith, r.rise j k s h)
    go (inr s) = subst (λ (n : ℕ). l < get_or xs n 0) (omega arith) t

-- what a search by halving knows: the entries below `low` are not above l, those past the `left` after them are
pub record Halved (xs : List ℕ) (l low left : ℕ) : Type 0 where
  pub within : low + left ≤ length xs
  pub below : (k : ℕ) → k < low → get_or xs k 0 ≤ l
  pub above : (k : ℕ) → low + left ≤ k → k < length xs → l < get_or xs k 0

pub halved_first : (xs : List ℕ) (l : ℕ) → Halved xs l 0 (length xs)
halved_first xs l = record { within = omega arith; below = λ k t. omega arith; above = λ k t s. omega arith }

-- a look at the last entry of the half, and what is left after it on either branch
module _ (xs : List ℕ) (l low half rest : ℕ) (r : Rises xs) (i : Halved xs l low (half + rest)) (p : 0 < half) where
  pub halved_up : get_or xs (low + half - 1) 0 ≤ l → Halved xs l (low + half) rest
  halved_up t =
      record {
        within = omega (arith, i.within);
        below = λ k s. up_to xs l k (low + half - 1) r (omega (arith, i.within)) t (omega arith);
        above = λ k a b. i.above k (omega arith) b;
      }

  pub halved_down : half ≤ suc rest → l < get_or xs (low + half - 1) 0 → Halved xs l low rest
  halved_down h t =
      record {
        within = omega (arith, i.within);
        below = i.below;
        above = λ k a b. from_on xs l (low + half - 1) k r b t (omega arith);
      }

pub halved_last : (xs : List ℕ) (l low : ℕ) → Halved xs l low 0 → low ≡ not_above xs l
halved_last xs l low i = sym (split xs l low (omega (arith, i.within)) i.below (λ k t s. i.above k (omega arith) s))

-- such a table is one that std's searches take
pub rises_level : (xs : List ℕ) → Rises xs → IsNonDecreasingBy (λ (x : ℕ). x) xs
rises_level xs r = IsNonDecreasingBy-from_default (λ (x : ℕ). x) xs 0 (λ i j h t. up_to xs (get_or xs j 0) i j r t (omega arith) h)

-- the last entry that is not above a location is that of the formula's block
pub last_block : (g : Geometry) → Sound g → (xs : List ℕ) → tied g 0 0 xs ≡ true → (l : ℕ) → l < words g → not_above xs l ≡ suc (block_from g l)
last_block g w xs e l h = split xs l (suc b) (omega (arith, n, k)) below above
  where
    b : ℕ
    b = block_from g l

    k : b < blocks g
    k = block_lt_from g w l h

    n : length xs ≡ blocks g
    n = entries g w xs e

    i : In (start_from g b) (size_of g b) l
    i = in_from g w l h

    below : (j : ℕ) → j < suc b → get_or xs j 0 ≤ l
    below j t = up_to xs l j b (rises g w xs e) (omega (arith, n, k)) (omega (arith, entry g w xs e b k, i.low)) (omega arith)

    above : (j : ℕ) → suc b ≤ j → j < length xs → l < get_or xs j 0
    above j t s =
        from_on xs l (suc b) j (rises g w xs e) s (omega (arith, entry g w xs e (suc b) (omega (arith, n)), start_next g w b k, i.high)) t

-- ---- mirror and scale

-- h is g with k words for each of g's
pub record Scaled (k : ℕ) (g h : Geometry) : Type 0 where
  pub factor : 0 < k
  pub smalls : h.smalls ≡ g.smalls
  pub unit : g.unit * k ≡ h.unit
  pub small : small g * k ≡ small h

module _ (k : ℕ) (g h : Geometry) (s : Scaled k g h) where
  -- a location lies in the block of the one that it stands for
  pub block_scaled : (m : ℕ) → block_from h (m * k) ≡ block_from g m
  block_scaled m = go (order m g.unit)
    where
      go : (m < g.unit) ⊎ (g.unit ≤ m) → block_from h (m * k) ≡ block_from g m
      go (inl t) =
          block_small h (m * k) (subst (λ (x : ℕ). m * k < x) s.unit (mul-lt-mul_of_pos_right t s.factor))
          ∙ ap (λ (x : ℕ). m * k / x) (sym s.small) ∙ mul-div-mul_right m (small g) s.factor ∙ sym (block_small g m t)
      go (inr t) =
          block_main h (m * k) (subst (λ (x : ℕ). x ≤ m * k) s.unit (mul-le-mul_right k t))
          ∙ ap₂ (λ (x y : ℕ). m * k / x + (y - 1)) (sym s.unit) s.smalls
          ∙ ap (λ (x : ℕ). x + (g.smalls - 1)) (mul-div-mul_right m g.unit s.factor) ∙ sym (block_main g m t)

  -- a block's start stands for that of the block
  start_times : (b : ℕ) → start_from h b ≡ start_from g b * k
  start_times b = go (order b g.smalls)
    where
      go : (b < g.smalls) ⊎ (g.smalls ≤ b) → start_from h b ≡ start_from g b * k
      go (inl t) =
          start_small h b (omega (arith, s.smalls)) ∙ ap (λ (x : ℕ). b * x) (sym s.small)
          ∙ sym (ap (λ (x : ℕ). x * k) (start_small g b t) ∙ mul_assoc b (small g) k)
      go (inr t) =
          start_main h b (omega (arith, s.smalls)) ∙ ap₂ (λ (x y : ℕ). (b - (x - 1)) * y) s.smalls (sym s.unit)
          ∙ sym (ap (λ (x : ℕ). x * k) (start_main g b t) ∙ mul_assoc (b - (g.smalls - 1)) g.unit k)

  pub start_scaled : (b : ℕ) → start_from h b / k ≡ start_from g b
  start_scaled b = ap (λ (x : ℕ). x / k) (start_times b) ∙ mul-div_cancel (start_from g b) s.factor

-- every part is the full bottom part, scaled
pub scaled : (p : Part) → Scaled (scale (geometry_of p)) (geometry_of p) (geometry_of FullBottom)
scaled FullBottom = omega arith
scaled FullTop = omega arith
scaled BenchBottom = omega arith
scaled BenchTop = omega arith

pub scaled_lt : (p : Part) (m : ℕ) → m < words (geometry_of p) → m * scale (geometry_of p) < words (geometry_of FullBottom)
scaled_lt FullBottom m h = omega arith
scaled_lt FullTop m h = omega arith
scaled_lt BenchBottom m h = omega arith
scaled_lt BenchTop m h = omega arith

-- "Prove it gives the old formula's block for every location of every part"
pub table_is_formula : (xs : List ℕ) → tied (geometry_of FullBottom) 0 0 xs ≡ true → (p : Part) (l : ℕ) → l < words (geometry_of p) → not_above xs (mirror (geometry_of p) l * scale (geometry_of p)) ≡ suc (block_of (geometry_of p) l)
unfolding block_of
table_is_formula xs e p l h =
    let m : ℕ = mirror (geometry_of p) l in
    let k : ℕ = scale (geometry_of p) in
    last_block (geometry_of FullBottom) (sound FullBottom) xs e (m * k) (scaled_lt p m (mirror_lt (geometry_of p) (sound p) l h))
    ∙ ap suc (block_scaled k (geometry_of p) (geometry_of FullBottom) (scaled p) m)

-- and each block's start of every part, counted from the end that has the small blocks
pub table_is_start : (xs : List ℕ) → tied (geometry_of FullBottom) 0 0 xs ≡ true → (p : Part) (b : ℕ) → b < 259 → get_or xs b 0 / scale (geometry_of p) ≡ start_from (geometry_of p) b
table_is_start xs e p b h =
    ap (λ (x : ℕ). x / scale (geometry_of p)) (entry (geometry_of FullBottom) (sound FullBottom) xs e b h)
    ∙ start_scaled (scale (geometry_of p)) (geometry_of p) (geometry_of FullBottom) (scaled p) b
