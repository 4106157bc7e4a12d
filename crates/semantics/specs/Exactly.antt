-- Just these of the 256 codes of a byte pass a test: for tables that try every code.
-- Assumes nothing.
use Rattle.std.specs.Prelude.{ℕ, zero, suc, Bool, true, false, cond, ◌&&◌, List, [], ◌∷◌, eqb}

-- those below n that pass, before others
abbrev below : (ℕ → Bool) → ℕ → List ℕ → List ℕ
below f zero l = l
below f (suc c) l = below f c (cond (f c) (c ∷ l) l)

abbrev same : List ℕ → List ℕ → Bool
same [] [] = true
same [] (y ∷ m) = false
same (x ∷ l) [] = false
same (x ∷ l) (y ∷ m) = eqb x y && same l m

-- they are named from the lowest up
abbrev pub exactly : (ℕ → Bool) → List ℕ → Bool
exactly f l = same (below f 256 []) l
