-- The laws of the geometry that the theorem rests on, in the form in which its proofs use them. Assumes nothing.
use Rattle.std.specs.Prelude.{◌≡◌, ℕ, ◌+◌, ◌≤◌, ◌<◌}
use Rattle.std.proofs.Common.{arith}
use Rattle.geometry.specs.declared.Geometry.{Geometry}
use Rattle.geometry.specs.Blocks.{Sound, words, block_of, start_of, size_of}
use Rattle.geometry.specs.Laws as laws

module _ (g : Geometry) (sound : Sound g) where
  -- a location lies in its block
  pub inside : (L : ℕ) → L < words g → (start_of g (block_of g L) ≤ L) × (L < start_of g (block_of g L) + size_of g (block_of g L))
  inside L h = let i = laws.lies g sound L h in (i.low, i.high)

  -- a block ends within the array
  pub fits : (b : ℕ) → start_of g b + size_of g b ≤ words g
  fits b = laws.end_le g sound b

  -- and holds no location of another
  pub only : (b L : ℕ) → start_of g b ≤ L → L < start_of g b + size_of g b → block_of g L ≡ b
  only b L p q = laws.only g sound b L (omega (arith, fits b)) (record { low = p; high = q })
