-- How many lines the text of a part's array has. That it reads back the same words is in proofs/Back.
-- Assumes nothing.
use Prim.Native.Nat.{ℕ}
use Rattle.geometry.specs.declared.Part.{Part}
use Rattle.geometry.specs.declared.Part.TheVariants.{FullBottom, FullTop, BenchBottom, BenchTop}

-- how many lines it has
abbrev pub text_lines : Part → ℕ
text_lines FullBottom = 2097665
text_lines FullTop = 2097665
text_lines BenchBottom = 2050
text_lines BenchTop = 2050
