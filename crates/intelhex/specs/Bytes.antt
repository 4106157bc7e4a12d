-- Lists of bytes. The laws are in proofs/Bytes.
-- Assumes nothing.
use Rattle.std.specs.Prelude.{ℕ, ◌<◌, List, get_or}

-- each is below 256
abbrev pub Small : List ℕ → Type 0
Small bs = (i : ℕ) → get_or bs i 0 < 256
