-- A bit goes from 0 to 1 only by an erase of its block that reached the word (only_erases_set). Assumes nothing.
use Rattle.std.specs.Prelude.{◌≡◌, refl, List, ◌∷◌, Bool, true, false, cond, ℕ, ◌-◌, ◌≤◌, ◌<◌, ◌/◌, ◌^◌, length, get_or}
use Rattle.std.proofs.Common.{sym, inl, inr, arith}
use Rattle.std.specs.Int.Bits.{bit_and, and_step}
use Rattle.std.proofs.lemmas.Nat.{and_shr}
use Rattle.geometry.specs.declared.Part.{Part}
use Rattle.geometry.specs.declared.Geometry.{Geometry}
use Rattle.geometry.specs.Blocks.{Sound, geometry_of, words, start_of, size_of}
use Rattle.geometry.specs.Laws as laws
use Rattle.semantics.specs.declared.Step.{Step}
use Rattle.semantics.specs.Numbers.{within, within_true}
use Rattle.semantics.specs.Layout.{only}
use Rattle.semantics.specs.Steps.{after_all, fresh}
use Rattle.semantics.specs.Branches.{of_cond}
use Rattle.semantics.specs.Entries as entries
use Rattle.semantics.specs.Entries.{Phase, Entry, entry, is_finished}
use Rattle.semantics.specs.Recorder.{Operation, program, erase, buffer, kinds, journal_of}
use Rattle.semantics.proofs.Engine.{After}
use Rattle.semantics.proofs.Theorem.{reached}
use Rattle.semantics.specs.SingleBits.{bit, Erased}

and_bit : (w d i : ℕ) → bit (bit_and w d) i ≤ bit w i
and_bit w d i = rw (and_shr w d i) (omega (arith, and_step (w / 2 ^ i) (d / 2 ^ i)))

-- a program sets no bit
program_bit : (t : Bool) (x d i : ℕ) → bit (cond t (bit_and x d) x) i ≤ bit x i
program_bit t x d i = of_cond (λ (y : ℕ). bit y i ≤ bit x i) t _ _ (and_bit x d i) (omega arith)

module _ (g : Geometry) where
  module _ (sound : Sound g) (L w i : ℕ) where
    -- where the journal makes a bit 1 that was 0, an erase reached the word
    abbrev Sets : List (Entry Operation) → Type 0
    Sets j = bit w i < bit (After g j L w) i → Erased g j L

    -- an entry has no more units than it has words, so that what it has reached lies in its block
    erase_sets : (b u : ℕ) (t : Phase) (j : List (Entry Operation)) → u ≤ size_of g b → Sets j → (r : Bool) → within (start_of g b) u L ≡ r → bit w i < bit (cond r 0xFFFF (After g j L w)) i → Erased g (entry (erase b) u t ∷ j) L
    erase_sets b u t j h f true e x = let z = within_true (start_of g b) u L e in inl (sym (only g sound b L z.0 (omega arith)), omega arith)
    erase_sets b u t j h f false e x = inr (f x)

    sets : (k : Operation) (u : ℕ) (t : Phase) (j : List (Entry Operation)) → entries.Whole (kinds g) k (is_finished t) u → Sets j → Sets (entry k u t ∷ j)
    sets (program l d) u t j e f x = f (omega (arith, program_bit (within l u L) (After g j L w) d i))
    sets (buffer l ws) u t j e f x = f (omega (arith, program_bit (within l u L) (After g j L w) (get_or ws (L - l) 0xFFFF) i))
    sets (erase b) u t j e f x = erase_sets b u t j (entries.whole_le (kinds g) (erase b) (is_finished t) u e) f (within (start_of g b) u L) refl x

-- a bit goes from 0 to 1 only by an erase of the word's block that has reached the word
pub only_erases_set : (p : Part) (l : List Step) (xs : List ℕ) → length xs ≡ words (geometry_of p) → (L i : ℕ) → L < words (geometry_of p)
    → bit (get_or xs L 0) i < bit (get_or (after_all (fresh p xs) l).array L 0) i → Erased (geometry_of p) (journal_of (geometry_of p) l) L
only_erases_set p l xs h L i k b =
    entries.match_each (kinds (geometry_of p)) (Sets (geometry_of p) (laws.sound p) L (get_or xs L 0) i) (λ x. omega arith) (sets (geometry_of p) (laws.sound p) L (get_or xs L 0) i) (reached p l xs h).sim.match
    (rw ((reached p l xs h).word L k) at b)
