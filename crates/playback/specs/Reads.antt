-- Short lists of reads, and that they change nothing. Assumes nothing.
use Rattle.std.specs.Prelude.{ℕ, zero, suc, ◌<◌, ◌/◌, ◌%◌, Bool, true, ◌&&◌, List, [], ◌∷◌, ◌≡◌, refl, ltb, leb, length, get_or, drop, Option, Some, None}
use Rattle.std.proofs.Common.{ap, ◌∙◌, arith, drop-cons, ltb-true}
use Rattle.std.specs.Option.{option_map_or}
use Rattle.refusal.specs.declared.Refusal.{Refusal}
use Rattle.semantics.specs.declared.State.{State}
use Rattle.semantics.specs.declared.Step.TheVariants.{Read}
use Rattle.semantics.specs.declared.Answer.TheVariants.{Refused}
use Rattle.semantics.specs.Encoding.{decoded_as, decode}
use Rattle.semantics.specs.Steps.{next, accepted, accepted_array}
use Rattle.semantics.proofs.Engine.{and_true_l, and_true_r}
use Rattle.wear.specs.Steps.{Counted, beside, after_with, after_all_with, accepted_counts, refusal_with, step_with, array_with, counts_with}
use Rattle.playback.specs.Playback.{playable}

-- the number encodes a read
abbrev pub is_read : ℕ → Bool
is_read code = ltb code 4294967296

-- each of them does
unfoldable pub all_reads : List ℕ → Bool
all_reads [] = true
all_reads (c ∷ l) = is_read c && all_reads l

-- and they are at most eight
unfoldable pub few_reads : List ℕ → Bool
few_reads l = leb (length l) 8 && all_reads l

-- ---- laws

-- a number below 2 ^ 32 encodes a read of that address
decode_read : (c : ℕ) → is_read c ≡ true → decode c ≡ Some (Read c)
unfolding decode decoded_as
decode_read c h =
    let i : c < 4294967296 = ltb-true c 4294967296 h in
    let x : c / 281474976710656 ≡ 0 = omega arith in
    let y : c / 4294967296 % 65536 ≡ 0 = omega arith in
    let z : c % 4294967296 ≡ c = omega arith in
    rw (x, y, z)

-- a read leaves the device, its counts and the array, refused or not
read_leaves : (m : Counted) (a : ℕ) → after_with m (Read a) ≡ m
unfolding step_with array_with counts_with accepted accepted_array accepted_counts
read_leaves m a = go (refusal_with m.machine.state m.counts (length m.machine.array) (Read a))
  where
    s : State
    s = m.machine.state

    xs : List ℕ
    xs = m.machine.array

    go : (o : Option Refusal)
        → beside (option_map_or (λ e. next s (Refused e)) o (accepted s xs (Read a))).state
        (option_map_or (λ e. xs) o (accepted_array s xs (Read a))) (option_map_or (λ e. m.counts) o (accepted_counts s m.counts (Read a))) ≡ m
    go None = refl
    go (Some e) = refl

-- and so do those of a list
pub reads_leave : (codes : List ℕ) (n : ℕ) (m : Counted) → all_reads codes ≡ true → after_all_with m (playable codes n) ≡ m
unfolding all_reads playable
reads_leave [] n m h = refl
reads_leave (c ∷ l) zero m h = refl
reads_leave (c ∷ l) (suc n) m h =
    rw (decode_read c (and_true_l (is_read c) (all_reads l) h))
    (ap (λ (y : Counted). after_all_with y (playable l n)) (read_leaves m c) ∙ reads_leave l n m (and_true_r (is_read c) (all_reads l) h))

-- those from place i on, one by one
pub reads_here : (l : List ℕ) (i : ℕ) → i < length l → all_reads (drop i l) ≡ (is_read (get_or l i 0) && all_reads (drop (suc i) l))
unfolding all_reads
reads_here l i h = rw (drop-cons l i 0 h)
