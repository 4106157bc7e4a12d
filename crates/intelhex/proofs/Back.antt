-- The theorem of the Intel HEX files: reading back what was written gives the same words, for every part and every array, onto any array of the part's length.
-- Assumes nothing.
use Prim.Native.Nat.{ℕ, zero, suc, ◌+◌, ◌-◌, ◌*◌, ◌/◌, ◌%◌, ◌<◌, ◌≤◌}
use Rattle.std.specs.Prelude.{Bool, true, false, cond, ◌≡◌, eqb, length, get_or, take, drop, Ok, IsOk}
use mathlib.Core.List.{List, [], ◌++◌}
use Rattle.std.proofs.Math.Path.{refl}
use Rattle.std.proofs.Common.{sym, ◌∙◌, zero-add, arith, length-drop, take-add, take_all, length-take-le, eq-eqb}
use Rattle.std.proofs.Math.Nat.{div-div-eq-div-mul}
use Rattle.std.proofs.lemmas.Bool.{eqb-false}
use Rattle.geometry.specs.declared.Part.{Part}
use Rattle.geometry.specs.declared.Part.TheVariants.{FullBottom, FullTop, BenchBottom, BenchTop}
use Rattle.geometry.specs.Blocks.{geometry_of, words}
use Rattle.semantics.specs.Tabulate.{tabulate_is}
use Rattle.intelhex.specs.Records.{named_from, byte_after, word_after, words_after, size, verdict, array_read}
use Rattle.intelhex.specs.Text.{data_record, upper_record, bytes_of, span, sixteen_at, sixteens, text_of, written, room_after}
use Rattle.intelhex.specs.Sizes.{length_bytes_of, every_span, begun, begun_next}
use Rattle.intelhex.proofs.Laws.{written_good, room_text}
use Rattle.intelhex.specs.Bytes.{Small}
use Rattle.intelhex.proofs.Bytes.{small_take, small_drop, word_back, small_bytes_of, named_from_append, byte_from}
use Rattle.intelhex.specs.Recorded.{Read, Whole}
use Rattle.intelhex.proofs.Recorded.{read_none, read_then, read_data, read_upper, read_whole}
use Rattle.intelhex.specs.Back.{text_lines}

-- ---- the sixteens

-- the upper half of the last byte's address in the first k sixteens
abbrev upper_of : ℕ → ℕ
upper_of k = (16 * k - 1) / 65536

-- it is that of the next byte too where no span begins there
upper_same : (part : Part) (k : ℕ) → (16 * k % span part ≡ 0 → ⊥) → upper_of k ≡ 16 * k / 65536
upper_same part k =
    every_span (λ (s : ℕ). (16 * k % s ≡ 0 → ⊥) → upper_of k ≡ 16 * k / 65536)
    (λ h. omega arith)
    (λ h.
    let e : (16 * k - 1) / 32768 ≡ 16 * k / 32768 = omega arith in
    omega (arith, div-div-eq-div-mul (16 * k - 1) 32768 2, div-div-eq-div-mul (16 * k) 32768 2))
    part

-- bytes that stand in an array of n, all of which 32 bits of address reach
module _ (part : Part) (bs : List ℕ) (small : Small bs) (n : ℕ) (inside : length bs ≤ n) (limit : n ≤ 65536 * 65536) where
  -- one sixteen that is whole: a span begins there, or the last 04 record gave the upper half of its address
  read_sixteen : (k upper : ℕ) → 16 * k + 16 ≤ length bs → ((16 * k % span part ≡ 0 → ⊥) → upper ≡ 16 * k / 65536)
      → Read n upper (sixteen_at (span part) bs (16 * k)) (cond (eqb (16 * k % span part) 0) 1 0 + 1)
      (named_from (16 * k) (take 16 (drop (16 * k) bs))) (16 * k / 65536)
  unfolding sixteen_at
  read_sixteen k upper h same = go (eqb (16 * k % span part) 0) refl
    where
      a : ℕ
      a = 16 * k

      d : List ℕ
      d = take 16 (drop a bs)

      long : length d ≡ 16
      long = length-take-le 16 (drop a bs) (omega (arith, length-drop a bs))

      address : a / 65536 * 65536 + a % 65536 ≡ a
      address = omega arith

      data_read : Read n (a / 65536) (data_record (a % 65536) d) 1 (named_from a d) (a / 65536)
      data_read =
          rw address at
          (read_data n (a / 65536) (a % 65536) d (small_take 16 (drop a bs) (small_drop a bs small))
          (omega (arith, long)) (omega arith) (omega (arith, long)) (omega (arith, long)))

      go : (t : Bool) → eqb (a % span part) 0 ≡ t
          → Read n upper (cond t (upper_record (a / 65536)) [] ++ data_record (a % 65536) d) (cond t 1 0 + 1) (named_from a d) (a / 65536)
      go true e = read_then (read_upper n upper (a / 65536) (omega arith)) data_read
      go false e = rw (same (eqb-false (a % span part) 0 e)) data_read

  -- the first k of them
  read_sixteens : (k : ℕ) → 16 * k ≤ length bs → Read n 0 (sixteens (span part) bs k) (k + begun (span part) k) (named_from 0 (take (16 * k) bs)) (upper_of k)
  unfolding sixteens named_from
  read_sixteens zero h = every_span (λ (s : ℕ). Read n 0 [] (0 + begun s 0) [] 0) (read_none n 0) (read_none n 0) part
  read_sixteens (suc k) h = rw (records, names, upper) (read_then (read_sixteens k (omega arith)) (read_sixteen k (upper_of k) (omega arith) (upper_same part k)))
    where
      records : suc k + begun (span part) (suc k) ≡ k + begun (span part) k + (cond (eqb (16 * k % span part) 0) 1 0 + 1)
      records = omega (arith, begun_next part k)

      names : named_from 0 (take (16 * suc k) bs) ≡ named_from 0 (take (16 * k) bs) ++ named_from (16 * k) (take 16 (drop (16 * k) bs))
      names =
          let e : 16 * suc k ≡ 16 * k + 16 = omega arith in
          let l : 0 + length (take (16 * k) bs) ≡ 16 * k = omega (arith, length-take-le (16 * k) bs (omega arith)) in
          rw (e, take-add (16 * k) 16 bs, named_from_append 0 (take (16 * k) bs) (take 16 (drop (16 * k) bs)), l)

      upper : upper_of (suc k) ≡ 16 * k / 65536
      upper = omega arith

-- ---- the text

-- an array is whole sixteens, 32 bits of address reach all of it, and its sixteens, the spans that begin and the end record have a line each
numbers : (part : Part) → let n : ℕ = words (geometry_of part) in
    (8 * (n / 8) ≡ n) × (2 * n ≤ 65536 * 65536) × (n / 8 + begun (span part) (n / 8) + 1 ≡ text_lines part)
numbers FullBottom = (refl, omega arith, refl)
numbers FullTop = (refl, omega arith, refl)
numbers BenchBottom = (refl, omega arith, refl)
numbers BenchTop = (refl, omega arith, refl)

-- it names every byte of the array
text_whole : (part : Part) (ws : List ℕ) (n : ℕ) → length ws ≡ words (geometry_of part) → n ≡ 2 * words (geometry_of part) → ((i : ℕ) → get_or ws i 0 < 65536)
    → Whole n (text_of part ws) (text_lines part) (named_from 0 (bytes_of ws))
unfolding text_of
text_whole part ws n long e small = rw (lines, all) at (read_whole sixteens_read)
  where
    size : length (bytes_of ws) ≡ 2 * length ws
    size = length_bytes_of ws

    k : ℕ
    k = length ws / 8

    sixteens_read : Read n 0 (sixteens (span part) (bytes_of ws) k) (k + begun (span part) k) (named_from 0 (take (16 * k) (bytes_of ws))) (upper_of k)
    sixteens_read = read_sixteens part (bytes_of ws) (small_bytes_of ws small) n (omega (arith, size)) (omega (arith, (numbers part).1)) k (omega (arith, size))

    all : take (16 * k) (bytes_of ws) ≡ bytes_of ws
    all = take_all (16 * k) (bytes_of ws) (rw long (omega (arith, size, (numbers part).0)))

    lines : k + begun (span part) k + 1 ≡ text_lines part
    lines = rw long (numbers part).2

-- the words that its bytes make are the array's
words_back : (ws before : List ℕ) → length ws ≡ length before → words_after (named_from 0 (bytes_of ws)) before ≡ ws
unfolding words_after
words_back ws before e = sym (tabulate_is (length before) (word_after (named_from 0 (bytes_of ws)) before) ws e each)
  where
    byte : (i old : ℕ) → i < 2 * length ws → byte_after (named_from 0 (bytes_of ws)) i old ≡ get_or (bytes_of ws) i 0
    byte i old h = rw zero-add at (byte_from 0 (bytes_of ws) i old (omega (arith, length_bytes_of ws)))

    each : (i : ℕ) → i < length before → get_or ws i 0 ≡ word_after (named_from 0 (bytes_of ws)) before i
    each i h = rw (byte (2 * i) (get_or before i 0 % 256) (omega arith), byte (2 * i + 1) (get_or before i 0 / 256) (omega arith)) (sym (word_back ws i))

-- ---- the theorem

-- the verdict on what was written: it is accepted, and the last line, the end record's, decided
pub written_accepted : (part : Part) (ws before : List ℕ) → length ws ≡ words (geometry_of part) → length before ≡ words (geometry_of part)
    → ((i : ℕ) → get_or ws i 0 < 65536) → verdict part (text_of part ws) before ≡ Ok (text_lines part)
unfolding verdict
written_accepted part ws before long fits small =
    let whole : Whole (size before) (text_of part ws) (text_lines part) (named_from 0 (bytes_of ws)) = text_whole part ws (size before) long (omega arith) small in
    rw (eq-eqb (length before) (words (geometry_of part)) fits, whole.refusal, whole.line)

-- "such that reading it back gives the same words"
pub written_read_back : (part : Part) (ws before : List ℕ) → length ws ≡ words (geometry_of part) → length before ≡ words (geometry_of part)
    → ((i : ℕ) → get_or ws i 0 < 65536) → IsOk (verdict part (text_of part ws) before) × (array_read part (text_of part ws) before ≡ ws)
unfolding array_read
written_read_back part ws before long fits small =
    let good : IsOk (verdict part (text_of part ws) before) = rw (written_accepted part ws before long fits small) in
    (good, rw (good, (text_whole part ws (size before) long (omega arith) small).names) (words_back ws before (long ∙ sym fits)))

-- the same of what a writing leaves in a lent room, up to the length that it gives
pub room_read_back : (part : Part) (ws before room : List ℕ) (size : ℕ) → written part ws room ≡ Ok size → length before ≡ words (geometry_of part)
    → ((i : ℕ) → get_or ws i 0 < 65536) → let text : List ℕ = take size (room_after part ws room) in
    IsOk (verdict part text before) × (array_read part text before ≡ ws)
room_read_back part ws before room size good fits small =
    rw (room_text part ws room size good) (written_read_back part ws before (written_good part ws room size good).0 fits small)
