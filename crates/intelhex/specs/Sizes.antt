-- How long written texts are: a record, the sixteens, and the text of each part.
-- Assumes nothing.
use Rattle.std.specs.Prelude.{ℕ, zero, suc, ◌+◌, ◌-◌, ◌*◌, ◌/◌, ◌%◌, ◌≤◌, Bool, true, false, cond, List, [], ◌∷◌, ◌++◌, ◌≡◌, refl, eqb, length, take, drop}
use Rattle.std.proofs.Common.{◌∙◌, arith, length-append, length-drop, length-take-le, eqb-true}
use Rattle.std.proofs.Math.Decide.{dec_lt}
use Rattle.std.proofs.lemmas.Bool.{eqb-false}
use Rattle.geometry.specs.declared.Part.{Part}
use Rattle.geometry.specs.declared.Part.TheVariants.{FullBottom, FullTop, BenchBottom, BenchTop}
use Rattle.geometry.specs.Blocks.{geometry_of, words}
use Rattle.intelhex.specs.Text.{digits_of, check_of, record_text, data_record, upper_record, end_record, bytes_of, span, sixteen_at, sixteens, text_of}

-- ---- bytes and records

pub length_digits_of : (bs : List ℕ) → length (digits_of bs) ≡ 2 * length bs
unfolding digits_of
length_digits_of [] = refl
length_digits_of (b ∷ t) = omega (arith, length_digits_of t)

pub length_record_text : (bs : List ℕ) → length (record_text bs) ≡ 2 * length bs + 4
unfolding record_text
length_record_text bs =
    omega
    (arith, length-append (digits_of (bs ++ (check_of bs ∷ []))) (10 ∷ []), length_digits_of (bs ++ (check_of bs ∷ [])), length-append bs (check_of bs ∷ []))

pub length_bytes_of : (ws : List ℕ) → length (bytes_of ws) ≡ 2 * length ws
unfolding bytes_of
length_bytes_of [] = refl
length_bytes_of (w ∷ ws) = omega (arith, length_bytes_of ws)

-- ---- the sixteens

-- what holds of both spans holds of every part's
pub every_span : (P : ℕ → Type 0) → P 65536 → P 32768 → (part : Part) → P (span part)
every_span P full bench FullBottom = full
every_span P full bench FullTop = full
every_span P full bench BenchBottom = bench
every_span P full bench BenchTop = bench

-- how many spans begin in the first k sixteens: so many 04 records stand there
abbrev pub begun : ℕ → ℕ → ℕ
begun s k = (16 * k + (s - 16)) / s

-- one begins where the address is a multiple of the span
pub begun_next : (part : Part) (k : ℕ) → begun (span part) (suc k) ≡ cond (eqb (16 * k % span part) 0) 1 0 + begun (span part) k
begun_next part k = go (eqb (16 * k % span part) 0) refl
  where
    go : (t : Bool) → eqb (16 * k % span part) 0 ≡ t → begun (span part) (suc k) ≡ cond t 1 0 + begun (span part) k
    go true e =
        every_span (λ (s : ℕ). 16 * k % s ≡ 0 → begun s (suc k) ≡ 1 + begun s k)
        (λ h. let q : begun 65536 k ≡ 16 * k / 65536 = omega arith in omega arith)
        (λ h. let q : begun 32768 k ≡ 16 * k / 32768 = omega arith in omega arith) part
        (eqb-true (16 * k % span part) 0 e)
    go false e =
        every_span (λ (s : ℕ). (16 * k % s ≡ 0 → ⊥) → begun s (suc k) ≡ 0 + begun s k) (λ h. omega arith) (λ h. omega arith) part
        (eqb-false (16 * k % span part) 0 e)

-- a sixteen that is whole has 44 bytes, and 16 more where a span begins
pub length_sixteen_at : (s : ℕ) (bs : List ℕ) (a : ℕ) → a + 16 ≤ length bs → length (sixteen_at s bs a) ≡ 16 * cond (eqb (a % s) 0) 1 0 + 44
unfolding sixteen_at
length_sixteen_at s bs a h = go (eqb (a % s) 0)
  where
    d : List ℕ
    d = take 16 (drop a bs)

    data_long : length (data_record (a % 65536) d) ≡ 44
    data_long =
        omega
        (arith, length_record_text (length d ∷ a % 65536 / 256 ∷ a % 65536 % 256 ∷ 0 ∷ d), length-take-le 16 (drop a bs) (omega (arith, length-drop a bs)))

    go : (t : Bool) → length (cond t (upper_record (a / 65536)) [] ++ data_record (a % 65536) d) ≡ 16 * cond t 1 0 + 44
    go true =
        omega (
          arith,
          data_long,
          length-append (upper_record (a / 65536)) (data_record (a % 65536) d),
          length_record_text (2 ∷ 0 ∷ 0 ∷ 4 ∷ a / 65536 / 256 ∷ a / 65536 % 256 ∷ []),
        )
    go false = data_long

-- the first k sixteens of at least so many bytes
pub length_sixteens : (part : Part) (bs : List ℕ) (k : ℕ) → 16 * k ≤ length bs → length (sixteens (span part) bs k) ≡ 44 * k + 16 * begun (span part) k
unfolding sixteens
length_sixteens part bs zero h = every_span (λ (s : ℕ). 0 ≡ 44 * 0 + 16 * begun s 0) refl refl part
length_sixteens part bs (suc k) h =
    omega (
      arith,
      length-append (sixteens (span part) bs k) (sixteen_at (span part) bs (16 * k)),
      length_sixteens part bs k (omega arith),
      length_sixteen_at (span part) bs (16 * k) (omega arith),
      begun_next part k,
    )

-- more sixteens are a longer text
pub sixteens_mono : (s : ℕ) (bs : List ℕ) (k m : ℕ) → k ≤ m → length (sixteens s bs k) ≤ length (sixteens s bs m)
unfolding sixteens
sixteens_mono s bs k zero h = let e : k ≡ 0 = omega arith in rw e (omega arith)
sixteens_mono s bs k (suc m) h = go (dec_lt m k) (sixteens_mono s bs k m)
  where
    go : Dec (suc m ≤ k) → (k ≤ m → length (sixteens s bs k) ≤ length (sixteens s bs m)) → length (sixteens s bs k) ≤ length (sixteens s bs (suc m))
    go (yes p) rest = let e : k ≡ suc m = omega arith in rw e (omega arith)
    go (no p) rest = omega (arith, rest (omega arith), length-append (sixteens s bs m) (sixteen_at s bs (16 * m)))

-- ---- the text of a part

abbrev pub text_length : Part → ℕ
text_length FullBottom = 92282892
text_length FullTop = 92282892
text_length BenchBottom = 90140
text_length BenchTop = 90140

pub length_end_record : length end_record ≡ 12
length_end_record = length_record_text (0 ∷ 0 ∷ 0 ∷ 1 ∷ [])

-- the sixteens of n words, with the end record
counted : (part : Part) → 44 * (words (geometry_of part) / 8) + 16 * begun (span part) (words (geometry_of part) / 8) + 12 ≡ text_length part
counted FullBottom = refl
counted FullTop = refl
counted BenchBottom = refl
counted BenchTop = refl

pub length_text_of : (part : Part) (ws : List ℕ) → length ws ≡ words (geometry_of part) → length (text_of part ws) ≡ text_length part
unfolding text_of
length_text_of part ws e =
    length-append (sixteens (span part) (bytes_of ws) (length ws / 8)) end_record
    ∙ rw
    (length_sixteens part (bytes_of ws) (length ws / 8) (omega (arith, length_bytes_of ws)), length_end_record, e)
    (counted part)
