-- A reading, by the array's length and by what the text was judged as. Assumes nothing.
use Rattle.std.specs.Prelude.{◌≡◌, ℕ, ◌*◌, List, length, ◌≢◌, refl, Option, Some, None, Result, Ok, Err}
use Rattle.std.proofs.Common.{sym, ◌∙◌}
use borrow.Author.Tests.{eq-eqb, ne_eqb}
use Rattle.refusal.specs.declared.Refusal.{Refusal}
use Rattle.refusal.specs.declared.Refusal.TheVariants.{ArrayLength}
use Rattle.geometry.specs.declared.Part.{Part}
use Rattle.geometry.specs.Blocks.{geometry_of, words}
use Rattle.intelhex.specs.declared.BadRecord.{BadRecord}
use Rattle.intelhex.specs.Records.{record_lines, refusal_from, lines_from, named, words_after, size, with_line, verdict, array_read}
use Rattle.hexread.specs.Bytes.{judged}

module _ (part : Part) (text ws : List ℕ) where
  pub other_length : (length ws ≢ words (geometry_of part))
      → (Err (record { refusal = ArrayLength; line = 0 }) ≡ verdict part text ws) × (ws ≡ array_read part text ws)
  unfolding verdict array_read
  other_length h = rw (ne_eqb (length ws) (words (geometry_of part)) h) (refl, refl)

  module _ (long : length ws ≡ words (geometry_of part)) (n : ℕ) (v : Result ℕ BadRecord) (whole : n ≡ words (geometry_of part)) (found : v ≡ judged (2 * n) text) where
    is_verdict : v ≡ verdict part text ws
    unfolding verdict
    is_verdict = rw (eq-eqb (length ws) (words (geometry_of part)) long) (found ∙ rw (whole, long))

    -- what an accepted text was judged as
    pub accepted : {k : ℕ} → v ≡ Ok k → refusal_from (size ws) 0 (record_lines text) ≡ None
    accepted {k} z = go (refusal_from (size ws) 0 (record_lines text)) (lines_from (size ws) 0 (record_lines text)) (sym z ∙ found ∙ rw (whole, long))
      where
        go : (o : Option Refusal) (line : ℕ) → Ok k ≡ with_line o line → o ≡ None
        go None line e = refl
        go (Some r) line e = cc

    pub read_whole : (after : List ℕ) {k : ℕ} → v ≡ Ok k → after ≡ words_after (named 0 (record_lines text)) ws → (Ok k ≡ verdict part text ws) × (after ≡ array_read part text ws)
    unfolding array_read
    read_whole after z e = (sym z ∙ is_verdict, rw (← is_verdict, z) e)

    pub read_refused : {bad : BadRecord} → v ≡ Err bad → (Err bad ≡ verdict part text ws) × (ws ≡ array_read part text ws)
    unfolding array_read
    read_refused z = (sym z ∙ is_verdict, rw (← is_verdict, z))
