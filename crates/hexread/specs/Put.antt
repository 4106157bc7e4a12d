-- A byte put into an array of words: the first of the bytes that a text names may be put before the others.
-- Assumes nothing.
use Rattle.std.specs.Prelude.{◌≡◌, ℕ, ◌+◌, ◌*◌, ◌/◌, ◌%◌, ◌<◌, Bool, true, false, cond, List, [], ◌∷◌, length, ◌==◌, ◌≢◌, slice_index, slice_set, refl}
use Rattle.std.proofs.Common.{sym, ◌∙◌, arith, length-set, get_or-set_same, get_or-set_other, eq-eqb, ne_eqb, eqb-true}
use Rattle.std.proofs.Math.Decide.{dec_lt}
use Rattle.std.proofs.lemmas.Bool.{eqb-false}
use Rattle.semantics.specs.Tabulate.{tabulate, length_tabulate, get_d_tabulate, tabulate_is}
use Rattle.intelhex.specs.Records.{Named, byte_after, word_after, words_after}

-- a word with the byte at an address put into it, as its low half or its high half
abbrev pub with_byte : ℕ → ℕ → ℕ → ℕ
with_byte w a v = cond (a % 2 == 0) (w / 256 * 256 + v) (v * 256 + w % 256)

odd : {a : ℕ} → (a % 2 ≢ 0) → a ≡ 2 * (a / 2) + 1
odd {a} n = go (dec_lt (a % 2) 1)
  where
    go : Dec (a % 2 < 1) → a ≡ 2 * (a / 2) + 1
    go (yes h) = absurd (n (omega arith))
    go (no h) = omega arith

module _ (l : List Named) (ws : List ℕ) where
  -- what is put at a word of the array, by the halves of every word before and after
  put_is : (x : Named) (after : List ℕ) → length after ≡ length ws
      → ((i : ℕ) → i < length ws
      → (cond (x.address == 2 * i) x.value (slice_index ws i % 256) ≡ slice_index after i % 256)
      × (cond (x.address == 2 * i + 1) x.value (slice_index ws i / 256) ≡ slice_index after i / 256))
      → words_after (x ∷ l) ws ≡ words_after l after
  unfolding words_after byte_after
  put_is x after e halves =
      rw e (tabulate_is (length ws) (word_after l after) (tabulate (length ws) (word_after (x ∷ l) ws)) (length_tabulate (length ws) (word_after (x ∷ l) ws))
      (λ i h. get_d_tabulate (length ws) (word_after (x ∷ l) ws) i h ∙ rw ((halves i h).0, (halves i h).1)))

  -- a byte whose word is replaced by `new`, which has the byte as one half and keeps the other
  put_at_lem : (a v new : ℕ) → a / 2 < length ws
      → (cond (a == 2 * (a / 2)) v (slice_index ws (a / 2) % 256) ≡ new % 256) × (cond (a == 2 * (a / 2) + 1) v (slice_index ws (a / 2) / 256) ≡ new / 256)
      → words_after (record { address = a; value = v } ∷ l) ws ≡ words_after l (slice_set ws (a / 2) new)
  put_at_lem a v new h here = put_is (record { address = a; value = v }) (slice_set ws (a / 2) new) (length-set ws (a / 2) new) (λ i k. go i (i == a / 2) refl)
    where
      go : (i : ℕ) (t : Bool) → (i == a / 2) ≡ t
          → (cond (a == 2 * i) v (slice_index ws i % 256) ≡ slice_index (slice_set ws (a / 2) new) i % 256) × (cond (a == 2 * i + 1) v (slice_index ws i / 256) ≡ slice_index (slice_set ws (a / 2) new) i / 256)
      go i true e = rw (eqb-true i (a / 2) e, get_or-set_same ws (a / 2) new 0 h) here
      go i false e =
          let n : (i ≢ a / 2) = eqb-false i (a / 2) e in
          rw (ne_eqb a (2 * i) (λ q. n (omega arith)), ne_eqb a (2 * i + 1) (λ q. n (omega arith)), get_or-set_other ws (a / 2) i new 0 n) (refl, refl)

  pub put_byte : (a v : ℕ) → a / 2 < length ws → v < 256 → words_after (record { address = a; value = v } ∷ l) ws ≡ words_after l (slice_set ws (a / 2) (with_byte (slice_index ws (a / 2)) a v))
  put_byte a v h b = put_at_lem a v (with_byte (slice_index ws (a / 2)) a v) h (go (a % 2 == 0) refl)
    where
      w : ℕ
      w = slice_index ws (a / 2)

      go : (t : Bool) → (a % 2 == 0) ≡ t
          → (cond (a == 2 * (a / 2)) v (w % 256) ≡ cond t (w / 256 * 256 + v) (v * 256 + w % 256) % 256)
          × (cond (a == 2 * (a / 2) + 1) v (w / 256) ≡ cond t (w / 256 * 256 + v) (v * 256 + w % 256) / 256)
      go true e =
          let z : a % 2 ≡ 0 = eqb-true (a % 2) 0 e in
          (rw (eq-eqb a (2 * (a / 2)) (omega arith)) (omega arith), rw (ne_eqb a (2 * (a / 2) + 1) (λ q. omega arith)) (omega arith))
      go false e =
          let z : (a % 2 ≢ 0) = eqb-false (a % 2) 0 e in
          (rw (ne_eqb a (2 * (a / 2)) (λ q. z (omega arith))) (omega arith), rw (eq-eqb a (2 * (a / 2) + 1) (odd z)) (omega arith))

-- where no byte is named, the words stay
pub put_none : (ws : List ℕ) → words_after [] ws ≡ ws
unfolding words_after byte_after
put_none ws = sym (tabulate_is (length ws) (word_after [] ws) ws refl (λ i h. omega arith))
