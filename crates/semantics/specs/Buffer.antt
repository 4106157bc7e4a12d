-- Laws of the buffer: its words after a data cycle, and its spare places. Assumes nothing.
use Rattle.std.specs.Prelude.{ℕ, zero, suc, ◌≤◌, ◌<◌, Bool, true, false, cond, List, [], ◌∷◌, ◌≡◌, refl, ltb, eqb, length, get_or, set, replicate}
use Rattle.std.proofs.Common.{sym, ap, ◌∙◌, arith, length-set, get_or-set_same, get_or-set_other, lt-ltb, le-ltb, eqb-true, ne_eqb}
use Rattle.std.proofs.lemmas.List.{length-replicate, get_or-replicate}
use Rattle.std.proofs.lemmas.Bool.{eqb-false}
use Rattle.semantics.specs.Tabulate.{tabulate, length_tabulate, get_d_tabulate, word_tabulate, tabulate_is}
use Rattle.semantics.specs.State.{empty_buffer}
use Rattle.semantics.specs.WellFormed.{zero_from}
use Rattle.semantics.specs.Writing.{first_loaded}

-- ---- the words of a load

-- the first n words of the buffer, as the recorder has them
unfoldable pub words_in : List ℕ → ℕ → List ℕ
words_in bs n = tabulate n (λ i. get_or bs i 0xFFFF)

pub words_length : (bs : List ℕ) (n : ℕ) → length (words_in bs n) ≡ n
unfolding words_in
words_length bs n = length_tabulate n (λ i. get_or bs i 0xFFFF)

pub words_word : (bs : List ℕ) (n i : ℕ) → i < n → get_or (words_in bs n) i 0xFFFF ≡ get_or bs i 0xFFFF
unfolding words_in
words_word bs n i h = word_tabulate n (λ i. get_or bs i 0xFFFF) i 0xFFFF h

-- a word of a list where another is put, by the place
put_word : (bs : List ℕ) (i j w d : ℕ) → i < length bs → get_or (set bs i w) j d ≡ cond (eqb j i) w (get_or bs j d)
put_word bs i j w d h = go (eqb j i) refl
  where
    go : (b : Bool) → eqb j i ≡ b → get_or (set bs i w) j d ≡ cond b w (get_or bs j d)
    go true e = ap (λ (k : ℕ). get_or (set bs i w) k d) (eqb-true j i e) ∙ get_or-set_same bs i w d h
    go false e = get_or-set_other bs i j w d (eqb-false j i e)

-- the first data cycle
pub words_first : (n w : ℕ) → 0 < n → n ≤ 32 → words_in (first_loaded n w) n ≡ set (replicate n 0xFFFF) 0 w
unfolding words_in first_loaded
words_first n w h k =
    sym (tabulate_is n (λ i. get_or (tabulate 32 (λ i. cond (eqb i 0) w (cond (ltb i n) 0xFFFF 0))) i 0xFFFF) (set (replicate n 0xFFFF) 0 w)
    (length-set (replicate n 0xFFFF) 0 w ∙ length-replicate n 0xFFFF)
    (λ i l. put_word (replicate n 0xFFFF) 0 i w 0 (omega (arith, length-replicate {A = ℕ} n 0xFFFF)) ∙ ap (λ (x : ℕ). cond (eqb i 0) w x) (get_or-replicate n i 0xFFFF 0 l ∙ sym (ap (λ (b : Bool). cond b 0xFFFF 0) (lt-ltb i n l)))
    ∙ sym (word_tabulate 32 (λ i. cond (eqb i 0) w (cond (ltb i n) 0xFFFF 0)) i 0xFFFF (omega arith))))

-- a later one
pub words_later : (bs : List ℕ) (n i w : ℕ) → length bs ≡ 32 → n ≤ 32 → i < n → words_in (set bs i w) n ≡ set (words_in bs n) i w
unfolding words_in
words_later bs n i w e k h =
    sym (tabulate_is n (λ j. get_or (set bs i w) j 0xFFFF) (set (tabulate n (λ j. get_or bs j 0xFFFF)) i w)
    (length-set (tabulate n (λ j. get_or bs j 0xFFFF)) i w ∙ length_tabulate n (λ j. get_or bs j 0xFFFF))
    (λ j l. put_word (tabulate n (λ j. get_or bs j 0xFFFF)) i j w 0 (omega (arith, length_tabulate n (λ j. get_or bs j 0xFFFF)))
    ∙ ap (λ (x : ℕ). cond (eqb j i) w x) (get_d_tabulate n (λ j. get_or bs j 0xFFFF) j l) ∙ sym (put_word bs i j w 0xFFFF (omega arith))))

-- ---- the spare places

zero_replicate : (n m : ℕ) → zero_from n (replicate m 0) ≡ true
unfolding zero_from
zero_replicate n zero = refl
zero_replicate zero (suc m) = zero_replicate zero m
zero_replicate (suc n) (suc m) = zero_replicate n m

pub zero_empty : (n : ℕ) → zero_from n empty_buffer ≡ true
unfolding empty_buffer
zero_empty n = zero_replicate n 32

-- a word that is put below them leaves them
pub zero_set : (n i w : ℕ) (bs : List ℕ) → i < n → zero_from n bs ≡ true → zero_from n (set bs i w) ≡ true
unfolding zero_from
zero_set n i w [] h z = z
zero_set zero i w (x ∷ bs) h z = absurd (omega arith)
zero_set (suc n) zero w (x ∷ bs) h z = z
zero_set (suc n) (suc i) w (x ∷ bs) h z = zero_set n i w bs (omega arith) z

-- words that are 0 from n on
zero_tabulate : (n m : ℕ) (f : ℕ → ℕ) → ((i : ℕ) → n ≤ i → f i ≡ 0) → zero_from n (tabulate m f) ≡ true
unfolding zero_from tabulate
zero_tabulate n zero f h = refl
zero_tabulate zero (suc m) f h = rw (h 0 (omega arith)) (zero_tabulate zero m (λ i. f (suc i)) (λ i k. h (suc i) (omega arith)))
zero_tabulate (suc n) (suc m) f h = zero_tabulate n m (λ i. f (suc i)) (λ i k. h (suc i) (omega arith))

pub zero_first : (n w : ℕ) → 0 < n → zero_from n (first_loaded n w) ≡ true
unfolding first_loaded
zero_first n w h = zero_tabulate n 32 (λ i. cond (eqb i 0) w (cond (ltb i n) 0xFFFF 0)) (λ i k. rw (ne_eqb i 0 (λ e. omega arith), le-ltb i n k))
