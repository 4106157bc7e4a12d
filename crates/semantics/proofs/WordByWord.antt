-- Cases played with the array told word by word: so many words, and a function for the word at each location. A list
-- of 16,384 words costs the checker what each step counts of it and what a read walks along it. It comes to the same
-- (`played`), so that FurtherCases states its tables of the whole steps, and computes them so.
-- Assumes nothing.
use Rattle.std.specs.Prelude.{ℕ, Bool, true, false, cond, ◌&&◌, List, [], ◌∷◌, ◌≡◌, T, eqb, ltb, length, get_or, replicate, Option, Some, None}
use Rattle.std.specs.Option.{option_map_or}
use Rattle.std.proofs.Math.Path.{refl, ap}
use Rattle.std.proofs.Common.{sym, ◌∙◌, subst, arith, ltb-true, ltb-false}
use Rattle.std.proofs.lemmas.List.{length-replicate, get_or-replicate}
use Rattle.std.proofs.Math.ListN.{get_or-eq_default}
use Rattle.refusal.specs.declared.Refusal.{Refusal}
use Rattle.geometry.specs.declared.Geometry.{Geometry}
use Rattle.geometry.specs.Blocks.{location}
use Rattle.semantics.specs.declared.Mode.{Mode}
use Rattle.semantics.specs.declared.Mode.TheVariants.{Array, Status, Signature, Query}
use Rattle.semantics.specs.declared.Running.{Running}
use Rattle.semantics.specs.declared.State.{State}
use Rattle.semantics.specs.declared.Place.{Place}
use Rattle.semantics.specs.declared.View.{View}
use Rattle.semantics.specs.declared.Step.{Step}
use Rattle.semantics.specs.declared.Step.TheVariants.{Read, Write, Work, Supply, Reset}
use Rattle.semantics.specs.declared.Answer.{Answer}
use Rattle.semantics.specs.declared.Answer.TheVariants.{Word, Refused}
use Rattle.semantics.specs.State.{geometry, mode_of, power_up}
use Rattle.semantics.specs.View.{place_of, view_at}
use Rattle.semantics.specs.Arrays.{array_length, array_word}
use Rattle.semantics.specs.Reading.{shown, shows_by, read_in, read_word}
use Rattle.semantics.specs.Working.{units_done, word_after, array_after, worked_array}
use Rattle.semantics.specs.Steps.{refusal_of, accepted, accepted_array, step_of, array_of}
use Rattle.semantics.specs.Cases.{Exchange, ◌⟶◌, words, Case, lies, plays, starts, reports, counted, unreported, code, plays_out, reported, holds, every}

-- ---- an array of n words that has f L at L

-- the word at L: 0 past the end, where a list reads so
abbrev word_at : ℕ → (ℕ → ℕ) → ℕ → ℕ
word_at n f L = cond (ltb L n) (f L) 0

record Told (n : ℕ) (f : ℕ → ℕ) (xs : List ℕ) : Type 0 where
  long : length xs ≡ n
  word : (L : ℕ) → get_or xs L 0 ≡ word_at n f L

-- a read shows the array in the mode that does, and else what it shows on no array
abbrev is_array : Mode → Bool
is_array Array = true
is_array Status = false
is_array Signature = false
is_array Query = false

abbrev mode_shown : State → ℕ → Mode
mode_shown s a = shown (geometry s) s.control.activity.running (place_of (geometry s) a).bank (mode_of s (place_of (geometry s) a).bank)

abbrev answer_told : ℕ → (ℕ → ℕ) → State → Step → Answer
answer_told n f s (Read a) = Word (cond (is_array (mode_shown s a)) (word_at n f (location (geometry s) a)) (read_word s [] a))
answer_told n f s (Write a w) = (accepted s [] (Write a w)).answer
answer_told n f s (Work m) = (accepted s [] (Work m)).answer
answer_told n f s (Supply on) = (accepted s [] (Supply on)).answer
answer_told n f s Reset = (accepted s [] Reset).answer

-- what follows, k, goes on with the words and the state after a step: only work touches a word
abbrev onward : ((ℕ → ℕ) → State → Bool) → (ℕ → ℕ) → State → Step → Bool
onward k f s (Read a) = k f s
onward k f s (Write a w) = k f (accepted s [] (Write a w)).state
onward k f s (Work m) =
    k (λ L. word_after (geometry s) s.buffer s.control.activity.running (units_done (geometry s) s.control.activity.running m) L (f L)) (accepted s [] (Work m)).state
onward k f s (Supply on) = k f (accepted s [] (Supply on)).state
onward k f s Reset = k f (accepted s [] Reset).state

-- each step answers so, and what the last one leaves passes a test
abbrev plays_told : ℕ → (ℕ → ℕ) → State → List Exchange → (State → Bool) → Bool
plays_told n f s [] t = t s
plays_told n f s ((x ⟶ a) ∷ l) t =
    option_map_or (λ e. eqb (code (Refused e)) (code a) && plays_told n f s l t) (refusal_of s n x)
    (eqb (code (answer_told n f s x)) (code a) && onward (λ g u. plays_told n g u l t) f s x)

abbrev holds_told : Case → Bool
holds_told (lies p a b k) = holds (lies p a b k)
holds_told (plays p (words n w) l) = plays_told n (λ L. w) (power_up p) l (λ s. true)
holds_told (starts s (words n w) l) = plays_told n (λ L. w) s l (λ s. true)
holds_told (reports p (words n w) l m b) = plays_told n (λ L. w) (power_up p) l (reported m b)
holds_told (counted s n b) = holds (counted s n b)
holds_told (unreported s r) = holds (unreported s r)

abbrev every_told : List Case → Bool
every_told [] = true
every_told (c ∷ l) = holds_told c && every_told l

-- ---- it comes to the same

told_replicate : (n w : ℕ) → Told n (λ L. w) (replicate n w)
told_replicate n w = record { long = length-replicate n w; word = λ L. go L (ltb L n) refl }
  where
    go : (L : ℕ) (b : Bool) → ltb L n ≡ b → get_or (replicate n w) L 0 ≡ cond b w 0
    go L true h = get_or-replicate n L w 0 (ltb-true L n h)
    go L false h = get_or-eq_default (replicate n w) 0 (omega (arith, ltb-false L n h, length-replicate n w))

shows_told : (g : Geometry) (v : View) (xs : List ℕ) (p : Place) (w : ℕ) → get_or xs p.location 0 ≡ w → (m : Mode)
    → shows_by g v xs p m ≡ cond (is_array m) w (shows_by g v [] p m)
unfolding shows_by
shows_told g v xs p w h Array = h
shows_told g v xs p w h Status = refl
shows_told g v xs p w h Signature = refl
shows_told g v xs p w h Query = refl

worked_told : (g : Geometry) (bs : List ℕ) (r : Running) (m n : ℕ) (f : ℕ → ℕ) (xs : List ℕ) → Told n f xs
    → Told n (λ L. word_after g bs r m L (f L)) (array_after g bs r m xs)
worked_told g bs r m n f xs t = record { long = array_length g bs r m xs ∙ t.long; word = λ L. go L (ltb L n) refl (t.word L) }
  where
    go : (L : ℕ) (b : Bool) → ltb L n ≡ b → get_or xs L 0 ≡ word_at n f L → get_or (array_after g bs r m xs) L 0 ≡ cond b (word_after g bs r m L (f L)) 0
    go L true h e = array_word g bs r m xs L (omega (arith, ltb-true L n h, t.long)) ∙ ap (λ (x : ℕ). word_after g bs r m L x) (rw h at e)
    go L false h e = get_or-eq_default (array_after g bs r m xs) 0 (omega (arith, ltb-false L n h, array_length g bs r m xs, t.long))

module _ (n : ℕ) (f : ℕ → ℕ) (xs : List ℕ) (w : Told n f xs) (s : State) where
  answer_told_lem : (x : Step) → (accepted s xs x).answer ≡ answer_told n f s x
  unfolding accepted read_word read_in
  answer_told_lem (Read a) = ap Word (shows_told (geometry s) (view_at s (place_of (geometry s) a)) xs (place_of (geometry s) a) _ (w.word (location (geometry s) a)) (mode_shown s a))
  answer_told_lem (Write a d) = refl
  answer_told_lem (Work m) = refl
  answer_told_lem (Supply on) = refl
  answer_told_lem Reset = refl

  onward_told : (l : List Exchange) (t : State → Bool) (k : (ℕ → ℕ) → State → Bool)
      → ((g : ℕ → ℕ) (ys : List ℕ) (u : State) → Told n g ys → plays_out (record { state = u; array = ys }) l t ≡ k g u)
      → (x : Step) → plays_out (record { state = (accepted s xs x).state; array = accepted_array s xs x }) l t ≡ onward k f s x
  unfolding accepted accepted_array worked_array
  onward_told l t k h (Read a) = h f xs s w
  onward_told l t k h (Write a d) = h f xs _ w
  onward_told l t k h (Work m) = h _ _ _ (worked_told _ _ _ _ n f xs w)
  onward_told l t k h (Supply on) = h f xs _ w
  onward_told l t k h Reset = h f xs _ w

plays_told_lem : (n : ℕ) (f : ℕ → ℕ) (xs : List ℕ) → Told n f xs → (s : State) (l : List Exchange) (t : State → Bool)
    → plays_out (record { state = s; array = xs }) l t ≡ plays_told n f s l t
unfolding step_of array_of
plays_told_lem n f xs w s [] t = refl
plays_told_lem n f xs w s ((x ⟶ a) ∷ l) t =
    go (refusal_of s n x) refl (onward_told n f xs w s l t (λ g u. plays_told n g u l t) (λ g ys u v. plays_told_lem n g ys v u l t) x) (plays_told_lem n f xs w s l t)
  where
    go : (o : Option Refusal) → refusal_of s n x ≡ o
        → plays_out (record { state = (accepted s xs x).state; array = accepted_array s xs x }) l t ≡ onward (λ g u. plays_told n g u l t) f s x
        → plays_out (record { state = s; array = xs }) l t ≡ plays_told n f s l t
        → plays_out (record { state = s; array = xs }) ((x ⟶ a) ∷ l) t
        ≡ option_map_or (λ e. eqb (code (Refused e)) (code a) && plays_told n f s l t) o (eqb (code (answer_told n f s x)) (code a) && onward (λ g u. plays_told n g u l t) f s x)
    go None h i j = let e : length xs ≡ n = w.long in rw (e, h, answer_told_lem n f xs w s x, i)
    go (Some d) h i j = let e : length xs ≡ n = w.long in rw (e, h, j)

holds_told_lem : (c : Case) → holds c ≡ holds_told c
holds_told_lem (lies p a b k) = refl
holds_told_lem (plays p (words n w) l) = plays_told_lem n _ _ (told_replicate n w) _ l _
holds_told_lem (starts s (words n w) l) = plays_told_lem n _ _ (told_replicate n w) _ l _
holds_told_lem (reports p (words n w) l m b) = plays_told_lem n _ _ (told_replicate n w) _ l _
holds_told_lem (counted s n b) = refl
holds_told_lem (unreported s r) = refl

every_told_lem : (l : List Case) → every l ≡ every_told l
every_told_lem [] = refl
every_told_lem (c ∷ l) = λ j. holds_told_lem c j && every_told_lem l j

pub played : (l : List Case) → T (every_told l) → T (every l)
played l h = subst (λ (b : Bool). T b) (sym (every_told_lem l)) h
