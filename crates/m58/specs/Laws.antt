-- Laws of the calls. Assumes nothing.
use Rattle.std.specs.Prelude.{ℕ, zero, suc, ◌≤◌, Bool, List, ◌≡◌, leb, length, Result, Ok, Err, IfOk, IfErr, MatchResult}
use Rattle.std.proofs.Math.Bool.{true, false, cond}
use Rattle.std.proofs.Math.Path.{refl, sym, ap}
use Rattle.std.proofs.Common.{⊎_elim, ◌∙◌, subst, arith, eq-eqb}
use borrow.Author.Tests.{le-leb, lt-leb, lt-ltb, le-ltb}
use Rattle.refusal.specs.declared.Refusal.{Refusal}
use Rattle.refusal.specs.declared.Refusal.TheVariants.{Malformed, NoPart}
use Rattle.refusal.specs.Numbers.{number}
use Rattle.geometry.specs.declared.Part.{Part}
use Rattle.geometry.specs.Blocks.{part_numbered, part_named}
use Rattle.geometry.specs.Laws.{order}
use Rattle.protection.specs.declared.Report.{Report}
use Rattle.protection.specs.Words.{bit, bit_at, count, unprotected_count, report_of}
use Rattle.protection.specs.Laws.{lowest_least}
use Rattle.semantics.specs.declared.State.{State}
use Rattle.semantics.specs.State.{power_up}
use Rattle.wear.specs.declared.Worn.{Worn}
use Rattle.wear.specs.Counts.{Counts, count_of, no_counts, most_worn}
use Rattle.semantics.proofs.Engine.{and_true_r}
use Rattle.wear.specs.Steps.{Counted, formed_with, reported_with, most_worn_with}
use Rattle.device.specs.Outcomes.{holding}
use Rattle.playback.specs.declared.RunEnd.{RunEnd}
use Rattle.playback.specs.Playback.{machine_of, Played}
use Rattle.playback.specs.Reads.{few_reads, reads_leave}
use Rattle.saved.specs.Saved.{saved_of, is_saved, state_of, put_into}
use Rattle.saved.specs.Laws.{Fitting, saved_length, saved_is, state_back, saved_back, power_up_fitting}
use Rattle.m58.specs.Calls.{powers_up, powered_up, unworn, state_after, Ran}

-- ---- a part by its number

abbrev Named : ℕ → Result Part Refusal → Type 0
Named n r = MatchResult r (λ p. (leb n 3 ≡ true) × (part_numbered n ≡ p)) (λ e. (leb n 3 ≡ false) × (e ≡ NoPart))

named : (n : ℕ) → Named n (part_named n)
named n = ⊎_elim (λ i. rw (lt-ltb 3 n i) (lt-leb n 3 i, refl)) (λ i. rw (le-ltb 3 n i) (le-leb n 3 i, refl)) (order 3 n)

module _ (n : ℕ) {r : Result Part Refusal} (gives : r ≡ part_named n) where
  -- a number that names a part is at most 3
  pub part_ok : {p : Part} → r ≡ Ok p → (leb n 3 ≡ true) × (part_numbered n ≡ p)
  part_ok e = subst (Named n) (sym gives ∙ e) (named n)

  -- another is refused 7
  pub part_err : {e : Refusal} → r ≡ Err e → (leb n 3 ≡ false) × (e ≡ NoPart)
  part_err e = subst (Named n) (sym gives ∙ e) (named n)

-- ---- power-up

-- the words that power-up writes are a saved state, of power-up, and its counts are 0
pub powered_up_lem : (part : ℕ) (room : List ℕ) (k : Counts) → powers_up part room ≡ true → (is_saved (powered_up part room) ≡ true) × (state_of (powered_up part room) ≡ power_up (part_numbered part)) × (unworn part room k ≡ no_counts)
unfolding powered_up unworn
powered_up_lem part room k h = let f = power_up_fitting (part_numbered part) in (rw h (saved_is _ f), rw h (state_back _ f), rw h)

-- ---- the report's numbers are small

count_le : (n : ℕ) (f : ℕ → ℕ) → ((i : ℕ) → f i ≤ 1) → count n f ≤ n
unfolding count
count_le zero f h = omega arith
count_le (suc n) f h = omega (arith, h 0, count_le n (λ i. f (suc i)) (λ i. h (suc i)))

pub record Small (r : Report) : Type 0 where
  pub count : r.count ≤ 259
  pub lowest : r.lowest ≤ 259

report_bits : (ws : List ℕ) (b : ℕ) → bit_at ws b ≤ 1
unfolding bit_at bit
report_bits ws b = omega arith

pub report_small : (s : State) (k : Counts) {r : Result Report Refusal} → r ≡ reported_with s k → IfOk r Small
unfolding reported_with report_of unprotected_count
report_small s k e = subst (λ (r : Result Report Refusal). IfOk r Small) (sym e) (go (formed_with s k))
  where
    go : (t : Bool) → IfOk (cond {A = Result Report Refusal} t (Ok (report_of s.unprotected)) (Err Malformed)) Small
    go true = record { count = count_le 259 (bit_at s.unprotected) (report_bits s.unprotected); lowest = (lowest_least s.unprotected).within }
    go false = tt

-- and the refusal of the most worn block is
pub worn_small : (s : State) (k : Counts) {r : Result Worn Refusal} → r ≡ most_worn_with s k → IfErr r (λ e. number e ≤ 2)
unfolding most_worn_with
worn_small s k e = subst (λ (r : Result Worn Refusal). IfErr r (λ e. number e ≤ 2)) (sym e) (go (formed_with s k))
  where
    go : (t : Bool) → IfErr (cond {A = Result Worn Refusal} t (Ok (record { block = most_worn k; count = count_of k (most_worn k) })) (Err Malformed)) (λ e. number e ≤ 2)
    go true = tt
    go false = omega arith

-- ---- a run

module _ (ws : List ℕ) {k : Counts} {codes room xs : List ℕ} {s : State} {r : RunEnd} {counts : Counts} {answers array : List ℕ} (same : s ≡ state_of ws) (p : Played (holding s) k codes room xs r counts answers array) where
  on_words : Played (holding (state_of ws)) k codes room xs r counts answers array
  on_words = subst (λ (t : State). Played (holding t) k codes room xs r counts answers array) same p

  state_is : r.device.state ≡ state_after ws k codes room xs
  unfolding state_after
  state_is = on_words.device

  played_as : Played (holding (state_of ws)) k codes room xs (record { played = r.played; device = holding (state_after ws k codes room xs) }) counts answers array
  unfolding state_after
  played_as = record {
    count = on_words.count;
    device = refl;
    array_is = on_words.array_is;
    counts_are = on_words.counts_are;
    answers_are = on_words.answers_are;
    journal = on_words.journal;
    wear = on_words.wear;
  }

  -- a few reads were played, which leave the words: they are those of the state after them, or were no saved state
  pub ran_reads : few_reads codes ≡ true → Ran ws k codes room xs r.played ws counts answers array
  unfolding few_reads state_after
  ran_reads h =
      let still : state_after ws k codes room xs ≡ state_of ws =
      ap (λ (y : Counted). y.machine.state) (reads_leave codes (length room) (machine_of (holding (state_of ws)) k xs) (and_true_r (leb (length codes) 8) _ h))
      in
      record { played = played_as; kept = go (is_saved ws) refl still; goes_on = λ q. (q, sym still) }
    where
      go : (b : Bool) → is_saved ws ≡ b → state_after ws k codes room xs ≡ state_of ws → ws ≡ cond b (saved_of (state_after ws k codes room xs)) ws
      go true e still = sym (ap saved_of still ∙ saved_back ws e)
      go false e still = refl

  -- the words were no saved state
  pub ran_unsaved : is_saved ws ≡ false → Ran ws k codes room xs r.played ws counts answers array
  ran_unsaved h = record { played = played_as; kept = rw h; goes_on = λ e. let z : ◌≡◌ {A = ℕ} 0 1 = cc in absurd (omega arith) }

  -- they were one, and the state after the run is saved in their place
  pub ran_saved : {after : List ℕ} → is_saved ws ≡ true → Fitting r.device.state → after ≡ put_into ws (saved_of r.device.state) → Ran ws k codes room xs r.played after counts answers array
  unfolding put_into
  ran_saved {after} h f e =
      let e' : after ≡ saved_of r.device.state = e ∙ rw (eq-eqb (length ws) 25 (saved_length ws h)) in
      record {
        played = played_as;
        kept = rw h (e' ∙ ap saved_of state_is);
        goes_on = λ q. (ap is_saved e' ∙ saved_is r.device.state f, ap state_of e' ∙ state_back r.device.state f ∙ state_is);
      }
