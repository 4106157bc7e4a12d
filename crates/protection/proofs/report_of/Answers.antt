-- `protection::report_of` meets its contract: the ones of the words are the count, and the first word that is not zero has the least digit.
use Prim.Native.Nat.{ℕ, ◌+◌, ◌*◌, ◌^◌, ◌<◌}
use mathlib.Core.List.{List}
use mathlib.Core.Logic.{◌≢◌}
use mathlib.Core.Path.{◌≡◌, sym, ap₂, ◌∙◌, subst}
use native.Mathlib.Omega.{arith}
use mir.Syntax.{w64}
use mir.Val.{Fits}
use lib.ListN.{length, get_or}
use lib.Count.{ones, count_trailing_zeros}
use Rattle.std.proofs.Common.{rules, tests}
use Rattle.std.proofs.lemmas.Iterator.{IsFirst-from_position, YieldsList-from_slice, YieldsList-from_map}
use Rattle.std.proofs.lemmas.Iterator.Consumers.{sum_by_from_yields_List, fits_by_from_yields_list}
use Rattle.std.proofs.option.Match.{if_some}
use Rattle.std.specs.List.{sum_by, AllWithin, HoldsAt}
use Rattle.std.specs.Option.{MatchOption}
use Rattle.protection.specs.Words.{bit_at, count, least, without_spare, unprotected_count, lowest_unprotected, report_of}
use Rattle.protection.proofs.Scan.{ones_le, count_words, count_kept, least_kept, least_none}
use Rattle.protection.proofs.report_of.Goals as goal

module _ (ws kept : List ℕ) (five : length ws ≡ 5) (e : kept ≡ without_spare ws) (fits : (k : ℕ) → k < length kept → get_or kept k 0 < 2 ^ 64) (all : length kept ≡ 5) where
  reported : (n m : ℕ) → n ≡ sum_by ones kept → m ≡ least 259 (bit_at ws) → record { count = n; lowest = m } ≡ report_of ws
  unfolding report_of unprotected_count lowest_unprotected
  reported n m t l = λ j. record {
    count = (t ∙ sym (count_words kept fits) ∙ ap₂ (λ (x : ℕ) (l : List ℕ). count x (bit_at l)) (omega arith) e ∙ count_kept ws five) j;
    lowest = l j;
  }

  lowest : (i : ℕ) → i < 5 → ((k : ℕ) → k < i → get_or kept k 0 ≡ 0) → get_or kept i 0 ≢ 0 → 64 * i + count_trailing_zeros 64 (get_or kept i 0) ≡ least 259 (bit_at ws)
  lowest i l z n = subst P (sym e) (least_kept ws five i l) (fits i (omega arith)) z n
    where
      P : List ℕ → Type 0
      P k = get_or k i 0 < 2 ^ 64 → ((j : ℕ) → j < i → get_or k j 0 ≡ 0) → get_or k i 0 ≢ 0 → 64 * i + count_trailing_zeros 64 (get_or k i 0) ≡ least 259 (bit_at ws)

  none : ((k : ℕ) → k < 5 → get_or kept k 0 ≡ 0) → 259 ≡ least 259 (bit_at ws)
  none z = least_none ws five (subst (λ (l : List ℕ). (k : ℕ) → k < 5 → get_or l k 0 ≡ 0) e z)

pub sum-count-requires-clause-fits : goal.sum-count-requires-clause-fits
sum-count-requires-clause-fits c =
    let kept : List ℕ = c.without_spare-kept.result in
    let fits : (k : ℕ) → k < length kept → get_or kept k 0 < 2 ^ 64 = λ k h. let f : Fits w64 (get_or kept k 0) = search rules in f.fits in
    let five : length kept ≡ 5 = search rules in
    fits_by_from_yields_list ones kept c.map.result _
    (YieldsList-from_map _ ones (YieldsList-from_slice kept cc) c.map.ensures.closure (λ x r q k. search (rules, tests)))
    (omega (arith, ones_le kept fits))

pub returns-in-Some : goal.returns-in-Some
returns-in-Some c =
    let kept : List ℕ = c.without_spare-kept.result in
    let fits : (k : ℕ) → k < length kept → get_or kept k 0 < 2 ^ 64 = λ k h. let f : Fits w64 (get_or kept k 0) = search rules in f.fits in
    let five : length kept ≡ 5 = search rules in
    let total : c.sum-count.result ≡ sum_by ones kept = sum_by_from_yields_List ones kept c.map.result _ c.sum-count.ensures.ran (YieldsList-from_map _ ones (YieldsList-from_slice kept cc) c.map.ensures.closure (λ x r q k. search (rules, tests))) in
    let first = if_some _ _ _ c.in-Some.is (IsFirst-from_position _ _ _ (λ x. x ≢ 0) (λ x. x ≡ 0) c.position.ensures.ran (YieldsList-from_slice kept c.iter-2.ensures.rest) (λ x q k. search (rules, tests)) (λ x q k. search (rules, tests))) in
    reported c.args.words kept (search rules) c.without_spare-kept.ensures fits five _ _ total
    (lowest c.args.words kept (search rules) c.without_spare-kept.ensures fits five c.in-Some.i (omega (arith, first.0)) (λ k h. first.2 k 0 (omega arith) h) (first.1 0))

pub returns-in-None : goal.returns-in-None
returns-in-None c =
    let kept : List ℕ = c.without_spare-kept.result in
    let fits : (k : ℕ) → k < length kept → get_or kept k 0 < 2 ^ 64 = λ k h. let f : Fits w64 (get_or kept k 0) = search rules in f.fits in
    let five : length kept ≡ 5 = search rules in
    let total : c.sum-count.result ≡ sum_by ones kept = sum_by_from_yields_List ones kept c.map.result _ c.sum-count.ensures.ran (YieldsList-from_map _ ones (YieldsList-from_slice kept cc) c.map.ensures.closure (λ x r q k. search (rules, tests))) in
    let found : MatchOption c.position.result (AllWithin (λ x. x ≡ 0) kept 0 (length kept)) (λ i. (i < length kept) × HoldsAt (λ x. x ≢ 0) kept i × AllWithin (λ x. x ≡ 0) kept 0 i) =
    IsFirst-from_position _ _ _ (λ x. x ≢ 0) (λ x. x ≡ 0) c.position.ensures.ran (YieldsList-from_slice kept c.iter-2.ensures.rest) (λ x q k. search (rules, tests)) (λ x q k. search (rules, tests)) in
    let zero : AllWithin (λ x. x ≡ 0) kept 0 (length kept) = rw c.in-None.is at found in
    reported c.args.words kept (search rules) c.without_spare-kept.ensures fits five _ _ total
    (none c.args.words kept (search rules) c.without_spare-kept.ensures fits five (λ k h. zero k 0 (omega arith) (omega (arith, five))))
