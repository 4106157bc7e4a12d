-- Calls in a row are one list of steps (calls_are_one_list), as `Sequence` and `OneList` say it.
-- Assumes nothing.
use Rattle.std.specs.Prelude.{ℕ, ◌+◌, true, ◌≡◌, refl}
use mathlib.Core.List.{List, [], ◌++◌, map, map-append}
use Rattle.std.proofs.Math.Path.{sym, ap}
use Rattle.std.proofs.Common.{◌∙◌, subst, arith}
use Rattle.std.proofs.Math.ListN.{length, take, length-append, length-map}
use Rattle.std.proofs.Math.Seq.{take_at}
use Rattle.geometry.specs.declared.Part.{Part}
use Rattle.geometry.specs.Blocks.{part_numbered}
use Rattle.semantics.specs.declared.Step.{Step}
use Rattle.semantics.specs.declared.Answer.{Answer}
use Rattle.semantics.specs.Demand.{Demand3}
use Rattle.semantics.proofs.Standing.{demand_3_whole}
use Rattle.wear.specs.Counts.{Counts}
use Rattle.semantics.specs.Steps.{Machine}
use Rattle.wear.specs.Steps.{Counted, beside, after_all_with, answers_with, fresh_with}
use Rattle.wear.specs.Claim.{CountsStand}
use Rattle.wear.proofs.Refused.{fresh_shared, all_alone}
use Rattle.wear.proofs.Theorem.{counts_stand}
use Rattle.device.specs.Outcomes.{holding}
use Rattle.playback.specs.Playback.{playable, answer_code, room_after, machine_of}
use Rattle.playback.specs.Laws.{after_all_append, answers_append, answers_length}
use Rattle.saved.specs.Saved.{saved_of, is_saved, state_of}
use Rattle.saved.specs.Laws.{saved_back}
use Rattle.m58.specs.Calls.{powered_up, unworn, state_after, Ran}
use Rattle.m58.specs.Laws.{powered_up_lem}
use Rattle.m58.specs.Sequence.{Sequence, powered, ran, OneList}

module _ (p : Part) (xs₀ : List ℕ) where
  -- the last three follow from the machine
  one_list : (m : ℕ) (given ws : List ℕ) (k : Counts) (xs : List ℕ) (l : List Step) → m ≡ length l → given ≡ map answer_code (answers_with (fresh_with p xs₀) l)
      → machine_of (holding (state_of ws)) k xs ≡ after_all_with (fresh_with p xs₀) l → is_saved ws ≡ true → OneList p xs₀ m given ws k xs l
  one_list m given ws k xs l c a e s = record {
    count = c;
    answers = a;
    machine = e;
    saved = s;
    words_are = sym (saved_back ws s) ∙ ap (λ (y : Counted). saved_of y.machine.state) e;
    demand_3 = λ h. subst (λ (y : Machine). Demand3 p l xs₀ y.array) (sym (ap (λ (y : Counted). y.machine) e ∙ all_alone (fresh_with p xs₀) l fresh_shared)) (demand_3_whole p l xs₀ h);
    wear = λ h. subst (λ (y : Counted). CountsStand p l y.counts) (sym e) (counts_stand p l xs₀ h);
  }

  -- one run more
  one_more : (m : ℕ) (given ws : List ℕ) (k : Counts) (xs : List ℕ) (l : List Step) → OneList p xs₀ m given ws k xs l → (codes room : List ℕ) (n : ℕ) (after : List ℕ) (counts : Counts) (answers array : List ℕ)
      → Ran ws k codes room xs n after counts answers array → OneList p xs₀ (m + n) (given ++ take n answers) after counts array (l ++ playable codes (length room))
  unfolding state_after room_after
  one_more m given ws k xs l o codes room n after counts answers array r =
      let new : List Step = playable codes (length room) in
      let g = r.goes_on o.saved in
      let told : List Answer = answers_with (machine_of (holding (state_of ws)) k xs) new in
      let long : length (map answer_code told) ≡ n = length-map told answer_code ∙ answers_length new (machine_of (holding (state_of ws)) k xs) ∙ sym r.played.count in
      let own : take n answers ≡ map answer_code told = ap (take n) r.played.answers_are ∙ take_at (map answer_code told) _ n long in
      one_list (m + n) (given ++ take n answers) after counts array (l ++ new)
      (omega (arith, o.count, r.played.count, length-append l new))
      ((λ j. (o.answers j) ++ (own ∙ ap (λ (y : Counted). map answer_code (answers_with y new)) o.machine) j)
      ∙ sym (map-append answer_code (answers_with (fresh_with p xs₀) l) (answers_with (after_all_with (fresh_with p xs₀) l) new))
      ∙ ap (map answer_code) (sym (answers_append l new (fresh_with p xs₀))))
      ((λ j. beside (g.1 j) (r.played.array_is j) (r.played.counts_are j)) ∙ ap (λ (y : Counted). after_all_with y new) o.machine ∙ sym (after_all_append l new (fresh_with p xs₀)))
      g.0

pub calls_are_one_list : (part : ℕ) (xs₀ : List ℕ) (m : ℕ) (given ws : List ℕ) (k : Counts) (xs : List ℕ) (l : List Step) → Sequence part xs₀ m given ws k xs l
    → OneList (part_numbered part) xs₀ m given ws k xs l
calls_are_one_list part xs₀ _ _ _ _ _ _ (powered room k h) =
    let u = powered_up_lem part room k h in
    one_list (part_numbered part) xs₀ 0 [] (powered_up part room) (unworn part room k) xs₀ [] refl refl (λ j. beside (u.1 j) xs₀ (u.2 j)) u.0
calls_are_one_list part xs₀ _ _ _ _ _ _ (ran m given ws k xs l q codes room n after counts answers array r) =
    one_more (part_numbered part) xs₀ m given ws k xs l (calls_are_one_list part xs₀ m given ws k xs l q) codes room n after counts answers array r
