-- Laws of a script: its steps, its refused lines, and the loop that plays it line by line.
-- Assumes nothing.
use Rattle.std.specs.Prelude.{ℕ, suc, ◌+◌, ◌-◌, ◌<◌, ◌≤◌, ◌≡◌, refl, take, Option, Some, None}
use Rattle.std.proofs.Math.Bool.{true}
use mathlib.Core.List.{List, [], ◌∷◌, ◌++◌, append_assoc, append-nil}
use Rattle.std.proofs.Math.Path.{sym, ap, subst}
use Rattle.std.proofs.Common.{◌∙◌, arith, add-one, length-take}
use Rattle.std.proofs.Math.ListN.{length, drop, drop_of_length-le}
use Rattle.geometry.specs.declared.Part.TheVariants.{BenchBottom}
use Rattle.geometry.specs.Blocks.{geometry_of, words}
use Rattle.semantics.specs.declared.Step.{Step}
use Rattle.semantics.specs.declared.Step.TheVariants.{Reset}
use Rattle.semantics.specs.declared.Answer.TheVariants.{Refused}
use Rattle.semantics.specs.declared.Next.{Next}
use Rattle.semantics.specs.State.{geometry}
use Rattle.std.specs.Option.{unwrap_or}
use Rattle.refusal.specs.declared.Refusal.{Refusal}
use Rattle.refusal.specs.declared.Refusal.TheVariants as refusal
use Rattle.semantics.specs.Steps.{next, Machine, after_all, fresh}
use Rattle.semantics.proofs.Invariant.{state_good}
use Rattle.semantics.specs.Demand.{Demand3}
use Rattle.semantics.proofs.Standing.{demand_3_whole}
use Rattle.semantics.specs.Progress.{Good}
use Rattle.semantics.proofs.Progress.{reached_good}
use Rattle.device.specs.declared.Device.{Device}
use Rattle.device.specs.declared.Outcome.{Outcome}
use Rattle.wear.specs.Counts.{Counts, shared_zero}
use Rattle.wear.specs.Steps.{refusal_with, step_with, Counted, after_with, after_all_with, fresh_with}
use Rattle.wear.specs.Claim.{CountsStand}
use Rattle.wear.proofs.Refused.{length_refused, refusal_alone, all_alone, fresh_shared, shared_all}
use Rattle.wear.proofs.Theorem.{counts_stand}
use Rattle.device.specs.Outcomes.{outcome, array_out, counts_out}
use Rattle.line.specs.Forms.{step_of_line}
use Rattle.line.specs.Laws.{long_invalid, empty_invalid}
use Rattle.printing.specs.Text.{text, digit_of, digits, decimal, line_text, end_text}
use Rattle.printing.specs.Room.{Put, put_none, put_then}
use Rattle.lines.specs.declared.Taken.{Taken}
use Rattle.script.specs.declared.Played.{Played}
use Rattle.script.specs.declared.Progress.{Progress}
use Rattle.script.specs.Script.{script_of, line_refusal, answer_of, machine_after, machine_of, LinePlayed, steps_of, after_lines, spoken, steps_of_lines, steps_of_script, machine_at_end, transcript_of, LinesPlayed}
use Rattle.lines.specs.Lines.{lines, line_end, line_next, taken_at, next_later, lines_next}
use Rattle.script.specs.Laws.{PlayedAt, Begun, Sofar}

-- ---- lines that are refused, and texts that are empty or too long

-- 1 "array length is not 256u": whatever the line, a form or none
pub other_array : (m : Counted) (d : Option Step) → (length m.machine.array ≡ words (geometry m.machine.state) → ⊥) → answer_of m d ≡ Refused refusal.ArrayLength
unfolding line_refusal step_with
other_array m (Some x) h =
    let e : step_with m.machine.state m.counts m.machine.array x ≡ next m.machine.state (Refused refusal.ArrayLength) =
    rw (length_refused m.machine.state m.counts (length m.machine.array) h x)
    in
    ap (λ (y : Next). y.answer) e
other_array m None h = rw (length_refused m.machine.state m.counts (length m.machine.array) h Reset)

-- "Empty input prints `end 0`."
pub empty_text : (xs : List ℕ) → transcript_of xs [] ≡ text "end 0\n"
unfolding transcript_of script_of lines end_text decimal digits digit_of
empty_text xs = refl

pub script_short : (t : List ℕ) → length (script_of t) ≤ 16384
unfolding script_of
script_short t = omega (arith, length-take 16384 t)

-- ---- the machine at the end

-- playing lines is playing their steps
lines_steps : (m : Counted) (ls : List (List ℕ)) → after_lines m ls ≡ after_all_with m (steps_of_lines ls)
lines_steps m [] = refl
lines_steps m (l ∷ ls) = go (step_of_line l) (λ k. lines_steps k ls)
  where
    go : (d : Option Step) → ((k : Counted) → after_lines k ls ≡ after_all_with k (steps_of_lines ls)) → after_lines (machine_after m d) ls ≡ after_all_with m (steps_of d (steps_of_lines ls))
    go (Some x) f = f (after_with m x)
    go None f = f m

-- the machine at the end is the one that the script's steps make of power-up
pub machine_steps : (xs t : List ℕ) → machine_at_end xs t ≡ after_all_with (fresh_with BenchBottom xs) (steps_of_script t)
unfolding machine_at_end steps_of_script
machine_steps xs t = lines_steps (fresh_with BenchBottom xs) (lines (script_of t))

-- and without its counts, the one that they make of power-up without them
pub machine_alone : (xs t : List ℕ) → (machine_at_end xs t).machine ≡ after_all (fresh BenchBottom xs) (steps_of_script t)
machine_alone xs t = ap (λ (m : Counted). m.machine) (machine_steps xs t) ∙ all_alone (fresh_with BenchBottom xs) (steps_of_script t) fresh_shared

-- on an array of the part's length 1 and 2 do not come: a line without a form is refused 6, wherever it stands
module _ (xs : List ℕ) (before : List (List ℕ)) (h : length xs ≡ words (geometry_of BenchBottom)) where
  pub no_form : (l : List ℕ) → step_of_line l ≡ None → answer_of (after_lines (fresh_with BenchBottom xs) before) (step_of_line l) ≡ Refused refusal.NoStep
  unfolding line_refusal
  no_form l e =
      let m : Counted = after_lines (fresh_with BenchBottom xs) before in
      let steps : m ≡ after_all_with (fresh_with BenchBottom xs) (steps_of_lines before) = lines_steps (fresh_with BenchBottom xs) before in
      let alone : m.machine ≡ after_all (fresh BenchBottom xs) (steps_of_lines before) = ap (λ (k : Counted). k.machine) steps ∙ all_alone (fresh_with BenchBottom xs) (steps_of_lines before) fresh_shared in
      let good : Good m.machine = subst (λ (k : Machine). Good k) (sym alone) (reached_good BenchBottom (steps_of_lines before) xs h) in
      let zero : shared_zero m.counts.main ≡ true = ap (λ (k : Counted). shared_zero k.counts.main) steps ∙ shared_all (fresh_with BenchBottom xs) (steps_of_lines before) ∙ fresh_shared in
      rw (e, refusal_alone m.machine.state m.counts zero (length m.machine.array) Reset, state_good m.machine.state (length m.machine.array) good.size good.formed)

  -- "A line over 16 bytes, or empty, is refused 6."
  pub long_refused : (l : List ℕ) → 16 < length l → answer_of (after_lines (fresh_with BenchBottom xs) before) (step_of_line l) ≡ Refused refusal.NoStep
  long_refused l k = no_form l (long_invalid l k)

  pub empty_refused : answer_of (after_lines (fresh_with BenchBottom xs) before) (step_of_line []) ≡ Refused refusal.NoStep
  empty_refused = no_form [] empty_invalid

-- so demand 3 holds of its array
pub journaled : (xs t : List ℕ) → length xs ≡ words (geometry_of BenchBottom) → Demand3 BenchBottom (steps_of_script t) xs (machine_at_end xs t).machine.array
journaled xs t h = rw machine_alone (demand_3_whole BenchBottom (steps_of_script t) xs h)

-- and its counts are the journal's
pub worn : (xs t : List ℕ) → length xs ≡ words (geometry_of BenchBottom) → CountsStand BenchBottom (steps_of_script t) (machine_at_end xs t).counts
worn xs t h = rw machine_steps (counts_stand BenchBottom (steps_of_script t) xs h)

-- ---- one line

module _ (line : List ℕ) (d : Device) (number : ℕ) (k : Counts) (xs room : List ℕ) (place : ℕ) where
  -- a line with a step: the step was made, and its answer printed
  pub line_made : (x : Step) (o : Outcome) (counts : Counts) (array after : List ℕ) (next : ℕ) → step_of_line line ≡ Some x → o ≡ outcome d k xs x → array ≡ array_out d k xs x → counts ≡ counts_out d k xs x
      → Put room place (line_text number o.answer) after next → LinePlayed line d number k xs room place (record { device = o.device; place = next }) counts array after
  line_made x o counts array after next e f h w p = record {
    machine = rw e (λ j. record { machine = record { state = (f j).device.state; array = h j }; counts = w j });
    written = rw (e, ← ap (λ (y : Outcome). y.answer) f) p;
  }

  -- a line with none: nothing changed, and the refusal was printed
  pub line_refused : (n : Refusal) (after : List ℕ) (next : ℕ) → step_of_line line ≡ None → n ≡ unwrap_or (refusal_with d.state k (length xs) Reset) refusal.NoStep
      → Put room place (line_text number (Refused n)) after next → LinePlayed line d number k xs room place (record { device = d; place = next }) k xs after
  unfolding line_refusal
  line_refused n after next e f p = record { machine = rw e; written = rw (e, ← f) p }

-- the line that was taken at the place
pub played_at : (script : List ℕ) (at : ℕ) (p : Progress) (k : Counts) (xs room : List ℕ) (t : Taken) (r : Played) (counts : Counts) (array after : List ℕ) → t ≡ taken_at script at
    → LinePlayed (take (t.to - t.from) (drop t.from script)) p.device (p.count + 1) k xs room p.place r counts array after
    → PlayedAt script at p k xs room (record { device = r.device; count = p.count + 1; place = r.place; next = t.next }) counts array after
played_at script at p k xs room t r counts array after e = rw e (λ q. record { line = q; count = refl; next = refl })

-- ---- the loop: the lines before place `at` have been played

pub sofar_none : (script xs room : List ℕ) (p : Progress) (k : Counts) → Begun script p k → Sofar script xs room p 0 k xs room
sofar_none script xs room p k b = rw (b.from, b.unworn) (record {
  within = omega arith;
  few = omega arith;
  printed = [];
  put = put_none room 0;
  whole = refl;
  machine = refl;
  counted = omega arith;
})

module _ (script xs room : List ℕ) (p : Progress) (at : ℕ) (k : Counts) (array after : List ℕ) (s : Sofar script xs room p at k array after) where
  -- one line more
  pub sofar_next : (r : Progress) (k' : Counts) (array' after' : List ℕ) → at < length script → PlayedAt script at p k array after r k' array' after' → Sofar script xs room r r.next k' array' after'
  sofar_next r k' array' after' h q = rw q.next (record {
    within = (next_later script at h).1;
    few = omega (arith, (next_later script at h).0, s.few, q.count);
    printed = s.printed ++ line;
    put = subst (λ (n : ℕ). Put room 0 (s.printed ++ line_text n (answer_of m (step_of_line l))) after' r.place) (add-one p.count) (put_then s.put q.line.written);
    whole =
        ap (λ (n : ℕ). s.printed ++ line ++ spoken (machine_of r.device k' array') (suc n) ls) (q.count ∙ add-one p.count)
        ∙ ap (λ (n : Counted). s.printed ++ line ++ spoken n (suc (suc p.count)) ls) q.line.machine
        ∙ append_assoc s.printed line (spoken (machine_after m (step_of_line l)) (suc (suc p.count)) ls)
        ∙ ap (λ (k : List (List ℕ)). s.printed ++ spoken m (suc p.count) k) (sym split)
        ∙ s.whole;
    machine = ap (λ (n : Counted). after_lines n ls) q.line.machine ∙ ap (after_lines m) (sym split) ∙ s.machine;
    counted = omega (arith, ap (length {A = List ℕ}) split, s.counted, q.count);
  })
    where
      m : Counted
      m = machine_of p.device k array

      l : List ℕ
      l = take (line_end script at - at) (drop at script)

      ls : List (List ℕ)
      ls = lines (drop (line_next script at) script)

      split : lines (drop at script) ≡ l ∷ ls
      split = lines_next script at h

      line : List ℕ
      line = line_text (suc p.count) (answer_of m (step_of_line l))

  -- no line is left
  pub sofar_end : length script ≤ at → LinesPlayed script xs room p k array after
  unfolding lines
  sofar_end h =
      let none : drop at script ≡ [] = drop_of_length-le script h in
      let texts : s.printed ≡ spoken (fresh_with BenchBottom xs) 1 (lines script) =
      sym (append-nil s.printed) ∙ ap (λ (t : List ℕ). s.printed ++ spoken (machine_of p.device k array) (suc p.count) (lines t)) (sym none) ∙ s.whole
      in
      record {
        machine = ap (λ (t : List ℕ). after_lines (machine_of p.device k array) (lines t)) (sym none) ∙ s.machine;
        written = subst (λ (k : List ℕ). Put room 0 k after p.place) texts s.put;
        counted = omega (arith, ap (λ (k : List ℕ). length (lines k)) none, s.counted);
      }

-- ---- the end

module _ (t xs room script : List ℕ) (p : Progress) (counts : Counts) (array after : List ℕ) (e : script ≡ script_of t) (q : LinesPlayed script xs room p counts array after) where
  -- the end put after the lines' text: the transcript
  pub ended : (next : ℕ) (after' : List ℕ) → Put after p.place (end_text p.count) after' next → Put room 0 (transcript_of xs t) after' next
  unfolding transcript_of
  ended next after' w =
      subst (λ (k : List ℕ). Put room 0 (spoken (fresh_with BenchBottom xs) 1 (lines k) ++ end_text (length (lines k))) after' next) e
      (put_then q.written (subst (λ (n : ℕ). Put after p.place (end_text n) after' next) q.counted w))

  pub at_end : machine_of p.device counts array ≡ machine_at_end xs t
  unfolding machine_at_end
  at_end = q.machine ∙ ap (λ (k : List ℕ). after_lines (fresh_with BenchBottom xs) (lines k)) e
