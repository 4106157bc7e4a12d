-- How long a transcript is at most: a room of 262,154 bytes holds every one. 16,384 lines of at most 16 bytes, and at most 10 bytes at the end.
-- Assumes nothing.
use Rattle.std.specs.Prelude.{ℕ, suc, ◌+◌, ◌*◌, ◌<◌, ◌≤◌, Bool, true, false, cond, List, [], ◌∷◌, ◌≡◌, refl, eqb, leb, length, Option, Some, None}
use Rattle.std.proofs.Common.{⊎_elim, sym, ap, subst, ◌∙◌, arith, length-append}
use Rattle.std.specs.Option.{option_map_or, unwrap_or}
use Rattle.std.proofs.lemmas.Option.{none-some}
use Rattle.refusal.specs.declared.Refusal.{Refusal}
use Rattle.refusal.specs.declared.Refusal.TheVariants as refusal
use Rattle.refusal.specs.Numbers.{number}
use Rattle.geometry.specs.declared.Part.TheVariants.{BenchBottom}
use Rattle.geometry.specs.Laws.{order}
use Rattle.semantics.specs.declared.State.{State}
use Rattle.semantics.specs.declared.Step.{Step}
use Rattle.semantics.specs.declared.Step.TheVariants.{Read, Write, Work, Supply, Reset}
use Rattle.semantics.specs.declared.Answer.TheVariants.{Refused}
use Rattle.semantics.specs.State.{geometry}
use Rattle.semantics.specs.Reading.{read_word}
use Rattle.semantics.specs.Working.{units_done}
use Rattle.semantics.specs.Card.{row, lower, given, number_given, card}
use Rattle.semantics.specs.Split.{first_refusal}
use Rattle.semantics.proofs.Split.{count_bad}
use Rattle.semantics.specs.Steps.{next, accepted}
use Rattle.semantics.specs.Demand.{Demand3}
use Rattle.wear.specs.Counts.{Counts}
use Rattle.wear.specs.Steps.{refusal_with, step_with, Counted, fresh_with}
use Rattle.wear.proofs.Refused.{refusal_first}
use Rattle.wear.specs.Claim.{CountsStand}
use Rattle.line.specs.Forms.{step_of_line}
use Rattle.printing.specs.Text.{answer_text, line_text, end_text, word_short, units_short, done_short, refused_short, line_short, end_short}
use Rattle.printing.specs.Room.{Put, placed_length, put_whole, put_counted}
use Rattle.script.specs.declared.Progress.{Progress}
use Rattle.lines.specs.Lines.{front, lines}
use Rattle.script.specs.Script.{script_of, line_refusal, answer_of, machine_after, spoken, steps_of_script, machine_at_end, transcript_of, LinesPlayed, Transcribed}
use Rattle.script.proofs.Laws.{script_short, journaled, worn, ended, at_end}

-- ---- a refusal has one digit

lower_below : (e : Refusal) (o : Option Refusal) → number e < 10 → number_given o < 10 → number (lower e o) < 10
lower_below e None h k = h
lower_below e (Some d) h k = go (leb (number e) (number d))
  where
    go : (b : Bool) → number (cond b e d) < 10
    go true = h
    go false = k

row_below : (b : Bool) (e : Refusal) (o : Option Refusal) → number e < 10 → number_given o < 10 → number_given (cond b (Some (lower e o)) o) < 10
row_below true e o h k = lower_below e o h k
row_below false e o h k = k

rows_below : (a f t u v : Bool)
    → number_given (given (row refusal.ArrayLength a ∷ row refusal.Malformed f ∷ row refusal.Address t ∷ row refusal.WorkCount u ∷ row refusal.NoBlock v ∷ [])) < 10
unfolding given
rows_below a f t u v =
    row_below a refusal.ArrayLength _ (omega arith)
    (row_below f refusal.Malformed _ (omega arith)
    (row_below t refusal.Address _ (omega arith)
    (row_below u refusal.WorkCount _ (omega arith) (row_below v refusal.NoBlock None (omega arith) (omega arith)))))

refusal_below : (s : State) (k : Counts) (n : ℕ) (x : Step) → number_given (refusal_with s k n x) < 10
unfolding refusal_with card
refusal_below s k n x = rows_below _ _ _ _ _

line_below : (m : Counted) → number (line_refusal m) < 10
unfolding line_refusal
line_below m =
    go (refusal_with m.machine.state m.counts (length m.machine.array) Reset) (refusal_below m.machine.state m.counts (length m.machine.array) Reset)
  where
    go : (o : Option Refusal) → number_given o < 10 → number (unwrap_or o refusal.NoStep) < 10
    go None h = omega arith
    go (Some e) h = h

-- ---- an answer has at most 9 bytes

-- a count that is not refused is at most 65,535, and so are the units done
count_short : (s : State) (k : Counts) (n l : ℕ) → refusal_with s k l (Work n) ≡ None → n ≤ 65535
count_short s k n l h = ⊎_elim (λ i. absurd (go (refusal_with s k l Reset) (refused i))) (λ i. i) (order 65535 n)
  where
    refused : 65535 < n → first_refusal (refusal_with s k l Reset) (Some refusal.WorkCount) ≡ None
    refused i = sym (refusal_first s k l (Work n) ∙ rw (count_bad (geometry s) n i)) ∙ h

    go : (o : Option Refusal) → first_refusal o (Some refusal.WorkCount) ≡ None → ⊥
    go None e = none-some _ (sym e)
    go (Some d) e = none-some _ (sym e)

accepted_short : (s : State) (k : Counts) (xs : List ℕ) (x : Step) → refusal_with s k (length xs) x ≡ None → length (answer_text (accepted s xs x).answer) ≤ 9
unfolding accepted units_done
accepted_short s k xs (Read address) h = word_short (read_word s xs address)
accepted_short s k xs (Write address w) h = done_short
accepted_short s k xs (Work n) h = units_short (units_done (geometry s) s.control.activity.running n) (omega (arith, count_short s k n (length xs) h))
accepted_short s k xs (Supply on) h = done_short
accepted_short s k xs Reset h = done_short

step_short : (s : State) (k : Counts) (xs : List ℕ) (x : Step) → length (answer_text (step_with s k xs x).answer) ≤ 9
unfolding step_with
step_short s k xs x = go (refusal_with s k (length xs) x) refl
  where
    go : (o : Option Refusal) → refusal_with s k (length xs) x ≡ o → length (answer_text (option_map_or (λ e. next s (Refused e)) o (accepted s xs x)).answer) ≤ 9
    go None e = accepted_short s k xs x e
    go (Some d) e = refused_short d (subst (λ (o : Option Refusal). number_given o < 10) e (refusal_below s k (length xs) x))

answer_short : (m : Counted) (d : Option Step) → length (answer_text (answer_of m d)) ≤ 9
answer_short m (Some x) = step_short m.machine.state m.counts m.machine.array x
answer_short m None = refused_short (line_refusal m) (line_below m)

-- ---- a transcript

-- lines that are numbered from n on
spoken_short : (m : Counted) (n : ℕ) (ls : List (List ℕ)) → n + length ls < 100000 → length (spoken m n ls) ≤ 16 * length ls
spoken_short m n [] h = omega arith
spoken_short m n (l ∷ ls) h =
    omega (
      arith,
      length-append (line_text n (answer_of m (step_of_line l))) (spoken (machine_after m (step_of_line l)) (suc n) ls),
      line_short n (answer_of m (step_of_line l)) (omega arith) (answer_short m (step_of_line l)),
      spoken_short (machine_after m (step_of_line l)) (suc n) ls (omega arith),
    )

-- a text has no more lines than bytes
lines_few : (t : List ℕ) → length (lines t) ≤ length t
unfolding lines
lines_few [] = omega arith
lines_few (b ∷ t) = go (eqb b 10) (lines t) (lines_few t)
  where
    go : (v : Bool) (ls : List (List ℕ)) → length ls ≤ length t → length (cond v ([] ∷ ls) (front b ls)) ≤ suc (length t)
    go true ls h = omega arith
    go false [] h = omega arith
    go false (l ∷ ls) h = omega arith

pub transcript_fits : (xs t : List ℕ) → length (transcript_of xs t) ≤ 262154
unfolding transcript_of
transcript_fits xs t =
    let few : length (lines (script_of t)) ≤ 16384 = omega (arith, lines_few (script_of t), script_short t) in
    omega (
      arith,
      length-append (spoken (fresh_with BenchBottom xs) 1 (lines (script_of t))) (end_text (length (lines (script_of t)))),
      spoken_short (fresh_with BenchBottom xs) 1 (lines (script_of t)) (omega arith),
      end_short (length (lines (script_of t))) (omega arith),
    )

-- so it stands whole in a room of that length
pub transcribed : (t xs room script : List ℕ) (p : Progress) (counts : Counts) (array after : List ℕ) (next : ℕ) (after' : List ℕ) → length room ≡ 262154 → script ≡ script_of t
    → LinesPlayed script xs room p counts array after → Put after p.place (end_text p.count) after' next → Transcribed t xs room next counts array after'
transcribed t xs room script p counts array after next after' h e q w =
    let fits : length (transcript_of xs t) ≤ length room = omega (arith, transcript_fits xs t) in
    let put : Put room 0 (transcript_of xs t) after' next = ended t xs room script p counts array after e q next after' w in
    let same = at_end t xs room script p counts array after e q in
    let array_same : array ≡ (machine_at_end xs t).machine.array = ap (λ (m : Counted). m.machine.array) same in
    let counts_same : counts ≡ (machine_at_end xs t).counts = ap (λ (m : Counted). m.counts) same in
    let size : length after' ≡ length room = ap length put.room ∙ placed_length room 0 (transcript_of xs t) in
    record {
      written = put_whole put fits;
      length_is = put_counted put fits;
      size = size;
      within = omega (arith, put_counted put fits, size, fits);
      array_is = array_same;
      counts_are = counts_same;
      journal = λ n. subst (λ (ys : List ℕ). Demand3 BenchBottom (steps_of_script t) xs ys) (sym array_same) (journaled xs t n);
      wear = λ n. subst (λ (k : Counts). CountsStand BenchBottom (steps_of_script t) k) (sym counts_same) (worn xs t n);
    }
