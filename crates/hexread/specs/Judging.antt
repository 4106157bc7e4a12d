-- The loop that judges a text, record by record.
-- Assumes nothing.
use Rattle.std.specs.Prelude.{◌≡◌, ℕ, suc, ◌+◌, ◌<◌, ◌≤◌, true, false, cond, ◌*◌, ◌==◌, ◌≢◌, Bool, List, [], ◌∷◌, length, slice_index, Option, Some, None, Ok, Err}
use Rattle.std.proofs.Math.Path.{refl}
use Rattle.std.proofs.Common.{eqb-true, ne_eqb}
use Rattle.std.proofs.lemmas.Bool.{eqb-false}
use native.Mathlib.Omega.{arith}
use Rattle.lines.specs.declared.Taken.{Taken}
use Rattle.lines.specs.Lines.{taken_at, end_from, end_within}
use Rattle.refusal.specs.declared.Refusal.{Refusal}
use Rattle.refusal.specs.declared.Refusal.TheVariants.{NoEndRecord}
use Rattle.intelhex.specs.Records.{bytes, count, offset, kind, is_end, upper_after, record_lines, record_refusal, refusal_from, lines_from, with_line}
use Rattle.hexread.specs.Ends.{records_few}
use Rattle.hexread.specs.declared.Kind.TheVariants.{Data, End, Upper, Other}
use Rattle.hexread.specs.declared.Record.{Record}
use Rattle.hexread.specs.declared.Record.TheVariants.{Names, Ends, Moves}
use Rattle.hexread.specs.Bytes.{record_by, record_of, unless, looked, judged}

-- the records that are left, and the number of lines before them, decide the text
pub record Judging (text : List ℕ) (n : ℕ) (rest : List (List ℕ)) (upper line : ℕ) : Type 0 where
  pub few : line + length rest ≤ length text
  pub left : with_line (refusal_from n upper rest) (line + lines_from n upper rest) ≡ judged n text

pub judge_start : (text : List ℕ) (n : ℕ) → Judging text n (record_lines text) 0 0
judge_start text n =
    let e : 0 + lines_from n 0 (record_lines text) ≡ lines_from n 0 (record_lines text) = omega arith in
    record { few = omega (arith, records_few text); left = rw e }

pub judge_none : (text : List ℕ) (n upper line : ℕ) → Judging text n [] upper line → Err (record { refusal = NoEndRecord; line = line }) ≡ judged n text
unfolding refusal_from lines_from
judge_none text n upper line inv = let e : line + 0 ≡ line = omega arith in rw e at inv.left

-- where a line was taken
pub taken_ends : (text : List ℕ) (at : ℕ) (t : Taken) → at < length text → t ≡ taken_at text at → (at ≤ t.to) × (t.to ≤ length text)
taken_ends text at t h e = rw e (end_from text at, end_within text at (omega arith))

-- ---- a record, by what it does

module _ (l : List ℕ) where
  pub ends_is : Ends ≡ record_of l → kind l ≡ 1
  ends_is = go (kind l == 0) (kind l == 1) refl (kind l == 4)
    where
      go : (a b : Bool) → (kind l == 1) ≡ b → (c : Bool) → Ends ≡ record_by (cond a Data (cond b End (cond c Upper Other))) l → kind l ≡ 1
      go true b q c e = cc
      go false true q c e = eqb-true (kind l) 1 q
      go false false q true e = cc
      go false false q false e = cc

  pub moves_is : {u : ℕ} → Moves u ≡ record_of l → (kind l ≡ 4) × (u ≡ slice_index (bytes l) 4 * 256 + slice_index (bytes l) 5)
  moves_is {u} = go (kind l == 0) (kind l == 1) (kind l == 4) refl
    where
      go : (a b c : Bool) → (kind l == 4) ≡ c → Moves u ≡ record_by (cond a Data (cond b End (cond c Upper Other))) l
          → (kind l ≡ 4) × (u ≡ slice_index (bytes l) 4 * 256 + slice_index (bytes l) 5)
      go true b c q e = cc
      go false true c q e = cc
      go false false true q e = (eqb-true (kind l) 4 q, cc)
      go false false false q e = cc

  pub names_is : {o n : ℕ} → Names o n ≡ record_of l → (kind l ≢ 1) × (kind l ≢ 4) × (o ≡ offset l) × (n ≡ count l)
  names_is {o} {n} = go (kind l == 0) refl (kind l == 1) refl (kind l == 4) refl
    where
      go : (a : Bool) → (kind l == 0) ≡ a → (b : Bool) → (kind l == 1) ≡ b → (c : Bool) → (kind l == 4) ≡ c
          → Names o n ≡ record_by (cond a Data (cond b End (cond c Upper Other))) l → (kind l ≢ 1) × (kind l ≢ 4) × (o ≡ offset l) × (n ≡ count l)
      go true p b q c r e = let z : kind l ≡ 0 = eqb-true (kind l) 0 p in (λ y. omega arith, λ y. omega arith, cc, cc)
      go false p true q c r e = cc
      go false p false q true r e = cc
      go false p false q false r e = (eqb-false (kind l) 1 q, eqb-false (kind l) 4 r, cc, cc)

  -- which address holds after it
  pub on_by : (upper : ℕ) → (kind l ≢ 1) → (kind l ≢ 4) → (is_end l ≡ false) × (upper_after upper l ≡ upper)
  on_by upper h k = (ne_eqb (kind l) 1 h, rw (ne_eqb (kind l) 4 k))

  pub on_four : (upper : ℕ) → kind l ≡ 4 → (is_end l ≡ false) × (upper_after upper l ≡ slice_index (bytes l) 4 * 256 + slice_index (bytes l) 5)
  on_four upper e = (rw e, rw e)

-- ---- a record, by what is seen of it

module _ (n upper : ℕ) (l : List ℕ) where
  looked_bad : {r : Refusal} → Err r ≡ looked n upper l → record_refusal n upper l ≡ Some r
  unfolding looked
  looked_bad {r} = go (record_refusal n upper l)
    where
      go : (o : Option Refusal) → Err r ≡ unless o (record_of l) → o ≡ Some r
      go None e = cc
      go (Some x) e = cc

  looked_good : {r : Record} → Ok r ≡ looked n upper l → (record_refusal n upper l ≡ None) × (r ≡ record_of l)
  unfolding looked
  looked_good {r} = go (record_refusal n upper l)
    where
      go : (o : Option Refusal) → Ok r ≡ unless o (record_of l) → (o ≡ None) × (r ≡ record_of l)
      go None e = (refl, cc)
      go (Some x) e = cc

module _ (text : List ℕ) (n upper line : ℕ) (l : List ℕ) (ls : List (List ℕ)) (inv : Judging text n (l ∷ ls) upper line) where
  pub judge_bad : {r : Refusal} → Err r ≡ looked n upper l → Err (record { refusal = r; line = line + 1 }) ≡ judged n text
  unfolding refusal_from lines_from
  judge_bad e = rw (looked_bad n upper l e) at inv.left

  pub judge_end : Ok Ends ≡ looked n upper l → Ok (line + 1) ≡ judged n text
  unfolding refusal_from lines_from
  judge_end e =
      let good = looked_good n upper l e in
      rw (good.0, ends_is l good.1) at inv.left

  pub judge_on : record_refusal n upper l ≡ None → is_end l ≡ false → Judging text n ls (upper_after upper l) (line + 1)
  unfolding refusal_from lines_from
  judge_on e f = record {
    few = omega (arith, inv.few);
    left =
        let s : line + 1 + lines_from n (upper_after upper l) ls ≡ line + suc (lines_from n (upper_after upper l) ls) = omega arith in
        rw s (rw (e, f) at inv.left);
  }

  pub judge_names : {o k : ℕ} → Ok (Names o k) ≡ looked n upper l → Judging text n ls upper (line + 1)
  judge_names e =
      let good = looked_good n upper l e in
      let is = names_is l good.1 in
      let on = on_by l upper is.0 is.1 in
      rw on.1 at (judge_on good.0 on.0)

  pub judge_moves : {u : ℕ} → Ok (Moves u) ≡ looked n upper l → Judging text n ls u (line + 1)
  judge_moves e =
      let good = looked_good n upper l e in
      let is = moves_is l good.1 in
      let on = on_four l upper is.0 in
      rw (on.1, ← is.1) at (judge_on good.0 on.0)
