-- `playback::run` meets its contract. One number more is played by the task that it asks, and a write by what it changes.
use mir.Val.{Val}
use denote.Laws.{Is}
use denote.Struct.Declared.{row}
use Rattle.device.specs.contracts.Device as device_type
use Rattle.device.specs.declared.Device.{Device}
use Rattle.refusal.specs.declared.Refusal.{Refusal}
use Rattle.semantics.specs.declared.Step.TheVariants.{Reset}
use Rattle.semantics.specs.WellFormed.{well_formed}
use Rattle.semantics.specs.Card.{given, card}
use Rattle.wear.specs.Counts.{shared_zero}
use Rattle.std.proofs.Common.{Bool, Option, ◌&&◌, length, ◌≡◌, ◌∙◌, refl, sym, ap, List, ℕ, arith, None}
use Rattle.geometry.specs.Blocks.{geometry_of, bank_of}
use Rattle.geometry.specs.declared.Part.{Part}
use Rattle.semantics.specs.declared.Bank.{Bank}
use Rattle.semantics.specs.declared.Control.{Control}
use Rattle.semantics.specs.declared.State.{State}
use Rattle.wear.specs.Counts.{lent}
use Rattle.wear.specs.Held.{Held}
use Rattle.wear.specs.Steps.{formed_with, refusal_with}
use Rattle.reading.specs.Shown.{read_seen}
use Rattle.writing.specs.Changes.{change_put, told_put}
use Rattle.playback.specs.Tasks.{task_means}
use Rattle.playback.specs.Laws.{going_none, going_turn, sofar_end, write_bank, plays_refused, plays_read, plays_write, plays_work, plays_supply, plays_reset, reset_pieces}
use Rattle.device.specs.Refusals.{none_left}
use Rattle.playback.proofs.Fits.{five, sixteen, thirty_two}
use Rattle.playback.proofs.run.Goals as goal
use Rattle.playback.proofs.run.Goals.{in-Refused, in-Read, in-Write+in-First, in-Write+in-Activity, in-Write+in-Ended, in-Write+in-Data, in-Write+in-View, in-Work, in-Supply, in-Reset}

-- a state whose pieces are those of another
pieces : (q : Part) (b b' : List Bank) (u u' : List ℕ) (c c' : Control) (f f' : List ℕ) → b ≡ b' → u ≡ u' → c ≡ c' → f ≡ f'
    → ◌≡◌ {A = State} (record { part = q; banks = b; unprotected = u; control = c; buffer = f }) (record { part = q; banks = b'; unprotected = u'; control = c'; buffer = f' })
pieces q b b' u u' c c' f f' i j k l = λ e. record { part = q; banks = i e; unprotected = j e; control = k e; buffer = l e }

-- what the code found the state, its counts and the array refused for is what they are held to be
held : (d : Device) (vs : List Val) → Is (row device_type.the_type) d vs → (main : List (List ℕ)) (small xs : List ℕ) (f z : Bool) (a b : Option Refusal)
    → f ≡ well_formed d.state → z ≡ shared_zero main → a ≡ given (card (geometry_of d.state.part) (f && z) (length xs) Reset) → a ≡ b
    → Held b d.state (lent main small) xs
unfolding formed_with refusal_with
held d vs p main small xs f z a b formed zero found is = record {
  same = sym is ∙ rw (← formed, ← zero) found;
  sixteen = sixteen d vs p;
  five = five d vs p;
  thirty_two = thirty_two d vs p;
}

pub loop-i-init : goal.loop-i-init
loop-i-init c = (
  going_none _ _ _ _ _ _ (held c.args.device _ c.well_formed.0 _ _ _ _ _ _ _ (c.formed_of.ensures _) c.shared_zero.ensures c.refusal_beside-refused.ensures (none_left _ c.in_default.not-Some)),
  c.min-played.ensures,
  omega arith,
  refl,
)

pub bounds-banks-p : goal.bounds-banks-p
bounds-banks-p c = write_bank None c.args.device.state.part _ _ _ (task_means None (geometry_of c.args.device.state.part) _ _ (sym c.in-Write.is ∙ c.task_of-task.ensures))

pub bounds-banks-p-in-Data : goal.bounds-banks-p-in-Data
bounds-banks-p-in-Data c = write_bank None c.args.device.state.part _ _ _ (task_means None (geometry_of c.args.device.state.part) _ _ (sym c.in-Write.is ∙ c.task_of-task.ensures))

pub bounds-banks-p-in-View : goal.bounds-banks-p-in-View
bounds-banks-p-in-View c = write_bank None c.args.device.state.part _ _ _ (task_means None (geometry_of c.args.device.state.part) _ _ (sym c.in-Write.is ∙ c.task_of-task.ensures))

pub bounds-banks-p-in-View-2 : goal.bounds-banks-p-in-View-2
bounds-banks-p-in-View-2 c = write_bank None c.args.device.state.part _ _ _ (task_means None (geometry_of c.args.device.state.part) _ _ (sym c.in-Write.is ∙ c.task_of-task.ensures))

pub loop-i-preserved : goal.loop-i-preserved
loop-i-preserved c =
    let g = c.loop-i.invariant.0 in
    let h = g.held in
    let k = c.task_of-task.ensures in (
      going_turn _ _ _ _ _ _ _ _ _ _ _ _ _ _ _ _ c.answer_code.ensures g (omega arith) (omega arith)
          (elim c.match-task.branch [
            | in-Refused w ↦ plays_refused _ _ _ _ h _ _ _ _ _ _ (task_means None (geometry_of c.args.device.state.part) _ _ (sym w.in-Refused.is ∙ k)) (pieces _ _ _ _ _ _ _ _ _ w.banks-is w.unprotected-is w.control-is w.buffer-is) w.answer-is w.array-is (λ j. lent (w.main-is j) (w.small-is j))
            | in-Read w ↦ plays_read _ _ _ _ h _ _ _ _ _ _ _ (task_means None (geometry_of c.args.device.state.part) _ _ (sym w.in-Read.is ∙ k)) (read_seen _ _ _ _ _ _ _ w.location_of-location.ensures.value (w.bank_at-bank.ensures.value ∙ ap (bank_of _) (sym w.location_of-location.ensures.value)) refl w.read_at.ensures) (pieces _ _ _ _ _ _ _ _ _ w.banks-is w.unprotected-is w.control-is w.buffer-is) w.answer-is w.array-is (λ j. lent (w.main-is j) (w.small-is j))
            | in-Write+in-First w ↦ plays_write _ _ _ _ h _ _ _ _ _ _ _ (task_means None (geometry_of c.args.device.state.part) _ _ (sym w.in-Write.is ∙ k)) (pieces _ _ _ _ _ _ _ _ _ w.banks-is w.unprotected-is w.control-is w.buffer-is ∙ (change_put _ _ _ _ (sym w.in-First.is ∙ w.change_of-change.ensures) refl)) w.answer-is w.array-is (λ j. lent (w.main-is j) (w.small-is j))
            | in-Write+in-Activity w ↦ plays_write _ _ _ _ h _ _ _ _ _ _ _ (task_means None (geometry_of c.args.device.state.part) _ _ (sym w.in-Write.is ∙ k)) (pieces _ _ _ _ _ _ _ _ _ w.banks-is w.unprotected-is w.control-is w.buffer-is ∙ (change_put _ _ _ _ (sym w.in-Activity.is ∙ w.change_of-change.ensures) refl)) w.answer-is w.array-is (λ j. lent (w.main-is j) (w.small-is j))
            | in-Write+in-Ended w ↦ plays_write _ _ _ _ h _ _ _ _ _ _ _ (task_means None (geometry_of c.args.device.state.part) _ _ (sym w.in-Write.is ∙ k)) (pieces _ _ _ _ _ _ _ _ _ w.banks-is w.unprotected-is w.control-is w.buffer-is ∙ rw (w.end_running-control.ensures.control, w.end_running-control.ensures.buffer) (change_put _ _ _ _ (sym w.in-Ended.is ∙ w.change_of-change.ensures) refl)) w.answer-is w.array-is (λ j. lent (w.main-is j) (w.small-is j))
            | in-Write+in-Data w ↦ plays_write _ _ _ _ h _ _ _ _ _ _ _ (task_means None (geometry_of c.args.device.state.part) _ _ (sym w.in-Write.is ∙ k)) (pieces _ _ _ _ _ _ _ _ _ w.banks-is w.unprotected-is w.control-is w.buffer-is ∙ rw w.load.ensures (change_put _ _ _ _ (sym w.in-Data.is ∙ w.change_of-change.ensures) refl)) w.answer-is w.array-is (λ j. lent (w.main-is j) (w.small-is j))
            | in-Write+in-View w ↦ plays_write _ _ _ _ h _ _ _ _ _ _ _ (task_means None (geometry_of c.args.device.state.part) _ _ (sym w.in-Write.is ∙ k)) (pieces _ _ _ _ _ _ _ _ _ w.banks-is w.unprotected-is w.control-is w.buffer-is ∙ rw w.settled-control.ensures (told_put _ _ _ _ _ _ (sym w.in-View.is ∙ w.change_of-change.ensures) (rw w.is_unprotected-on.ensures at w.told_view-v.ensures) w.set_block.ensures w.load_buffer.ensures)) w.answer-is w.array-is (λ j. lent (w.main-is j) (w.small-is j))
            | in-Work w ↦ plays_work _ _ _ _ h _ _ _ _ _ _ _ _ (task_means None (geometry_of c.args.device.state.part) _ _ (sym w.in-Work.is ∙ k)) w.advance-o.ensures.progress w.advance-o.ensures.buffer (pieces _ _ _ _ _ _ _ _ _ w.banks-is w.unprotected-is w.control-is w.buffer-is) w.answer-is (w.array-is ∙ w.advance-o.ensures.array) ((λ j. lent (w.main-is j) (w.small-is j)) ∙ w.count_finished.ensures)
            | in-Supply w ↦ plays_supply _ _ _ _ h _ _ _ _ _ _ _ _ (task_means None (geometry_of c.args.device.state.part) _ _ (sym w.in-Supply.is ∙ k)) w.switch_supply-control.ensures.control w.switch_supply-control.ensures.buffer (pieces _ _ _ _ _ _ _ _ _ w.banks-is w.unprotected-is w.control-is w.buffer-is) w.answer-is w.array-is (λ j. lent (w.main-is j) (w.small-is j))
            | in-Reset w ↦ plays_reset _ _ _ _ h _ _ _ _ _ (task_means None (geometry_of c.args.device.state.part) _ _ (sym w.in-Reset.is ∙ k)) (pieces _ _ _ _ _ _ _ _ _ w.banks-is w.unprotected-is w.control-is w.buffer-is ∙ reset_pieces _ _ _ w.reset-z.ensures) w.answer-is w.array-is (λ j. lent (w.main-is j) (w.small-is j))
          ]),
      c.loop-i.invariant.1,
      omega arith,
      c.loop-i.invariant.3,
    )

pub returns-in-Some : goal.returns-in-Some
returns-in-Some c =
    c.refuse-played.ensures _ _ _ (held c.args.device _ c.well_formed.0 _ _ _ _ _ _ _ (c.formed_of.ensures _) c.shared_zero.ensures c.refusal_beside-refused.ensures c.in-Some.is)

pub returns-after-loop-i : goal.returns-after-loop-i
returns-after-loop-i c =
    let e : c.loop-i.played ≡ c.loop-i.i = omega (arith, c.loop-i-test.false, c.loop-i.invariant.2, c.loop-i.invariant.3) in
    rw e (sofar_end _ _ _ _ _ _ _ _ _ _ c.loop-i.invariant.0.sofar (λ p q. absurd (omega (arith, c.loop-i-test.false, c.loop-i.invariant.1))))

pub returns-in-End : goal.returns-in-End
returns-in-End c = sofar_end _ _ _ _ _ _ _ _ _ _ c.loop-i.invariant.0.sofar (λ p q. task_means None (geometry_of c.args.device.state.part) _ _ (sym c.in-End.is ∙ c.task_of-task.ensures))
