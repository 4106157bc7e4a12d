-- A step gives a well-formed state back as a well-formed state: any, not only those that power-up leads to. The proof takes what is under way for a
-- journal of its own, and so rests on what is proved of the journal.
-- Assumes nothing.
use Rattle.std.specs.Prelude.{◌≡◌, refl, List, Bool, true, false, ◌&&◌, ℕ, eqb, length}
use Rattle.std.proofs.Common.{sym, ap, ◌∙◌, subst₂, eqb-true}
use Rattle.std.proofs.lemmas.Bool.{eqb-false}
use Rattle.refusal.specs.declared.Refusal.TheVariants as refusal
use Rattle.geometry.specs.Blocks.{geometry_of, words}
use Rattle.geometry.specs.Laws as laws
use Rattle.protection.specs.Words.{spare_zero}
use Rattle.semantics.specs.declared.State.{State}
use Rattle.semantics.specs.declared.Step.{Step}
use Rattle.semantics.specs.declared.Next.{Next}
use Rattle.semantics.specs.State.{geometry}
use Rattle.semantics.specs.Register.{reserved_zero}
use Rattle.semantics.specs.WellFormed.{well_formed, activity_formed, places_used, zero_from, runs_supplied}
use Rattle.semantics.specs.Steps.{step_of, array_of}
use Rattle.semantics.proofs.Refusals.{refusal_changes_nothing, refusal_1}
use Rattle.semantics.specs.Entries.{Entry}
use Rattle.semantics.specs.Recorder.{Operation, Event, journal_after}
use Rattle.semantics.specs.Tests.{and_true_l, and_true_r}
use Rattle.semantics.proofs.Engine.{busy, held?, Sim, rule_ok, sim_do}
use Rattle.semantics.proofs.Follows.{conditions, under_way, event_of}
use Rattle.semantics.proofs.Formed.{formed, own, formed_own}
use Rattle.semantics.proofs.Invariant.{Steps, Fit, Kept, steps, spared_step, state_good, kept_step, agree_fit}

-- the journal of what is under way alone, which a well-formed state agrees with
abbrev pub own_of : State → List (Entry Operation)
own_of s = own (geometry s) s.buffer s.control.activity.running s.control.activity.program s.control.activity.erase

pub formed_sim : (s : State) → well_formed s ≡ true → Sim (geometry s) (conditions s) (under_way s) (own_of s)
unfolding well_formed
formed_sim s w =
    formed_own (geometry s) s.buffer (laws.sound s.part) (conditions s) s.control.activity.setup s.control.activity.running s.control.activity.program s.control.activity.erase refl
    (and_true_l (activity_formed (geometry s) s.control.activity) _ w)

-- on an array of the part's length
keeps_good : (s : State) (xs : List ℕ) (x : Step) → length s.unprotected ≡ 5 → length s.buffer ≡ 32 → length xs ≡ words (geometry s) → well_formed s ≡ true → well_formed (step_of s xs x).state ≡ true
unfolding well_formed
keeps_good s xs x h b n w =
    rw (q, z, k.spare (and_true_l (spare_zero s.unprotected) _ rest), spared_step s xs (state_good s (length xs) n w) fit x (and_true_l used _ more), k.reserved (and_true_l clear _ last), k.powered (and_true_r clear _ last))
  where
    used : Bool
    used = zero_from (places_used s.control.activity) s.buffer

    clear : Bool
    clear = reserved_zero s.control.configuration

    rest : (spare_zero s.unprotected && (used && (clear && runs_supplied s.control))) ≡ true
    rest = and_true_r (activity_formed (geometry s) s.control.activity) _ w

    more : (used && (clear && runs_supplied s.control)) ≡ true
    more = and_true_r (spare_zero s.unprotected) _ rest

    last : (clear && runs_supplied s.control) ≡ true
    last = and_true_r used _ more

    i : Sim (geometry s) (conditions s) (under_way s) (own_of s)
    i = formed_sim s w

    fit : Fit s
    fit = agree_fit s (conditions s) (own_of s) h b i

    v : Event
    v = event_of (geometry s) s x

    t : State
    t = (step_of s xs x).state

    f : Steps v s xs t (array_of s xs x)
    f = steps s xs (state_good s (length xs) n w) fit x

    k : Kept s t
    k = kept_step s xs x h

    q : geometry t ≡ geometry s
    q = ap geometry_of k.part

    y : Sim (geometry s) (conditions t) (under_way t) (journal_after (geometry s) v (own_of s))
    y = subst₂ (λ d e. Sim (geometry s) d e (journal_after (geometry s) v (own_of s))) (sym f.0) (sym f.1)
        (sim_do (geometry s) (laws.sound s.part) (conditions s) (under_way s) (own_of s) v
        (rule_ok (geometry s) (laws.sound s.part) (conditions s) (busy (under_way s)) (held? (under_way s)) i.ready x) i)

    z : activity_formed (geometry s) t.control.activity ≡ true
    z = formed (geometry s) t.buffer (laws.sound s.part) (conditions t) t.control.activity.setup t.control.activity.running t.control.activity.program t.control.activity.erase (journal_after (geometry s) v (own_of s)) refl y

-- on any array: one of another length is refused, and the state given back
pub keeps : (s : State) (xs : List ℕ) (x : Step) → length s.unprotected ≡ 5 → length s.buffer ≡ 32 → well_formed s ≡ true → well_formed (step_of s xs x).state ≡ true
keeps s xs x h i w = go (eqb (length xs) (words (geometry s))) refl
  where
    go : (b : Bool) → eqb (length xs) (words (geometry s)) ≡ b → well_formed (step_of s xs x).state ≡ true
    go true e = keeps_good s xs x h i (eqb-true (length xs) (words (geometry s)) e) w
    go false e = ap (λ (n : Next). well_formed n.state) (refusal_changes_nothing s xs x refusal.ArrayLength (refusal_1 s (length xs) x (eqb-false _ _ e))).0 ∙ w
