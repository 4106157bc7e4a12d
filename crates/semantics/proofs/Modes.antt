-- Which writes change a mode, and whose.
-- Assumes nothing.
use Rattle.std.specs.Prelude.{◌≡◌, refl, List, [], ◌∷◌, ℕ, zero, suc, ◌%◌, set}
use Rattle.std.proofs.Common.{ap, ◌∙◌, get_or-set_other}
use Rattle.geometry.specs.Blocks.{location, bank_of}
use Rattle.protection.specs.Laws as protection
use Rattle.semantics.specs.declared.Setup.{Setup}
use Rattle.semantics.specs.declared.Setup.TheVariants as setup
use Rattle.semantics.specs.declared.Bank.{Bank}
use Rattle.semantics.specs.declared.Command.{Command}
use Rattle.semantics.specs.declared.State.{State}
use Rattle.semantics.specs.declared.Step.TheVariants.{Write}
use Rattle.semantics.specs.declared.Next.{Next}
use Rattle.semantics.specs.declared.Mode.{Mode}
use Rattle.semantics.specs.declared.Mode.TheVariants.{Array}
use Rattle.semantics.specs.declared.Place.{Place}
use Rattle.semantics.specs.declared.View.{View}
use Rattle.semantics.specs.State.{geometry, mode_in, mode_of}
use Rattle.semantics.specs.View.{place_of, view_at, with_view}
use Rattle.semantics.specs.Writing.{command_of, first_cycle, cycle, written_at, written}
use Rattle.semantics.specs.Cycles.{ChangesMode}
use Rattle.semantics.proofs.Cycles.{of_first}
use Rattle.semantics.specs.Steps.{accepted, step_of}
use Rattle.semantics.proofs.Refusals.{of_step}

-- "the addressed bank's mode becomes ..", "puts the bank of its own address in status mode": a write changes no mode but that of the addressed bank
pub modes_stay : (s : State) (xs : List ℕ) (a w k : ℕ) → (k ≡ bank_of (geometry s) (location (geometry s) a) → ⊥) → mode_of (step_of s xs (Write a w)).state k ≡ mode_of s k
unfolding accepted written written_at
modes_stay s xs a w k n =
    of_step (λ (y : Next). mode_of y.state k ≡ mode_of s k) s xs (Write a w)
    (ap (λ (b : Bank). b.mode) (get_or-set_other s.banks (bank_of (geometry s) (location (geometry s) a)) k _ (record { mode = Array }) n)) (λ e r. refl)

mode_first : (v : View) (p : Place) (c : Command) → (ChangesMode v.control.activity c → ⊥) → (first_cycle v p c).mode ≡ v.mode
mode_first v p c n =
    of_first (λ (x : View). x.mode ≡ v.mode) v p c
    (record { modes = λ i m. absurd (n i); suspends = λ i. refl; resumes = λ i r t. refl; ends = λ i r t. refl; clears = λ i r. refl; sets_up = λ i x z. absurd (n i); stays = refl })

-- a bank that is given the mode that it has
bank_same : (l : List Bank) (k : ℕ) → set l k (record { mode = mode_in l k }) ≡ l
bank_same [] k = refl
bank_same (x ∷ l) zero = refl
bank_same (x ∷ l) (suc k) = ap (λ (t : List Bank). x ∷ t) (bank_same l k)

-- a view that is put back as it was changes nothing
pub view_back : (s : State) (p : Place) → with_view s p (view_at s p) ≡ s
view_back s p = rw (bank_same s.banks p.bank, protection.with_own_block s.unprotected p.block)

-- "no other write but FFh, 70h, 90h and 98h changes a mode": with no set-up pending, B0h, D0h, 50h, a set-up that is not accepted and any other command change none
pub modes_all_stay : (s : State) (xs : List ℕ) (a w : ℕ) → s.control.activity.setup ≡ setup.Nothing → (ChangesMode s.control.activity (command_of (w % 256)) → ⊥)
    → (step_of s xs (Write a w)).state.banks ≡ s.banks
unfolding accepted written written_at cycle
modes_all_stay s xs a w e n =
    of_step (λ (y : Next). y.state.banks ≡ s.banks) s xs (Write a w)
    (ap (λ (m : Mode). set s.banks p.bank (record { mode = m })) (ap (λ (c : Setup). (cycle (geometry s) (view_at s p) c p w).mode) e ∙ mode_first (view_at s p) p (command_of (w % 256)) n)
    ∙ bank_same s.banks p.bank) (λ d r. refl)
  where
    p : Place
    p = place_of (geometry s) a
