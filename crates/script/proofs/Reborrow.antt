-- A `&mut [T]` of n elements, or a `&mut T`, is reborrowed for the lifetime of one call, and is whole again after it: two steps of a walk for each. The library's `sl_relend` and
-- `sl_relent_backˡ`, and `ref_relend` and `ref_relent_back`, do it for what the reference owns apart from its value. The steps here put the value beside that, and begin and end the lifetime.
-- Assumes `Logic`.
use mathlib.Core.Path.{◌≡◌, refl, sym, ap, ◌∙◌}
use Prim.Native.Nat.{ℕ}
use mathlib.Core.List.{List, [], ◌∷◌}
use lib.ListN.{length}
use seplogic.Ra.Ura.{Ura}
use base.Fraction.{full_share}
use mir.Syntax.{Lifetime, erased}
use mir.Val.{Val, vptr}
use base.Fml.{Lft, GName, Share, Fml, flft, fres}
use types.Logic.{Logic}
use types.Kit.{Goal, Soaks, Item, Seq, Step, ‵, ◌⊛◌, given, some, later, step, ◌$◌, move, use2, use3, split, pick, learn, drop, fsplit, fjoin, feq_i, await}
use types.Tokens.{lft_new, lft_end}
use denote.RattleType.{RattleType}
use denote.Ref.{MutBor, MutRef}
use denote.Slice.{slice_val, MutSlice, finally}
use borrow.Table.Owned as owned
use borrow.Table.Own.{kept_r}
use borrow.Rule.Reborrow.{ref_relend, ref_relent_back}
use borrow.Rule.Slice.Lend.{kept_f, sl_relend, sl_relent_backˡ}

module _ (R : RattleType) (b o : ℕ) where
  abbrev slice : GName → List R.Denot → MutBor (List R.Denot)
  slice γ xs = record { ref_ptr = (b, o); ghost_name = γ; now = xs }

  -- what the reference at (b, o) owns: with the value that a local holds of it, and without
  abbrev pub Valued : Lifetime → ℕ → Lft → GName → List R.Denot → Fml
  Valued ℓ n κ γ xs = (MutSlice ℓ κ R).own_val (slice γ xs) (slice_val (b, o) n ∷ [])

  abbrev Bare : Lft → GName → List R.Denot → Fml
  Bare κ γ xs = (owned.MutSlice erased κ R).own_val (slice γ xs)

module _ {M : Type 1} {𝓤 : Ura M} {𝓛 : Logic 𝓤} {K : Type 0} {Γ : List (Item 𝓤)} {G : Goal 𝓤 𝓛.H} where
  value : K → (R : RattleType) (b o : ℕ) (ℓ : Lifetime) (n : ℕ) {κ : Lft} (γ : GName) (xs : List R.Denot) → length xs ≡ n → Step K 𝓛 (‵ (Valued R b o ℓ n κ γ xs) ∷ Γ) G (‵ (Bare R b o κ γ xs) ∷ Γ) G
  value t R b o ℓ n γ xs e = step (λ s. fsplit t $ feq_i t (List Val) (slice_val (b, o) n ∷ []) (slice_val (b, o) (length xs) ∷ []) (ap (λ (m : ℕ). slice_val (b, o) m ∷ []) (sym e)) $ fjoin t $ fjoin t $ s)

module _ {M : Type 1} {𝓤 : Ura M} {𝓛 : Logic 𝓤} {K : Type 0} {Γ : List (Item 𝓤)} {G : Goal 𝓤 𝓛.H} where
  -- the reborrow has a lifetime ν and a name δ of its own; the borrow it is made from waits in `kept_f`
  pub reborrows : K → Soaks G → (R : RattleType) (b o : ℕ) (ℓ : Lifetime) (n : ℕ) {κ : Lft} {q : Share} (γ : GName) (xs : List R.Denot) → length xs ≡ n
      → ((ν : ℕ) (δ : GName) → Seq K 𝓛 (‵ (Valued R b o ℓ n (ν ∷ []) δ xs) ∷ ‵ (flft (ν ∷ []) full_share) ∷ kept_f 𝓛 R κ q (ν ∷ []) γ δ xs b o ∷ Γ) G)
      → Seq K 𝓛 (‵ (Valued R b o ℓ n κ γ xs) ∷ ‵ (flft κ q) ∷ Γ) G
  reborrows t z R b o ℓ n {κ} {q} γ xs e k = fsplit t $ fsplit t $ drop t $ fjoin t $ lft_new t z (λ ν. move t (1 ∷ 2 ∷ []) $
      use2 𝓛 (later (some (λ (δ : GName). ‵ (Bare R b o (ν ∷ []) δ xs) ⊛ kept_f 𝓛 R κ q (ν ∷ []) γ δ xs b o))) (sl_relend 𝓛 R κ q (ν ∷ []) b o γ xs) $ await t z $ pick t (λ δ. split t $
      value t R b o ℓ n δ xs e $ move t (0 ∷ 2 ∷ []) $ k ν δ))

  -- the call has left zs, which are as many
  pub restores : K → Soaks G → (R : RattleType) (b o : ℕ) (ℓ : Lifetime) (n : ℕ) {κ : Lft} {q : Share} (γ : GName) (xs : List R.Denot) → length xs ≡ n → (ν : ℕ) (δ : GName) (zs : List R.Denot)
      → (length zs ≡ length xs → Seq K 𝓛 (‵ (Valued R b o ℓ n κ γ zs) ∷ ‵ (flft κ q) ∷ Γ) G)
      → Seq K 𝓛 (‵ (flft (ν ∷ []) full_share) ∷ kept_f 𝓛 R κ q (ν ∷ []) γ δ xs b o ∷ ‵ (finally R δ zs) ∷ Γ) G
  restores t z R b o ℓ n {κ} {q} γ xs e ν δ zs k = lft_end t z $
      use3 𝓛 (later (given (length zs ≡ length xs) (‵ (Bare R b o κ γ zs) ⊛ ‵ (flft κ q)))) (sl_relent_backˡ 𝓛 R κ q (ν ∷ []) b o γ δ xs zs) $ await t z $ learn t (λ same. split t $
      value t R b o ℓ n γ zs (same ∙ e) $ k same)

-- ---- the same of a reference to one value, which has no length

module _ (R : RattleType) (b o : ℕ) where
  abbrev one : GName → R.Denot → MutBor R.Denot
  one γ x = record { ref_ptr = (b, o); ghost_name = γ; now = x }

  abbrev pub Pointed : Lifetime → Lft → GName → R.Denot → Fml
  Pointed ℓ κ γ x = (MutRef ℓ κ R).own_val (one γ x) (vptr b o ∷ [])

  abbrev Unpointed : Lft → GName → R.Denot → Fml
  Unpointed κ γ x = (owned.MutRef erased κ R).own_val (one γ x)

module _ {M : Type 1} {𝓤 : Ura M} {𝓛 : Logic 𝓤} {K : Type 0} {Γ : List (Item 𝓤)} {G : Goal 𝓤 𝓛.H} where
  pointer : K → (R : RattleType) (b o : ℕ) (ℓ : Lifetime) {κ : Lft} (γ : GName) (x : R.Denot) → Step K 𝓛 (‵ (Pointed R b o ℓ κ γ x) ∷ Γ) G (‵ (Unpointed R b o κ γ x) ∷ Γ) G
  pointer t R b o ℓ γ x = step (λ s. feq_i t (List Val) (vptr b o ∷ []) (vptr b o ∷ []) refl $ fjoin t $ s)

module _ {M : Type 1} {𝓤 : Ura M} {𝓛 : Logic 𝓤} {K : Type 0} {Γ : List (Item 𝓤)} {G : Goal 𝓤 𝓛.H} where
  pub reborrows_one : K → Soaks G → (R : RattleType) (b o : ℕ) (ℓ : Lifetime) {κ : Lft} {q : Share} (γ : GName) (x : R.Denot)
      → ((ν : ℕ) (δ : GName) → Seq K 𝓛 (‵ (Pointed R b o ℓ (ν ∷ []) δ x) ∷ ‵ (flft (ν ∷ []) full_share) ∷ kept_r 𝓛 R κ q (ν ∷ []) γ δ x b o ∷ Γ) G)
      → Seq K 𝓛 (‵ (Pointed R b o ℓ κ γ x) ∷ ‵ (flft κ q) ∷ Γ) G
  reborrows_one t z R b o ℓ {κ} {q} γ x k = fsplit t $ drop t $ lft_new t z (λ ν. move t (1 ∷ 2 ∷ []) $
      use2 𝓛 (later (some (λ (δ : GName). ‵ (Unpointed R b o (ν ∷ []) δ x) ⊛ kept_r 𝓛 R κ q (ν ∷ []) γ δ x b o))) (ref_relend 𝓛 R κ q (ν ∷ []) b o γ x) $ await t z $ pick t (λ δ. split t $
      pointer t R b o ℓ δ x $ move t (0 ∷ 2 ∷ []) $ k ν δ))

  pub restores_one : K → Soaks G → (R : RattleType) (b o : ℕ) (ℓ : Lifetime) {κ : Lft} {q : Share} (γ : GName) (x : R.Denot) (ν : ℕ) (δ : GName) (y : R.Denot)
      → Seq K 𝓛 (‵ (Pointed R b o ℓ κ γ y) ∷ ‵ (flft κ q) ∷ Γ) G
      → Seq K 𝓛 (‵ (flft (ν ∷ []) full_share) ∷ kept_r 𝓛 R κ q (ν ∷ []) γ δ x b o ∷ ‵ (fres δ (R.coded.code y)) ∷ Γ) G
  restores_one t z R b o ℓ {κ} {q} γ x ν δ y k = lft_end t z $
      use3 𝓛 (later (‵ (Unpointed R b o κ γ y) ⊛ ‵ (flft κ q))) (ref_relent_back 𝓛 R κ q (ν ∷ []) b o γ δ x y) $ await t z $ split t $ pointer t R b o ℓ γ y $ k
