-- The two branches of a test, and of an option. Laws. Assumes nothing.
use Rattle.std.specs.Prelude.{◌≡◌, refl, Bool, true, false, cond, Option, Some, None}
use Rattle.std.specs.Option.{option_map_or}

-- what holds of both branches holds of the choice between them
pub of_cond : {A : Type 0} (P : A → Type 0) (b : Bool) (x y : A) → P x → P y → P (cond b x y)
of_cond P true x y h k = h
of_cond P false x y h k = k

-- the same where each branch may use what the test came to
pub by_cond : {A : Type 0} (P : A → Type 0) (b : Bool) (x y : A) → (b ≡ true → P x) → (b ≡ false → P y) → P (cond b x y)
by_cond P true x y h k = h refl
by_cond P false x y h k = k refl

-- and of two choices by one test
pub by_cond₂ : {A B : Type 0} (R : A → B → Type 0) (b : Bool) (x y : A) (u v : B) → (b ≡ true → R x u)
    → (b ≡ false → R y v) → R (cond b x y) (cond b u v)
by_cond₂ R true x y u v h k = h refl
by_cond₂ R false x y u v h k = k refl

-- a test comes to one of the two
pub by_test : {P : Type 0} (b : Bool) → (b ≡ true → P) → (b ≡ false → P) → P
by_test true h k = h refl
by_test false h k = k refl

-- what holds where there is no value, and of what each value is made, holds of what is made of an option
pub of_option : {A B : Type 0} (P : B → Type 0) (o : Option A) (f : A → B) (x : B) → P x → ((y : A) → P (f y)) → P (option_map_or f o x)
of_option P None f x h k = h
of_option P (Some y) f x h k = k y

-- and of two things made of one option
pub of_option₂ : {A B C : Type 0} (R : B → C → Type 0) (o : Option A) (f : A → B) (x : B) (g : A → C) (z : C) → R x z
    → ((y : A) → R (f y) (g y)) → R (option_map_or f o x) (option_map_or g o z)
of_option₂ R None f x g z h k = h
of_option₂ R (Some y) f x g z h k = k y
