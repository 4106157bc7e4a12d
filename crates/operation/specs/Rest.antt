-- A device on which nothing runs, is suspended or is loaded: what is under way is then well formed, and no place of the
-- buffer is in use. And what runs in no bank, as nothing runs. Assumes nothing.
use Rattle.std.specs.Prelude.{ℕ, Bool, true, false, not, ◌&&◌, ◌≡◌, refl, Option, Some, None}
use Rattle.std.proofs.Common.{true≢false, ap, ◌∙◌}
use Rattle.std.proofs.lemmas.Bool.{false≢true}
use Rattle.geometry.specs.declared.Geometry.{Geometry}
use Rattle.semantics.specs.declared.Setup.{Setup}
use Rattle.semantics.specs.declared.Setup.TheVariants as setup
use Rattle.semantics.specs.declared.Running.{Running}
use Rattle.semantics.specs.declared.Running.TheVariants as running
use Rattle.semantics.specs.declared.SuspendedProgram.{SuspendedProgram}
use Rattle.semantics.specs.declared.SuspendedProgram.TheVariants as program
use Rattle.semantics.specs.declared.SuspendedErase.{SuspendedErase}
use Rattle.semantics.specs.declared.Activity.{Activity}
use Rattle.semantics.specs.State.{activity, runs, program_suspended, erase_suspended}
use Rattle.semantics.specs.Reading.{runs_in}
use Rattle.semantics.specs.WellFormed.{running_alone, program_alone, erase_alone, setup_fits, running_fits, program_fits}
use Rattle.semantics.specs.WellFormed.{suspended_erase_fits, all_fit, running_apart, program_apart, apart, activity_formed}
use Rattle.semantics.specs.WellFormed.{setup_places, running_places, program_places, places_used}

-- a load stands
abbrev pub is_load : Setup → Bool
is_load setup.Nothing = false
is_load setup.Program = false
is_load setup.Erase = false
is_load setup.Lock = false
is_load (setup.BufferCount b) = true
is_load (setup.BufferFirst b n) = true
is_load (setup.BufferWords l n k) = true

-- a set-up of two cycles may be pending
abbrev pub at_rest : Activity → Bool
at_rest a =
    not (is_load a.setup) &&
    (not (runs a.running) && (not (program_suspended a.program) && not (erase_suspended a.erase)))

-- ---- what that comes to, field by field

split : (a b : Bool) → (not a && b) ≡ true → (a ≡ false) × (b ≡ true)
split true b h = absurd (false≢true h)
split false b h = (refl, h)

idle : (r : Running) → runs r ≡ false → r ≡ running.Idle
idle running.Idle h = refl
idle (running.Program l w) h = absurd (true≢false h)
idle (running.Erase b n) h = absurd (true≢false h)
idle (running.Buffer l n d) h = absurd (true≢false h)

pub runs_nowhere : (g : Geometry) (r : Running) (k : ℕ) → runs r ≡ false → runs_in g r k ≡ false
unfolding runs_in
runs_nowhere g r k h = rw (idle r h)

no_program : (p : SuspendedProgram) → program_suspended p ≡ false → p ≡ program.Nothing
no_program program.Nothing h = refl
no_program (program.Program l w) h = absurd (true≢false h)
no_program (program.Buffer l n d) h = absurd (true≢false h)

no_erase : (e : Option SuspendedErase) → not (erase_suspended e) ≡ true → e ≡ None
no_erase None h = refl
no_erase (Some e) h = absurd (false≢true h)

abbrev resting : Setup → Activity
resting s = activity s running.Idle program.Nothing None

rest : (a : Activity) → at_rest a ≡ true → (is_load a.setup ≡ false) × (a ≡ resting a.setup)
rest a h =
    let x = split (is_load a.setup) _ h in
    let y = split (runs a.running) _ x.1 in
    let z = split (program_suspended a.program) _ y.1 in
    let r = idle a.running y.0 in
    let p = no_program a.program z.0 in
    let e = no_erase a.erase z.1 in
    (x.0, λ j. activity a.setup (r j) (p j) (e j))

pub at_rest_idle : (a : Activity) → at_rest a ≡ true → runs a.running ≡ false
at_rest_idle a h = (split (runs a.running) _ (split (is_load a.setup) _ h).1).0

-- ---- it is well formed, and uses no place

-- four set-ups are no load
unloaded : (P : Setup → Type 0) → P setup.Nothing → P setup.Program → P setup.Erase → P setup.Lock → (s : Setup) →
    is_load s ≡ false → P s
unloaded P n p e l setup.Nothing h = n
unloaded P n p e l setup.Program h = p
unloaded P n p e l setup.Erase h = e
unloaded P n p e l setup.Lock h = l
unloaded P n p e l (setup.BufferCount b) h = absurd (true≢false h)
unloaded P n p e l (setup.BufferFirst b w) h = absurd (true≢false h)
unloaded P n p e l (setup.BufferWords f w k) h = absurd (true≢false h)

pub at_rest_formed : (g : Geometry) (a : Activity) → at_rest a ≡ true → activity_formed g a ≡ true
unfolding activity_formed running_alone program_alone erase_alone all_fit setup_fits running_fits program_fits suspended_erase_fits apart running_apart program_apart
at_rest_formed g a h =
    let x = rest a h in
    ap (activity_formed g) x.1 ∙
    unloaded (λ s. activity_formed g (resting s) ≡ true) refl refl refl refl a.setup x.0

pub at_rest_unused : (a : Activity) → at_rest a ≡ true → places_used a ≡ 0
unfolding places_used setup_places running_places program_places
at_rest_unused a h =
    let x = rest a h in
    ap places_used x.1 ∙ unloaded (λ s. places_used (resting s) ≡ 0) refl refl refl refl a.setup x.0
