-- A state that is a parameter fits its types, by what a function is told of it. Each path goes to a field, in the order
-- of the declaration. Assumes nothing.
use Rattle.std.specs.Prelude.{Option, Some, None}
use mathlib.Core.List.{List}
use mir.Syntax.{w16}
use mir.Val.{Val}
use denote.Laws.{Is}
use denote.Struct.Declared.{row}
use denote.Enum.Declared as enum
use borrow.Author.Rules.{elem_Fits}
use Rattle.std.specs.contracts.option.Option as option
use Rattle.semantics.specs.contracts.Setup as setup_type
use Rattle.semantics.specs.contracts.Running as running_type
use Rattle.semantics.specs.contracts.SuspendedProgram as program_type
use Rattle.semantics.specs.contracts.SuspendedErase as erase_type
use Rattle.semantics.specs.contracts.State as state_type
use Rattle.semantics.specs.declared.Setup.{Setup}
use Rattle.semantics.specs.declared.Setup.TheVariants as setup
use Rattle.semantics.specs.declared.Running.{Running}
use Rattle.semantics.specs.declared.Running.TheVariants as running
use Rattle.semantics.specs.declared.SuspendedProgram.{SuspendedProgram}
use Rattle.semantics.specs.declared.SuspendedProgram.TheVariants as program
use Rattle.semantics.specs.declared.SuspendedErase.{SuspendedErase}
use Rattle.semantics.specs.declared.State.{State}
use Rattle.saved.specs.Laws.{SetupFitting, RunningFitting, ProgramFitting, EraseFitting, Fitting}

setup_fits_lem : (r : Setup) (vs : List Val) → Is (enum.row setup_type.the_type) r vs → SetupFitting r
setup_fits_lem setup.Nothing vs p = tt
setup_fits_lem setup.Program vs p = tt
setup_fits_lem setup.Erase vs p = tt
setup_fits_lem setup.Lock vs p = tt
setup_fits_lem (setup.BufferCount b) vs p = p.1.1.1.1.0.1
setup_fits_lem (setup.BufferFirst b n) vs p = let q = p.1.1.1.1 in (q.0.1, q.1.0.1)
setup_fits_lem (setup.BufferWords l n k) vs p = let q = p.1.1.1.1 in (q.0.1, q.1.0.1, q.1.1.0.1)

running_fits_lem : (r : Running) (vs : List Val) → Is (enum.row running_type.the_type) r vs → RunningFitting r
running_fits_lem running.Idle vs p = tt
running_fits_lem (running.Program l w) vs p = let q = p.1.1.1.1 in (q.0.1, q.1.0.1)
running_fits_lem (running.Erase b n) vs p = let q = p.1.1.1.1 in (q.0.1, q.1.0.1)
running_fits_lem (running.Buffer l n d) vs p = let q = p.1.1.1.1 in (q.0.1, q.1.0.1, q.1.1.0.1)

program_fits_lem : (r : SuspendedProgram) (vs : List Val) → Is (enum.row program_type.the_type) r vs → ProgramFitting r
program_fits_lem program.Nothing vs p = tt
program_fits_lem (program.Program l w) vs p = let q = p.1.1.1.1 in (q.0.1, q.1.0.1)
program_fits_lem (program.Buffer l n d) vs p = let q = p.1.1.1.1 in (q.0.1, q.1.0.1, q.1.1.0.1)

erase_fits_lem : (r : Option SuspendedErase) (vs : List Val) → Is (option.the_row (row erase_type.the_type)) r vs → EraseFitting r
erase_fits_lem None vs p = tt
erase_fits_lem (Some e) vs p = let q = p.1.1.1.1.0.1.1 in (q.0.1, q.1.0.1)

pub fits : (s : State) (vs : List Val) → Is (row state_type.the_type) s vs → Fitting s
fits s vs p =
    let q = p.1.1 in
    let k = q.1.1.1.0.1.1 in
    let a = k.0.1.1 in
    let b = q.1.1.1.1.0 in
    record {
      banks = q.1.0.1.0.1;
      setup = setup_fits_lem s.control.activity.setup _ a.0;
      running = running_fits_lem s.control.activity.running _ a.1.0;
      program = program_fits_lem s.control.activity.program _ a.1.1.0;
      erase = erase_fits_lem s.control.activity.erase _ a.1.1.1.0;
      unprotected = q.1.1.0.1.0.1;
      configuration = k.1.1.0.1;
      places = b.1.0.1;
      buffer = λ i. (elem_Fits w16 w16 s.buffer b.0 i b.1.1 tt).fits;
    }
