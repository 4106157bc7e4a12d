-- `geometry::look_up` meets its contract: by the tests that led to each return, and what the functions it calls ensure.
-- Assumes nothing.
use native.Mathlib.Omega.{arith}
use Rattle.std.proofs.lemmas.Bool.Decides.{nat_tests}
use Rattle.geometry.specs.Blocks.{lookup_of}
use Rattle.geometry.proofs.look_up.Goals as goal

pub returns-then-address-ge16777216-clause-value : goal.returns-then-address-ge16777216-clause-value
unfolding lookup_of
returns-then-address-ge16777216-clause-value c = grind (arith, nat_tests)

pub returns-in_err-p-clause-value : goal.returns-in_err-p-clause-value
unfolding lookup_of
returns-in_err-p-clause-value c = grind (arith, nat_tests)

pub returns-clause-value : goal.returns-clause-value
unfolding lookup_of
returns-clause-value c = grind (arith, nat_tests)
