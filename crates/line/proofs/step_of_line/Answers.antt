-- `line::step_of_line`: by the letter of the line, and what its numbers are. The rest the check finds.
use Rattle.std.proofs.Common.{◌≡◌, ◌≤◌, length, ℕ, ◌-◌, List, get_or, arith, sym, ◌∙◌}
use Rattle.std.proofs.lemmas.Grind.{common_steps}
use Rattle.line.specs.Laws.{number_lt}
use Rattle.line.proofs.Parts.{number_part, read, write, work}
use Rattle.line.proofs.step_of_line.Goals as goal

pub returns-in-82 : goal.returns-in-82
returns-in-82 c =
    let xs : List ℕ = c.args.line.now in
    let b : get_or xs 0 0 ≡ 82 = grind arith in
    let s : get_or xs 1 0 ≡ 32 = grind arith in
    let l : length xs ≡ 8 = grind arith in
    let n = c.number-in-82.ensures ∙ number_part 16 xs 2 (length xs - 2) 6 (sym c.if-address-eq6-2.true) in
    let q = read xs s b l in
    let m = c.map-in-82.ensures.cases in
    grind (arith, common_steps, n, q, m)

pub returns-in-75-2 : goal.returns-in-75-2
returns-in-75-2 c =
    let xs : List ℕ = c.args.line.now in
    let b : get_or xs 0 0 ≡ 75 = grind arith in
    let s : get_or xs 1 0 ≡ 32 = grind arith in
    let l : 3 ≤ length xs = grind arith in
    let z : get_or xs 2 0 ≡ 48 → length xs ≡ 3 = λ e. grind arith in
    let n = c.number-in-75-2.ensures ∙ number_part 10 xs 2 (length xs - 2) (length xs - 2) (grind (arith, common_steps)) in
    let q = work xs s b l (grind arith) z in
    let m = c.map.ensures.cases in
    grind (arith, common_steps, n, q, m)

pub returns-in_err-address-in-87 : goal.returns-in_err-address-in-87
returns-in_err-address-in-87 c =
    let xs : List ℕ = c.args.line.now in
    let b : get_or xs 0 0 ≡ 87 = grind arith in
    let s : get_or xs 1 0 ≡ 32 = grind arith in
    let l : length xs ≡ 13 = grind arith in
    let t : get_or xs 8 0 ≡ 32 = grind arith in
    let n = c.in_err-address-in-87.ensures ∙ number_part 16 xs 2 (length xs - 5 - 2) 6 (sym c.if-address-eq6.true) in
    grind (arith, common_steps, n, write xs s b l t)

pub returns-in_err-number-in-87 : goal.returns-in_err-number-in-87
returns-in_err-number-in-87 c =
    let xs : List ℕ = c.args.line.now in
    let b : get_or xs 0 0 ≡ 87 = grind arith in
    let s : get_or xs 1 0 ≡ 32 = grind arith in
    let l : length xs ≡ 13 = grind arith in
    let t : get_or xs 8 0 ≡ 32 = grind arith in
    let n = c.in_err-number-in-87.ensures ∙ number_part 16 xs 9 (length xs - 9) 4 (grind (arith, common_steps, l)) in
    grind (arith, common_steps, n, write xs s b l t)

pub overflow_cast-result : goal.overflow_cast-result
overflow_cast-result c =
    let xs : List ℕ = c.args.line.now in
    let l : length xs ≡ 13 = grind arith in
    let n = c.in_ok-number-in-87.ensures ∙ number_part 16 xs 9 (length xs - 9) 4 (grind (arith, common_steps, l)) in
    grind (arith, common_steps, n, number_lt 16 xs 9 4)

pub returns-in_ok-number-in-87 : goal.returns-in_ok-number-in-87
returns-in_ok-number-in-87 c =
    let xs : List ℕ = c.args.line.now in
    let b : get_or xs 0 0 ≡ 87 = grind arith in
    let s : get_or xs 1 0 ≡ 32 = grind arith in
    let l : length xs ≡ 13 = grind arith in
    let t : get_or xs 8 0 ≡ 32 = grind arith in
    let m = c.in_ok-address-in-87.ensures ∙ number_part 16 xs 2 (length xs - 5 - 2) 6 (sym c.if-address-eq6.true) in
    let n = c.in_ok-number-in-87.ensures ∙ number_part 16 xs 9 (length xs - 9) 4 (grind (arith, common_steps, l)) in
    grind (arith, common_steps, m, n, write xs s b l t)
