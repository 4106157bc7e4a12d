-- `printing::put_decimal` meets its contract: the laws of the decimal digits give each return.
use Rattle.std.proofs.Common.{◌≡◌, ℕ, ◌%◌, arith}
use Rattle.printing.specs.Text.{decimal_one, decimal_more}
use Rattle.printing.specs.Room.{put_then}
use Rattle.printing.proofs.+put_decimal.Goals as goal

pub returns-then-n-lt10 : goal.returns-then-n-lt10
returns-then-n-lt10 t c =
    let n : ℕ = c.args.n in
    let e : n % 16 ≡ n = omega arith in
    rw (decimal_one n (omega arith)) (rw e at c.put_digit.ensures)

pub returns-else-n-lt10 : goal.returns-else-n-lt10
returns-else-n-lt10 t c =
    let n : ℕ = c.args.n in
    let e : n % 10 % 16 ≡ n % 10 = omega arith in
    rw (decimal_more n (omega arith) (omega arith)) (rw e at (put_then c.put_decimal-next.ensures c.put_digit-else-n-lt10.ensures))
