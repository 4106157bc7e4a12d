-- `printing::put_decimal` calls itself at n / 10: the measure is n.
use Rattle.printing.proofs.+put_decimal.Given as goal

abbrev pub decreases-put_decimal : goal.decreases-put_decimal
decreases-put_decimal l = l.n
