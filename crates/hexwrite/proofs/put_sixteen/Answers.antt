-- `hexwrite::put_sixteen` meets its contract: by whether 65,536 bytes begin there. Assumes nothing.
use Rattle.std.proofs.Common.{arith}
use Rattle.hexwrite.specs.Texts.{first_put, other_put, first_length, other_length}
use Rattle.hexwrite.proofs.put_sixteen.Goals as goal

pub put_upper-next-requires : goal.put_upper-next-requires
put_upper-next-requires c = omega (arith, first_length c.args.words.now c.args.k c.requires.eight (omega arith))

pub put_data-requires-clause-room : goal.put_data-requires-clause-room
put_data-requires-clause-room c = omega (arith, first_length c.args.words.now c.args.k c.requires.eight (omega arith))

pub put_data-requires-else-offset-eq0-clause-room : goal.put_data-requires-else-offset-eq0-clause-room
put_data-requires-else-offset-eq0-clause-room c = omega (arith, other_length c.args.words.now c.args.k c.requires.eight (λ z. omega arith))

pub returns-then-offset-eq0-clause-value : goal.returns-then-offset-eq0-clause-value
returns-then-offset-eq0-clause-value c = omega (arith, first_length c.args.words.now c.args.k c.requires.eight (omega arith))

pub returns-then-offset-eq0-clause-text : goal.returns-then-offset-eq0-clause-text
returns-then-offset-eq0-clause-text c =
    let long = first_length c.args.words.now c.args.k c.requires.eight (omega arith) in
    first_put _ _ _ _ _ (omega arith) c.put_upper-next.ensures.text c.put_upper-next.ensures.value c.put_data.ensures.text (omega arith)

pub returns-else-offset-eq0-clause-value : goal.returns-else-offset-eq0-clause-value
returns-else-offset-eq0-clause-value c = omega (arith, other_length c.args.words.now c.args.k c.requires.eight (λ z. omega arith))

pub returns-else-offset-eq0-clause-text : goal.returns-else-offset-eq0-clause-text
returns-else-offset-eq0-clause-text c = other_put _ _ _ _ (λ z. omega arith) c.put_data-else-offset-eq0.ensures.text
