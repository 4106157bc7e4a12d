-- `hexwrite::write` meets its contract: by its two tests. Assumes nothing.
use Rattle.std.proofs.Common.{◌∙◌, arith}
use Rattle.hexwrite.specs.Texts.{refused_length, refused_room, whole_text, plain_length}
use Rattle.hexwrite.proofs.write.Goals as goal

pub returns-then-array-length_of : goal.returns-then-array-length_of
returns-then-array-length_of c =
    let t = refused_length c.args.part c.args.array.now c.args.text.now (λ e. omega arith) in
    record { value = t.0; text = t.1 }

pub returns-then-text-length : goal.returns-then-text-length
returns-then-text-length c =
    let t = refused_room c.args.part c.args.array.now c.args.text.now (omega arith) (omega arith) in
    record { value = t.0; text = t.1 }

pub put_text-requires-clause-room : goal.put_text-requires-clause-room
put_text-requires-clause-room c = omega (arith, plain_length c.args.part c.args.array.now (omega arith))

pub returns : goal.returns
returns c =
    let a = c.args in
    let t = whole_text a.part a.array.now a.text.now (omega arith) (omega arith) in
    record { value = rw c.text_length-length.ensures t.0; text = c.put_text.ensures ∙ t.1 }
