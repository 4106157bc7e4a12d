-- `Lent::play_lines`: a turn of the loop plays the line at the reader's place, and goes on after it.
use Rattle.std.proofs.Common.{◌≡◌, ◌<◌, refl, ap, ℕ, length, arith}
use Rattle.lines.specs.Lines.{next_later}
use Rattle.script.specs.Lent.{same_none, same_then}
use Rattle.script.proofs.Laws.{sofar_none, sofar_next, sofar_end}
use Rattle.script.proofs.Lent.play_lines.Goals as goal

pub loop-reader-init : goal.loop-reader-init
loop-reader-init c = (refl, same_none _, sofar_none _ _ _ _ _ c.requires)

pub loop-reader-smaller : goal.loop-reader-smaller
loop-reader-smaller c =
    let later = next_later c.loop-reader.reader.text.now c.loop-reader.reader.at c.loop-reader-test.true in
    omega (arith, c.play_next-p.ensures.played.next, later.0, later.1)

pub loop-reader-preserved : goal.loop-reader-preserved
loop-reader-preserved c =
    let e : c.loop-reader.reader.text.now ≡ c.args.script.now = c.loop-reader.invariant.0 in
    let less : c.loop-reader.reader.at < length c.args.script.now = omega (arith, ap (length {A = ℕ}) e, c.loop-reader-test.true) in (
      e,
      same_then c.loop-reader.invariant.1 c.play_next-p.ensures.same,
      sofar_next _ _ _ _ _ _ _ _ c.loop-reader.invariant.2 _ _ _ _ less (rw e at c.play_next-p.ensures.played),
    )

pub returns-clause-played : goal.returns-clause-played
returns-clause-played c = sofar_end _ _ _ _ _ _ _ _ c.loop-reader.invariant.2 (omega (arith, ap (length {A = ℕ}) c.loop-reader.invariant.0, c.loop-reader-test.false))
