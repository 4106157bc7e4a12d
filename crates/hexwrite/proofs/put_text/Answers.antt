-- `hexwrite::put_text` meets its contract. The invariant: the first k sixteens are put, and `at` is the place after
-- them. Assumes nothing.
use Rattle.std.proofs.Common.{◌≡◌, ℕ, ◌*◌, ◌/◌, List, length, refl, sym, ◌∙◌, arith, length-append, length-drop}
use Rattle.std.specs.Iterator.Adapters.{enumerate_count}
use Rattle.printing.specs.Room.{placed_none}
use Rattle.intelhex.specs.Chunks.{counted_more, counted_none}
use Rattle.intelhex.specs.Text.{bytes_of, sixteens}
use Rattle.hexwrite.specs.Records.{placed_then}
use Rattle.hexwrite.specs.Texts.{plain_text, sixteens_more, sixteen_room, chunk_of, end_room}
use Rattle.hexwrite.proofs.put_text.Goals as goal

pub loop-k-init : goal.loop-k-init
unfolding sixteens
loop-k-init c =
    let k : enumerate_count c.into_iter-k-iterator.result ≡ 0 = rw c.into_iter-k-iterator.ensures.into_iter_gives c.enumerate-k-items.ensures.count in
    let source = rw (← c.into_iter-k-iterator.ensures.into_iter_gives) at c.enumerate-k-items.ensures.source in
    record {
      size = rw source c.chunks_exact.ensures.size;
      within = rw k (omega arith);
      rest = rw (source, k) c.chunks_exact.ensures.rest;
      same = refl;
      place = rw k;
      room = rw k (sym (placed_none _ 0));
    }

pub put_sixteen-at-requires-clause-room : goal.put_sixteen-at-requires-clause-room
put_sixteen-at-requires-clause-room c =
    let ws : List ℕ = c.args.array.now in
    let k : ℕ = c.in-Some.k in
    let inv = c.loop-k.invariant in
    let m = counted_more _ _ _ inv.size _ _ _ c.in-Some.is c.next.ensures.steps in
    let round = chunk_of ws _ _ k (rw (← m.1) at (sym inv.rest ∙ m.0.split)) m.0.many in
    let room = sixteen_room ws k (omega (arith, round.2)) in
    omega (arith, rw (← m.1) at inv.place, rw round.0 at room, inv.same, c.requires.room)

pub loop-k-preserved : goal.loop-k-preserved
loop-k-preserved c =
    let ws : List ℕ = c.args.array.now in
    let k : ℕ = c.in-Some.k in
    let inv = c.loop-k.invariant in
    let m = counted_more _ _ _ inv.size _ _ _ c.in-Some.is c.next.ensures.steps in
    let round = chunk_of ws _ _ k (rw (← m.1) at (sym inv.rest ∙ m.0.split)) m.0.many in
    let place = rw (← m.1) at inv.place in
    let more = sixteens_more (bytes_of ws) k in
    let room = sixteen_room ws k (omega (arith, round.2)) in
    let before = rw (← m.1) at inv.room in
    record {
      size = m.0.size;
      within = rw m.2 (omega (arith, round.2));
      rest = rw m.2 round.1;
      same = omega (arith, inv.same, c.put_sixteen-at.auto.text);
      place = rw m.2 (c.put_sixteen-at.ensures.value ∙ rw (more, length-append, round.0, place));
      room = rw m.2 (c.put_sixteen-at.ensures.text ∙ rw (more, round.0, before) (placed_then _ 0 _ _ (omega (arith, place)) (omega (arith, place, room, c.requires.room))));
    }

pub put_end-requires : goal.put_end-requires
put_end-requires c =
    let ws : List ℕ = c.args.array.now in
    let inv = c.loop-k.invariant in
    let few = counted_none _ _ _ inv.size _ c.in-None.is c.next.ensures.steps in
    let e : enumerate_count c.loop-k.k-iterator ≡ length ws / 8 = omega (arith, rw inv.rest at few, length-drop (8 * enumerate_count c.loop-k.k-iterator) ws, inv.within) in
    omega (arith, rw e at inv.place, end_room ws, inv.same, c.requires.room)

pub returns : goal.returns
unfolding plain_text
returns c =
    let ws : List ℕ = c.args.array.now in
    let inv = c.loop-k.invariant in
    let few = counted_none _ _ _ inv.size _ c.in-None.is c.next.ensures.steps in
    let e : enumerate_count c.loop-k.k-iterator ≡ length ws / 8 = omega (arith, rw inv.rest at few, length-drop (8 * enumerate_count c.loop-k.k-iterator) ws, inv.within) in
    let place = rw e at inv.place in
    let room = end_room ws in
    c.put_end.ensures ∙ rw (inv.room, e) (placed_then _ 0 _ _ (omega (arith, place)) (omega (arith, place, room, c.requires.room)))
