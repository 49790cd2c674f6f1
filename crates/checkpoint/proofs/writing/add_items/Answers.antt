use Rattle.std.proofs.Common.{◌∙◌, refl, arith}
use Rattle.checkpoint.specs.Files.{spool}
use Rattle.checkpoint.proofs.Laying.{passes_on, rests}
use Rattle.checkpoint.proofs.Spooling.{adds_none, begun_on, items_all, items_more}
use Rattle.checkpoint.proofs.writing.add_items.Goals as goal

pub loop-item-init : goal.loop-item-init
loop-item-init g c =
    let law = g.met.D.Disk.reads_are_left in
    record {
      so_far = rests c.args.number (spool (g.D.Disk.told c.args.disk.now) c.args.at c.args.buffer.now.items) (λ t is. law c.args.disk.now t is) c.requires.begun;
      room = omega arith;
      later = refl;
      adds = adds_none c.args.number (spool (g.D.Disk.told c.args.disk.now) c.args.at c.args.buffer.now.items);
    }

pub add_item-requires-clause-begun : goal.add_item-requires-clause-begun
add_item-requires-clause-begun g c = begun_on c.args.number _ _ _ _ c.loop-item.invariant.so_far c.loop-item.invariant.adds c.requires.begun

pub returns-in_err-place-clause-any_moment : goal.returns-in_err-place-clause-any_moment
returns-in_err-place-clause-any_moment g c = passes_on c.args.number 0 0 0 _ _ _ (omega arith) c.loop-item.invariant.so_far c.add_item.ensures.any_moment

pub loop-item-preserved : goal.loop-item-preserved
loop-item-preserved g c = record {
  so_far = passes_on c.args.number 0 0 0 _ _ _ (omega arith) c.loop-item.invariant.so_far c.add_item.ensures.any_moment;
  room = omega (arith, c.loop-item.invariant.room, c.add_item.ensures.room);
  later = c.in_ok-place.ensures.cause.well ∙ c.loop-item.invariant.later;
  adds = items_more c.args.number c.loop-item.item-index _ _ _ g.I.Item.bytes c.args.items.now c.item-item.result c.item-item.is c.loop-item-test.true c.loop-item.invariant.adds c.in_ok-place.ensures.added;
}

pub returns-clause-added : goal.returns-clause-added
returns-clause-added g c = items_all c.args.number c.loop-item.item-index _ _ g.I.Item.bytes c.args.items.now (omega (arith, c.loop-item-test.false)) c.loop-item.invariant.adds
