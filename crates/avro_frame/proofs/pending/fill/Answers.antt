use Rattle.std.proofs.Common.{◌≡◌, ◌∙◌, ◌+◌, ◌-◌, ◌<◌, length, take, drop, refl, ap, arith, length-append, length-drop}
use Rattle.std.proofs.lemmas.List.{length-take}
use Rattle.avro_frame.specs.Pending.{IsAt}
use Rattle.avro_frame.proofs.Walk.{advance, part_of, behind_of, goes_on, found_of, piece_more}
use Rattle.avro_frame.proofs.pending.fill.Goals as goal

pub returns-then-rest-room-clause-found : goal.returns-then-rest-room-clause-found
returns-then-rest-room-clause-found c =
    let more = take (length c.args.piece.now - c.steps.taken) (drop c.steps.taken c.args.piece.now) in
    let grown : length c.put.new.held.items ≡ length c.steps.held.items + length more = ap length c.put.ensures.items ∙ length-append c.steps.held.items more in
    let short : length c.put.new.held.items < c.steps.cursor.need = omega arith in
    let here : IsAt c.put.new.held.items c.steps.cursor = rw c.put.ensures.items (advance c.steps.held.items more c.steps.cursor.need c.steps.cursor.sum c.steps.cursor.due c.steps.invariant.here (omega arith)) in
    (refl, here, behind_of c.put.new.held.items c.steps.cursor.need c.steps.cursor.due short, part_of c.put.new.held.items c.steps.cursor.need c.steps.cursor.sum c.steps.cursor.due here short)

pub steps-preserved : goal.steps-preserved
steps-preserved c =
    let on = goes_on c.deref.result.now c.steps.cursor.due c.read_number.new.cursor c.in-More.ensures in
    record {
      here = rw c.deref.ensures.value at on.0;
      behind = rw c.deref.ensures.value at on.1;
      room = omega (arith, length-take (c.steps.cursor.need - c.len.result) (take (length c.args.piece.now - c.steps.taken) (drop c.steps.taken c.args.piece.now)), length-take (length c.args.piece.now - c.steps.taken) (drop c.steps.taken c.args.piece.now), length-drop c.steps.taken c.args.piece.now);
      within = omega arith;
      items = piece_more c.args.held.now.items c.steps.held.items c.put-in-steps.new.held.items c.args.piece.now c.steps.taken (c.steps.cursor.need - c.len.result) (omega arith) c.steps.invariant.items c.put-in-steps.ensures.items;
    }

pub returns-in_default-clause-items : goal.returns-in_default-clause-items
returns-in_default-clause-items c =
    piece_more c.args.held.now.items c.steps.held.items c.put-in-steps.new.held.items c.args.piece.now c.steps.taken (c.steps.cursor.need - c.len.result) (omega arith) c.steps.invariant.items c.put-in-steps.ensures.items

pub returns-in_default-clause-found : goal.returns-in_default-clause-found
returns-in_default-clause-found c =
    rw (← c.deref.ensures.value) (found_of c.args.held.now.items c.args.piece.now c.deref.result.now (c.steps.taken + (c.steps.cursor.need - c.len.result)) c.steps.cursor.due c.read_number.result c.read_number.new.cursor c.read_number.ensures c.in_default.not-More)
