use Rattle.std.proofs.Common.{◌<◌, ◌++◌, ◌∷◌, [], ◌∙◌, sym, refl, append-nil, length, inl, inr, arith, Ok, Err, None, List}
use Rattle.std.proofs.lemmas.List.Sums.{sum_by-append}
use Rattle.std.proofs.lemmas.List.{length-append}
use Rattle.event_core.specs.Content.{Content}
use Rattle.event_core.specs.Content as content
use Rattle.channel_face.specs.Faces.{IsTake}
use Rattle.sink_runner.specs.declared.turn.Turn.TheVariants.{NoMemory}
use Rattle.sink_runner.specs.Turns.{HasRoom, AreTaken, AreTakenUpTo}
use Rattle.sink_runner.proofs.Turning.{one_taken, taken_all, gains_so, room_more}
use Rattle.sink_runner.proofs.take.take_events.Goals as goal

pub loop-from-preserved : goal.loop-from-preserved
loop-from-preserved g c =
    let face = g.T.Face in
    let before = c.loop-from.from in
    let after = c.take.new.self in
    let taken = c.loop-from.taken in
    let event = c.in-Ok-Some.event in
    let room : HasRoom c.args.most taken = (omega arith, omega (arith, c.loop-from.invariant.size)) in
    let given = rw (c.in-Ok-Some.field-0-is, c.loop-from.invariant.same) at c.in-Ok-Some.ensures.calls in
    record {
      seen = omega (arith, c.loop-from.invariant.seen, c.in-Ok-Some.ensures.seen);
      kept = g.T.Face.kept_then c.args.from.now before after c.loop-from.invariant.kept c.in-Ok-Some.ensures.kept;
      same = c.in-Ok-Some.ensures.same ∙ c.loop-from.invariant.same;
      size = rw c.in-Ok.ensures.ok (omega (arith, sum_by-append content.size taken (event ∷ []), c.size-size.ensures.size, c.loop-from.invariant.size));
      had = rw c.in-Ok.ensures.ok (room_more c.args.most taken event c.loop-from.invariant.had room);
      calls = rw c.in-Ok.ensures.ok (one_taken (face.own c.args.from.now) (face.own before) (face.own after) (face.seen before) (face.seen after) c.in-Ok-Some.ensures.seen c.args.txn.now taken c.loop-from.invariant.calls event given);
    }

pub returns-in-Ok-None-clause-calls : goal.returns-in-Ok-None-clause-calls
returns-in-Ok-None-clause-calls g c =
    let face = g.T.Face in
    let before = c.loop-from.from in
    let after = c.take.new.self in
    let taken = c.loop-from.taken in
    let room : HasRoom c.args.most taken = (omega arith, omega (arith, c.loop-from.invariant.size)) in
    let given = rw (c.in-Ok-None.field-0-is, c.loop-from.invariant.same) at c.in-Ok-None.ensures.calls in
    taken_all (face.own c.args.from.now) (face.own before) (face.own after) (face.seen before) (face.seen after) c.in-Ok-None.ensures.seen c.args.txn.now taken c.loop-from.invariant.calls
    c.args.most (Ok tt) (IsTake (face.seen after) c.args.txn.now (Ok None)) c.loop-from.invariant.had given (λ y is. inr (room, is))

pub returns-in-Err-clause-calls : goal.returns-in-Err-clause-calls
returns-in-Err-clause-calls g c =
    let face = g.T.Face in
    let before = c.loop-from.from in
    let after = c.take.new.self in
    let taken = c.loop-from.taken in
    let turn = c.turn_refused.result in
    let room : HasRoom c.args.most taken = (omega arith, omega (arith, c.loop-from.invariant.size)) in
    let given = rw c.loop-from.invariant.same at c.in-Err.ensures.calls in
    gains_so (face.own c.args.from.now) (face.own after) (λ earlier. AreTakenUpTo (face.seen after) c.args.txn.now c.args.most taken (Err turn)) (λ earlier l. (events : List Content) × AreTakenUpTo (face.seen after) c.args.txn.now c.args.most events (Err turn) l)
    (taken_all (face.own c.args.from.now) (face.own before) (face.own after) (face.seen before) (face.seen after) c.in-Err.ensures.seen c.args.txn.now taken c.loop-from.invariant.calls
    c.args.most (Err turn) (IsTake (face.seen after) c.args.txn.now (Err c.in-Err.refused)) c.loop-from.invariant.had given (λ y is. inl (room, (c.in-Err.refused, is, c.turn_refused.ensures.turn))))
    (λ earlier l is. (taken, is))

pub returns-in_default-clause-calls : goal.returns-in_default-clause-calls
returns-in_default-clause-calls g c =
    let face = g.T.Face in
    let before = c.loop-from.from in
    let after = c.take.new.self in
    let taken = c.loop-from.taken in
    let event = c.in-Ok-Some.event in
    let all = taken ++ event ∷ [] in
    let room : HasRoom c.args.most taken = (omega arith, omega (arith, c.loop-from.invariant.size)) in
    let given = rw (c.in-Ok-Some.field-0-is, c.loop-from.invariant.same) at c.in-Ok-Some.ensures.calls in
    let some : 0 < length all = omega (arith, length-append taken (event ∷ [])) in
    gains_so (face.own c.args.from.now) (face.own after) (λ earlier. AreTaken (face.seen after) c.args.txn.now all) (λ earlier l. (events : List Content) × AreTakenUpTo (face.seen after) c.args.txn.now c.args.most events (Err NoMemory) l)
    (one_taken (face.own c.args.from.now) (face.own before) (face.own after) (face.seen before) (face.seen after) c.in-Ok-Some.ensures.seen c.args.txn.now taken c.loop-from.invariant.calls event given)
    (λ earlier l is. (all, (room_more c.args.most taken event c.loop-from.invariant.had room, (l, [], sym (append-nil l), is, inr (refl, some, refl)))))
