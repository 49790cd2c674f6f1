use Rattle.std.proofs.Common.{◌≤◌, [], arith, refl, sym, append-nil, Ok, Err}
use Rattle.channel_face.specs.Faces.{IsTakeBegun, IsTakeRolledBack}
use Rattle.sink_runner.specs.Turns.{IsTaking, IsHandedOver, IsTurn}
use Rattle.sink_runner.proofs.Turning.{gains_so, gains_three, turn_handed, turn_over}
use Rattle.sink_runner.proofs.turn.drain_turn.Goals as goal

pub returns-in-Err-clause-calls : goal.returns-in-Err-clause-calls
returns-in-Err-clause-calls g c =
    let face = g.T.Face in
    let after = c.begin.new.self in
    let sink = c.args.sink.now in
    gains_so (face.own c.args.from.now) (face.own after) (λ earlier. IsTakeBegun (face.seen after) (Err c.in-Err.refused))
    (IsTurn (face.saw after) (face.seen after) g.S.EventSink.delivers c.args.batch c.args.moment sink c.turn_refused.result sink)
    c.in-Err.ensures.calls (λ earlier x p. (Err c.in-Err.refused, x, [], sym (append-nil x), p, (refl, c.turn_refused.ensures.turn, refl)))

pub returns-in-Ok-take_events-clause-calls : goal.returns-in-Ok-take_events-clause-calls
returns-in-Ok-take_events-clause-calls g c =
    let face = g.T.Face in
    let token = c.in-Ok.txn in
    let delivers = g.S.EventSink.delivers in
    let begun = c.begin.new.self in
    let after_takes = c.take_events.new.from in
    let ended = c.hand_over.new.from in
    let taken = c.take_events.new.taken in
    let sink = c.args.sink.now in
    let late : face.seen after_takes ≤ face.seen ended = c.hand_over.ensures.seen in
    let early : face.seen begun ≤ face.seen ended = omega (arith, c.in-Ok-take_events.ensures.seen, late) in
    gains_three (face.own c.args.from.now) (face.own begun) (face.own after_takes) (face.own ended)
    (λ earlier. IsTakeBegun (face.seen begun) (Ok token))
    (λ earlier. IsTaking (face.seen after_takes) token c.args.batch taken (Ok tt))
    (IsHandedOver (face.saw ended) (face.seen ended) delivers token taken c.args.moment sink c.hand_over.result c.hand_over.new.sink)
    (IsTurn (face.saw ended) (face.seen ended) delivers c.args.batch c.args.moment sink c.hand_over.result c.hand_over.new.sink)
    c.in-Ok.ensures.calls c.in-Ok-take_events.ensures.calls (rw c.in-Ok-take_events.ensures.same at c.hand_over.ensures.calls)
    (λ earlier x y z p q r. turn_handed (face.saw ended) delivers c.args.batch c.args.moment sink c.hand_over.new.sink (face.seen begun) (face.seen after_takes) (face.seen ended) early late token c.hand_over.result taken earlier x y z p q r)

pub returns-clause-calls : goal.returns-clause-calls
returns-clause-calls g c =
    let face = g.T.Face in
    let token = c.in-Ok.txn in
    let delivers = g.S.EventSink.delivers in
    let begun = c.begin.new.self in
    let after_takes = c.take_events.new.from in
    let ended = c.give_up.new.from in
    let sink = c.args.sink.now in
    let turn = c.in-Err-take_events.turn in
    let late : face.seen after_takes ≤ face.seen ended = c.give_up.ensures.seen in
    let early : face.seen begun ≤ face.seen ended = omega (arith, c.in-Err-take_events.ensures.seen, late) in
    rw c.give_up.ensures.turn (gains_three (face.own c.args.from.now) (face.own begun) (face.own after_takes) (face.own ended)
    (λ earlier. IsTakeBegun (face.seen begun) (Ok token))
    (λ earlier. IsTaking (face.seen after_takes) token c.args.batch c.take_events.new.taken (Err turn))
    (IsTakeRolledBack (face.saw ended) token)
    (IsTurn (face.saw ended) (face.seen ended) delivers c.args.batch c.args.moment sink turn sink)
    c.in-Ok.ensures.calls c.in-Err-take_events.ensures.calls (rw c.in-Err-take_events.ensures.same at c.give_up.ensures.calls)
    (λ earlier x y z p q r. turn_over (face.saw ended) delivers c.args.batch c.args.moment sink sink (face.seen begun) (face.seen after_takes) (face.seen ended) early late token turn earlier x y z p q r refl))
