use Rattle.std.proofs.Common.{rules, ◌≡◌, ◌∙◌, ◌+◌, List, [], ◌∷◌, length, Some, sym, ap, subst, arith}
use Rattle.std.proofs.lemmas.List.{length-append}
use Rattle.std.proofs.lemmas.List.Elements.{All-pop}
use Rattle.agent_end.specs.declared.draining.ChannelDrain.{ChannelDrain}
use Rattle.sink_worker.specs.Rounds.{told}
use Rattle.sink_worker.specs.declared.worker.SinkWorker.{SinkWorker}
use Rattle.two_channels.specs.Shares.{table_of}
use Rattle.run_settling.specs.declared.at_home.AtHome.{AtHome}
use Rattle.run_settling.specs.Draining.{AreDrained, IsDrainedAt, IsSinkHome}
use Rattle.run_settling.specs.Draining.{HasRoom}
use Rattle.run_settling.proofs.Chaining.{all_go_on, drained_ends, drained_goes_on, drained_push, each_goes_then, homes_go_on, own_go_on, sink_goes_on}
use Rattle.run_settling.proofs.draining.+drain_sinks.Goals as goal

pub drain_sinks-requires : goal.drain_sinks-requires
drain_sinks-requires g t c κs within =
    let W = SinkWorker AtHome g.row.S.Denot g.row.C.Denot in
    let front = c.pop.new.self.items in
    let alls = All-pop (IsSinkHome {S = g.row.S.Denot} {C = g.row.C.Denot} c.args.homes.now.items) c.args.sinks.items front (Some c.in-Some.worker) c.in-Some.ensures.items c.requires.sinks in
    let e : length c.args.sinks.items ≡ length front + 1 = ap length c.in-Some.ensures.items ∙ length-append front (c.in-Some.worker ∷ []) in
    let ends : HasRoom {A = W} front c.args.ends.now = (c.requires.ends.0, let r = c.requires.ends.1 in omega arith) in
    let back : HasRoom {A = W} front c.args.back.now = (c.requires.back.0, let r = c.requires.back.1 in omega arith) in
    let d = c.decreases in
    (omega arith, (within.0, (within.1.0, (within.1.1.0, (within.1.1.1.0, (within.1.1.1.1, (c.requires.homes, (c.requires.all, (c.requires.own, (alls.0, (ends, back)))))))))))

pub drain_at-end-requires-clause-worker : goal.drain_at-end-requires-clause-worker
drain_at-end-requires-clause-worker g t c =
    let alls = All-pop (IsSinkHome {S = g.row.S.Denot} {C = g.row.C.Denot} c.args.homes.now.items) c.args.sinks.items c.pop.new.self.items (Some c.in-Some.worker) c.in-Some.ensures.items c.requires.sinks in
    sink_goes_on c.args.homes.now.items c.drain_sinks.new.homes.items c.drain_sinks.ensures.later c.in-Some.worker alls.1

pub push_reserved-requires : goal.push_reserved-requires
push_reserved-requires g t c =
    let D = IsDrainedAt (told g.S.EventSink.delivers g.S.EventSink.faults) g.C.Clock.moments in
    let front = c.pop.new.self.items in
    let many = (drained_ends D front c.args.homes.now.items c.drain_sinks.new.ends.items c.drain_sinks.new.back.items c.drain_sinks.new.homes.items c.drain_sinks.ensures.drained).0 in
    let e : length c.args.sinks.items ≡ length front + 1 = ap length c.in-Some.ensures.items ∙ length-append front (c.in-Some.worker ∷ []) in
    let room = c.requires.ends.1 in
    let kept = c.drain_sinks.ensures.room.0 in
    first_of (omega arith, search (rules, arith))

pub push_reserved-requires-2 : goal.push_reserved-requires-2
push_reserved-requires-2 g t c =
    let D = IsDrainedAt (told g.S.EventSink.delivers g.S.EventSink.faults) g.C.Clock.moments in
    let front = c.pop.new.self.items in
    let many = (drained_ends D front c.args.homes.now.items c.drain_sinks.new.ends.items c.drain_sinks.new.back.items c.drain_sinks.new.homes.items c.drain_sinks.ensures.drained).1 in
    let e : length c.args.sinks.items ≡ length front + 1 = ap length c.in-Some.ensures.items ∙ length-append front (c.in-Some.worker ∷ []) in
    let room = c.requires.back.1 in
    let kept = c.drain_sinks.ensures.room.1 in
    first_of (omega arith, search (rules, arith))

pub returns-clause-homes : goal.returns-clause-homes
returns-clause-homes g t c =
    let mid = c.drain_sinks.new.homes.items in
    let new = c.drain_at-end.new.homes.items in
    let on = drained_goes_on (told g.S.EventSink.delivers g.S.EventSink.faults) g.C.Clock.moments c.in-Some.worker mid c.drain_at-end.result.end c.drain_at-end.result.sink new c.drain_at-end.ensures in
    homes_go_on mid new on table_of c.args.shares.now c.drain_sinks.ensures.homes

pub returns-clause-all : goal.returns-clause-all
returns-clause-all g t c =
    let mid = c.drain_sinks.new.homes.items in
    let new = c.drain_at-end.new.homes.items in
    let on = drained_goes_on (told g.S.EventSink.delivers g.S.EventSink.faults) g.C.Clock.moments c.in-Some.worker mid c.drain_at-end.result.end c.drain_at-end.result.sink new c.drain_at-end.ensures in
    all_go_on mid new on c.drain_sinks.ensures.all

pub returns-clause-own : goal.returns-clause-own
returns-clause-own g t c =
    let mid = c.drain_sinks.new.homes.items in
    let new = c.drain_at-end.new.homes.items in
    let on = drained_goes_on (told g.S.EventSink.delivers g.S.EventSink.faults) g.C.Clock.moments c.in-Some.worker mid c.drain_at-end.result.end c.drain_at-end.result.sink new c.drain_at-end.ensures in
    own_go_on mid new on c.drain_sinks.ensures.own

pub returns-clause-later : goal.returns-clause-later
returns-clause-later g t c =
    let mid = c.drain_sinks.new.homes.items in
    let new = c.drain_at-end.new.homes.items in
    let on = drained_goes_on (told g.S.EventSink.delivers g.S.EventSink.faults) g.C.Clock.moments c.in-Some.worker mid c.drain_at-end.result.end c.drain_at-end.result.sink new c.drain_at-end.ensures in
    each_goes_then c.args.homes.now.items mid new c.drain_sinks.ensures.later on

pub returns-clause-drained : goal.returns-clause-drained
returns-clause-drained g t c =
    let W = SinkWorker AtHome g.row.S.Denot g.row.C.Denot in
    let old = c.args.homes.now.items in
    let mid = c.drain_sinks.new.homes.items in
    let new = c.drain_at-end.new.homes.items in
    let D = IsDrainedAt (told g.S.EventSink.delivers g.S.EventSink.faults) g.C.Clock.moments in
    let ends = c.drain_sinks.new.ends.items in
    let back = c.drain_sinks.new.back.items in
    subst (λ (x : List W × List ChannelDrain × List g.row.S.Denot). AreDrained D x.0 old x.1 x.2 new)
    (λ i. (sym c.in-Some.ensures.items i, sym c.push_reserved.ensures.items i, sym c.push_reserved-2.ensures.items i))
    (drained_push D c.pop.new.self.items old ends back mid c.in-Some.worker c.drain_at-end.result.end c.drain_at-end.result.sink new c.drain_sinks.ensures.drained c.drain_at-end.ensures)
