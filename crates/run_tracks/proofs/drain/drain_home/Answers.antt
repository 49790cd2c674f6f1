use Rattle.std.proofs.Common.{◌≡◌, [], sym, subst}
use Rattle.agent_end.specs.declared.draining.ChannelDrain.{ChannelDrain}
use Rattle.shared_channel.specs.Calls.{state_seen}
use Rattle.shared_channel.specs.Passes.{Known}
use Rattle.shared_channel.specs.Ports.{Later}
use Rattle.sink_worker.specs.Rounds.{Taking, told}
use Rattle.two_channels.specs.Ports.{LaterPort, SawIn, pass_of}
use Rattle.two_channels.specs.declared.port.EitherPort.{EitherPort}
use Rattle.run_tracks.specs.Drained.{FaceDrains, IsDrainedInTrack}
use Rattle.run_tracks.proofs.Emptying.{drain_in_track, drain_later, emptied_none}
use Rattle.run_tracks.proofs.Telling.{either_face}
use Rattle.run_tracks.proofs.drain.drain_home.Goals as goal

pub returns-clause-later : goal.returns-clause-later
returns-clause-later g c =
    let F = EitherPort g.row.R.Denot g.row.A.Denot g.row.B.Denot in
    let worker = c.drain_channel-end.new.worker in
    let old : Taking F g.row.S.Denot = record { from = c.port.result; sink = c.args.sink; moments = g.C.Clock.moments c.args.clock } in
    let new : Taking F g.row.S.Denot = record { from = worker.port; sink = worker.sink; moments = g.C.Clock.moments worker.clock } in
    subst (λ (x : Known × Known). Later x.0 x.1) (λ i. (c.port.ensures.pass i, sym c.into_pass.ensures i))
    (drain_later pass_of (SawIn g.A.Channel.stands g.B.Channel.stands) LaterPort (either_face g.A.Channel.stands g.B.Channel.stands) (told g.S.EventSink.delivers g.S.EventSink.faults) c.args.batch c.drain_channel-end.result old new c.drain_channel-end.ensures.drained)

pub returns-clause-track : goal.returns-clause-track
returns-clause-track g c =
    let F = EitherPort g.row.R.Denot g.row.A.Denot g.row.B.Denot in
    let worker = c.drain_channel-end.new.worker in
    let sink = told g.S.EventSink.delivers g.S.EventSink.faults in
    let old : Taking F g.row.S.Denot = record { from = c.port.result; sink = c.args.sink; moments = g.C.Clock.moments c.args.clock } in
    let new : Taking F g.row.S.Denot = record { from = worker.port; sink = worker.sink; moments = g.C.Clock.moments worker.clock } in
    subst (λ (x : Known × Known). IsDrainedInTrack sink c.args.batch c.drain_channel-end.result (record { from = x.0; sink = c.args.sink; moments = g.C.Clock.moments c.args.clock }) (record { from = x.1; sink = worker.sink; moments = g.C.Clock.moments worker.clock }))
    (λ i. (c.port.ensures.pass i, sym c.into_pass.ensures i))
    (drain_in_track pass_of (SawIn g.A.Channel.stands g.B.Channel.stands) LaterPort (either_face g.A.Channel.stands g.B.Channel.stands) sink c.args.batch c.drain_channel-end.result old new c.drain_channel-end.ensures.drained)

pub returns-clause-none : goal.returns-clause-none
returns-clause-none g c = λ is.
    let F = EitherPort g.row.R.Denot g.row.A.Denot g.row.B.Denot in
    let worker = c.drain_channel-end.new.worker in
    let sink = told g.S.EventSink.delivers g.S.EventSink.faults in
    let saw = SawIn {R = g.row.R.Denot} g.A.Channel.stands g.B.Channel.stands in
    let old : Taking F g.row.S.Denot = record { from = c.port.result; sink = c.args.sink; moments = g.C.Clock.moments c.args.clock } in
    let new : Taking F g.row.S.Denot = record { from = worker.port; sink = worker.sink; moments = g.C.Clock.moments worker.clock } in
    subst (λ (p : Known). (state_seen p.view).items ≡ []) (sym c.into_pass.ensures)
    (emptied_none pass_of saw LaterPort (either_face g.A.Channel.stands g.B.Channel.stands) sink c.args.batch old new (subst (λ (e : ChannelDrain). FaceDrains pass_of saw LaterPort sink c.args.batch e old new) is c.drain_channel-end.ensures.drained))
