use Rattle.std.proofs.Common.{◌≡◌, ◌∙◌, ◌≤◌, ℕ, Bool, List, None, Option, All, refl, length, map, sym, ap, subst}
use Rattle.std.specs.Vec.{vec_capacity, with_items}
use Rattle.std.specs.declared.alloc.Global.{Global}
use Rattle.std.specs.declared.vec.Vec.{Vec}
use Rattle.std.proofs.lemmas.List.{with_items_is}
use Rattle.channel_wishes.specs.Places.{AreOut}
use Rattle.agent_outside.specs.Ends.{AreOut as EndsOut, ListensAt, end_at}
use Rattle.agent_outside.specs.Sinks.{AreOpened}
use Rattle.agent_outside.specs.declared.listener.SourceListener.{SourceListener}
use Rattle.agent_plan.specs.declared.plan.SinkPlan.{SinkPlan}
use Rattle.agent_plan.specs.declared.plan.SourcePlan.{SourcePlan}
use Rattle.grouped_sinks.specs.Rows.{IsOrder, places_of}
use Rattle.flume_host.specs.HandedOut.{HandedOut}
use Rattle.flume_host.specs.HostState.{Folders, HostState}
use Rattle.run_tracks.specs.Dealt.{AreDealt}
use Rattle.run_tracks.specs.Homes.{AreHomes, EachTook}
use Rattle.shared_channel.specs.Passes.{Known}
use Rattle.channel_lock.specs.Turns.{HasAll}
use Rattle.two_channels.specs.Shares.{table_of}
use Rattle.two_channels.specs.declared.shared.EitherShared.{EitherShared}
use Rattle.file_channel.specs.Stands.{FileState}
use Rattle.memory_channel.specs.declared.channel.MemoryChannel.{MemoryChannel}
use Rattle.run_settling.specs.Draining.{HasOwn, IsSinkHome}
use Rattle.run_opening.specs.Lists.{IsEmptyFor}
use Rattle.run_settling.specs.Draining.{HasRoom}
use Rattle.run_opening.specs.Outside.{AreFrom}
use Rattle.run_staff.specs.Jobs.{AreOnDisks, AreWorkers, owners_of}
use Rattle.run_opening.specs.declared.labels.ChannelLabel.{ChannelLabel}
use Rattle.run_settling.specs.declared.settling.Settled.{Settled}
use Rattle.agent_run.specs.Run.{MayReturn, StandInRows}
use Rattle.agent_run.proofs.Closing.{closed_of}
use Rattle.agent_run.proofs.Asking.{agent_stays}
use Rattle.agent_run.proofs.Dialing.{may_return}
use Rattle.agent_run.proofs.agent.run_opened.Given.{Over}
use Rattle.avro_ends.specs.Deliveries.{HasBack, SinkLinks}
use Rattle.avro_ends.specs.Dialing.{DialTold, closed_links}
use Rattle.avro_ends.specs.declared.sink.AvroSink.{AvroSink}
use Rattle.run_opening.proofs.Manning.{room_for}
use Rattle.run_working.proofs.Owning.{own_kept}
use Rattle.run_opening.proofs.Resting.{closed_of_wishes, ends_fit, from_many, homes_many, labels_fit, names_many, only_passes, passes_fit}
use Rattle.agent_run.proofs.Joining.{zips_long}
use Rattle.agent_run.proofs.Throughout.{back_same, joined_same, returned_same, settled_same}
use Rattle.run_opening.specs.Staff.{IsSinkOf}
use Rattle.agent_run.proofs.agent.run_opened.Goals as goal

-- what the Avro sinks of the host show of their dialers
abbrev dial_of : (g : Over) → DialTold (AvroSink g.row.H-Dialer.Denot g.row.H-Dialer-Link.Denot g.H.Dialer.Dialer g.H.Dialer.Link.Link)
dial_of g = record {
  endpoint = λ s. g.H.Dialer.Dialer.endpoint s.dialer;
  links = λ s. closed_links g.H.Dialer.Dialer.told g.H.Dialer.Link.Link.told s.dialer s.opened;
  faults = λ s. g.H.Dialer.Dialer.faults s.dialer;
  IsIdle = λ s. s.opened ≡ None;
  HasAllBack = λ s. HasBack (g.H.Dialer.Dialer.told s.dialer) s.opened;
}

-- the dialer of one, and the link that is open
abbrev links_of : (g : Over) → AvroSink g.row.H-Dialer.Denot g.row.H-Dialer-Link.Denot g.H.Dialer.Dialer g.H.Dialer.Link.Link → SinkLinks g.row.H-Dialer.Denot g.row.H-Dialer-Link.Denot
links_of g s = record { dialer = s.dialer; opened = s.opened }

pub run_crew-sinks-requires-clause-homes : goal.run_crew-sinks-requires-clause-homes
run_crew-sinks-requires-clause-homes g c κs within =
    let is = c.man-crew.ensures.manned in
    subst (λ (x : List (EitherShared (g.row.H-Disk.Denot × FileState) MemoryChannel) × List Known). AreHomes table_of x.0 x.1)
    (λ i. (sym c.as_slice-3.ensures.value i, sym c.as_mut_slice.ensures.value i)) is.homes

pub run_crew-sinks-requires-clause-disks : goal.run_crew-sinks-requires-clause-disks
run_crew-sinks-requires-clause-disks g c κs within =
    subst (λ (s : List (EitherShared (g.row.H-Disk.Denot × FileState) MemoryChannel)). AreOnDisks s c.man-crew.result.crew.jobs) (sym c.as_slice-3.ensures.value) c.man-crew.ensures.manned.on_disks

pub run_crew-sinks-requires-clause-jobs : goal.run_crew-sinks-requires-clause-jobs
run_crew-sinks-requires-clause-jobs g c κs within =
    let is = c.man-crew.ensures.manned in
    subst (λ (s : List (EitherShared (g.row.H-Disk.Denot × FileState) MemoryChannel)). AreWorkers table_of s (λ (p : Known). p) c.man-crew.result.crew.jobs) (sym c.as_slice-3.ensures.value) is.workers

pub run_crew-sinks-requires-clause-from : goal.run_crew-sinks-requires-clause-from
run_crew-sinks-requires-clause-from g c κs within =
    let is = c.man-crew.ensures.manned in
    let places : c.as_slice-2.result.now ≡ c.args.opening.prepared.places.items = c.as_slice-2.ensures.value ∙ ap (λ (v : Vec ℕ Global). v.items) is.places in
    subst (λ (x : List SourcePlan × List ℕ × List g.row.H-Listener.Denot). AreFrom g.H.Listener.Listener.endpoint x.0 x.1 x.2)
    (λ i. (sym c.as_slice.ensures.value i, sym places i, sym is.own_listeners i)) c.requires.listen.from

pub run_crew-sinks-requires-clause-listen : goal.run_crew-sinks-requires-clause-listen
run_crew-sinks-requires-clause-listen g c κs within =
    let is = c.man-crew.ensures.manned in
    let places : c.as_slice-2.result.now ≡ c.args.opening.prepared.places.items = c.as_slice-2.ensures.value ∙ ap (λ (v : Vec ℕ Global). v.items) is.places in
    subst (λ (x : List SourcePlan × List ℕ). All (ListensAt x.0) x.1) (λ i. (sym c.as_slice.ensures.value i, sym places i)) c.requires.listen.listen

pub run_crew-sinks-requires-clause-out : goal.run_crew-sinks-requires-clause-out
run_crew-sinks-requires-clause-out g c κs within =
    let is = c.man-crew.ensures.manned in
    let places : c.as_slice-2.result.now ≡ c.args.opening.prepared.places.items = c.as_slice-2.ensures.value ∙ ap (λ (v : Vec ℕ Global). v.items) is.places in
    subst (λ (x : List SourcePlan × List ℕ × Option HandedOut). EndsOut (map (end_at x.0) x.1) x.2)
    (λ i. (sym c.as_slice.ensures.value i, sym places i, sym (ap (λ (s : HostState). s.listeners) c.man-crew.ensures.rest) i)) c.requires.listen.out

pub run_crew-sinks-requires-clause-named : goal.run_crew-sinks-requires-clause-named
run_crew-sinks-requires-clause-named g c κs within =
    let can = c.requires.can in
    let is = c.man-crew.ensures.manned in
    let places : c.as_slice-2.result.now ≡ c.args.opening.prepared.places.items = c.as_slice-2.ensures.value ∙ ap (λ (v : Vec ℕ Global). v.items) is.places in
    let from = from_many g.H.Listener.Listener.endpoint c.args.plan.now.sources.items c.args.opening.prepared.places.items c.args.opening.outside.listeners.items c.requires.listen.from in
    let many : length c.as_slice-2.result.now ≡ length c.args.opening.prepared.listeners.items = ap length places ∙ sym from ∙ can.hearers in
    subst (λ (v : Vec (SourceListener g.row.H-Listener.Denot) Global). IsEmptyFor (length c.as_slice-2.result.now) v) (sym is.named)
    (can.workers.named.0, subst (λ (n : ℕ). n ≤ vec_capacity c.args.opening.workers.named) (sym many) can.workers.named.1)

pub settle_run-settled-requires-clause-homes : goal.settle_run-settled-requires-clause-homes
settle_run-settled-requires-clause-homes g c κs within =
    let homes = c.man-crew.result.crew.homes in
    let size : length c.run_crew-sinks.new.homes ≡ homes.len = c.run_crew-sinks.ensures.kept.as_many ∙ ap length c.as_mut_slice.ensures.value ∙ sym homes.ok.0 in
    subst (λ (x : List (EitherShared (g.row.H-Disk.Denot × FileState) MemoryChannel) × List Known). AreHomes table_of x.0 x.1)
    (λ i. (c.as_slice-3.ensures.value i, sym (with_items_is homes c.run_crew-sinks.new.homes size) i)) c.run_crew-sinks.ensures.homes

pub settle_run-settled-requires-clause-all : goal.settle_run-settled-requires-clause-all
settle_run-settled-requires-clause-all g c κs within =
    let is = c.man-crew.ensures.manned in
    let homes = c.man-crew.result.crew.homes in
    let size : length c.run_crew-sinks.new.homes ≡ homes.len = c.run_crew-sinks.ensures.kept.as_many ∙ ap length c.as_mut_slice.ensures.value ∙ sym homes.ok.0 in
    let dealt = subst (λ (l : List Known). AreDealt l (owners_of c.man-crew.result.crew.jobs)) (sym c.as_mut_slice.ensures.value) is.dealt in
    subst (λ (l : List Known). All (λ (p : Known). HasAll p.view) l) (sym (with_items_is homes c.run_crew-sinks.new.homes size)) (c.run_crew-sinks.ensures.all dealt)

pub settle_run-settled-requires-clause-own : goal.settle_run-settled-requires-clause-own
settle_run-settled-requires-clause-own g c κs within =
    let is = c.man-crew.ensures.manned in
    let homes = c.man-crew.result.crew.homes in
    let size : length c.run_crew-sinks.new.homes ≡ homes.len = c.run_crew-sinks.ensures.kept.as_many ∙ ap length c.as_mut_slice.ensures.value ∙ sym homes.ok.0 in
    let own = subst (λ (l : List Known). All HasOwn l) (sym c.as_mut_slice.ensures.value) is.own in
    subst (λ (l : List Known). All HasOwn l) (sym (with_items_is homes c.run_crew-sinks.new.homes size)) (own_kept c.as_mut_slice.result.now c.run_crew-sinks.new.homes c.run_crew-sinks.ensures.kept own)

pub settle_run-settled-requires-clause-sinks : goal.settle_run-settled-requires-clause-sinks
settle_run-settled-requires-clause-sinks g c κs within =
    let homes = c.man-crew.result.crew.homes in
    let size : length c.run_crew-sinks.new.homes ≡ homes.len = c.run_crew-sinks.ensures.kept.as_many ∙ ap length c.as_mut_slice.ensures.value ∙ sym homes.ok.0 in
    subst (λ (l : List Known). All (IsSinkHome l) c.run_crew-sinks.result.sinks.items) (sym (with_items_is homes c.run_crew-sinks.new.homes size)) c.run_crew-sinks.ensures.home

pub settle_run-settled-requires-clause-ends : goal.settle_run-settled-requires-clause-ends
settle_run-settled-requires-clause-ends g c κs within =
    let is = c.man-crew.ensures.manned in
    let many = c.run_crew-sinks.ensures.many ∙ zips_long IsSinkOf c.args.rows.now c.man-crew.result.crew.jobs.sinks.items is.sinks in
    subst (λ (r : Settled _ _ _). HasRoom c.run_crew-sinks.result.sinks.items r.ends) (sym is.settled)
    (c.requires.settle.ends.0, room_for _ _ _ many c.requires.settle.ends.1)

pub settle_run-settled-requires-clause-back : goal.settle_run-settled-requires-clause-back
settle_run-settled-requires-clause-back g c κs within =
    let is = c.man-crew.ensures.manned in
    let many = c.run_crew-sinks.ensures.many ∙ zips_long IsSinkOf c.args.rows.now c.man-crew.result.crew.jobs.sinks.items is.sinks in
    subst (λ (r : Settled _ _ _). HasRoom c.run_crew-sinks.result.sinks.items r.sinks) (sym is.settled)
    (c.requires.settle.sinks.0, room_for _ _ _ many c.requires.settle.sinks.1)

pub settle_run-settled-requires-clause-mends : goal.settle_run-settled-requires-clause-mends
settle_run-settled-requires-clause-mends g c κs within =
    let is = c.man-crew.ensures.manned in
    let homes = c.man-crew.result.crew.homes in
    let size : length c.run_crew-sinks.new.homes ≡ homes.len = c.run_crew-sinks.ensures.kept.as_many ∙ ap length c.as_mut_slice.ensures.value ∙ sym homes.ok.0 in
    let many : length homes.items ≡ length c.args.plan.now.channels.items = homes_many c.args.rows.now c.args.opening c.man-crew.result c.requires.can is ∙ c.requires.many in
    let all : length (with_items homes c.run_crew-sinks.new.homes).items ≡ length c.args.plan.now.channels.items = ap length (with_items_is homes c.run_crew-sinks.new.homes size) ∙ size ∙ homes.ok.0 ∙ many in
    ap (λ (r : Settled _ _ _). length r.mends.items) is.settled ∙ c.requires.settle.mends ∙ sym all

pub settle_run-settled-requires-clause-report : goal.settle_run-settled-requires-clause-report
settle_run-settled-requires-clause-report g c κs within =
    let is = c.man-crew.ensures.manned in
    let homes = c.man-crew.result.crew.homes in
    let size : length c.run_crew-sinks.new.homes ≡ homes.len = c.run_crew-sinks.ensures.kept.as_many ∙ ap length c.as_mut_slice.ensures.value ∙ sym homes.ok.0 in
    let many : length homes.items ≡ length c.args.plan.now.channels.items = homes_many c.args.rows.now c.args.opening c.man-crew.result c.requires.can is ∙ c.requires.many in
    let all : length (with_items homes c.run_crew-sinks.new.homes).items ≡ length c.args.plan.now.channels.items = ap length (with_items_is homes c.run_crew-sinks.new.homes size) ∙ size ∙ homes.ok.0 ∙ many in
    ap (λ (r : Settled _ _ _). length r.report.items) is.settled ∙ names_many c.args.plan.now.channels.items c.args.opening.settled.report.items c.requires.settle.report ∙ sym all

pub settle_run-settled-requires-clause-keeps : goal.settle_run-settled-requires-clause-keeps
settle_run-settled-requires-clause-keeps g c κs within =
    let is = c.man-crew.ensures.manned in
    let homes = c.man-crew.result.crew.homes in
    let size : length c.run_crew-sinks.new.homes ≡ homes.len = c.run_crew-sinks.ensures.kept.as_many ∙ ap length c.as_mut_slice.ensures.value ∙ sym homes.ok.0 in
    let many : length homes.items ≡ length c.args.plan.now.channels.items = homes_many c.args.rows.now c.args.opening c.man-crew.result c.requires.can is ∙ c.requires.many in
    let all : length (with_items homes c.run_crew-sinks.new.homes).items ≡ length c.args.plan.now.channels.items = ap length (with_items_is homes c.run_crew-sinks.new.homes size) ∙ size ∙ homes.ok.0 ∙ many in
    ap length (c.as_slice-4.ensures.value ∙ ap (λ (v : Vec Bool Global). v.items) is.closes) ∙ c.requires.can.closes ∙ c.requires.many ∙ sym all

pub settle_run-settled-requires-clause-closed : goal.settle_run-settled-requires-clause-closed
settle_run-settled-requires-clause-closed g c κs within =
    let is = c.man-crew.ensures.manned in
    let homes = c.man-crew.result.crew.homes in
    let size : length c.run_crew-sinks.new.homes ≡ homes.len = c.run_crew-sinks.ensures.kept.as_many ∙ ap length c.as_mut_slice.ensures.value ∙ sym homes.ok.0 in
    let many : length homes.items ≡ length c.args.plan.now.channels.items = homes_many c.args.rows.now c.args.opening c.man-crew.result c.requires.can is ∙ c.requires.many in
    let all : length (with_items homes c.run_crew-sinks.new.homes).items ≡ length c.args.plan.now.channels.items = ap length (with_items_is homes c.run_crew-sinks.new.homes size) ∙ size ∙ homes.ok.0 ∙ many in
    subst (λ (r : Settled _ _ _). HasRoom (with_items homes c.run_crew-sinks.new.homes).items r.closed) (sym is.settled)
    (c.requires.settle.closed.0, room_for _ _ _ all c.requires.settle.closed.1)

pub give_rest-ends-requires-clause-sinks : goal.give_rest-ends-requires-clause-sinks
give_rest-ends-requires-clause-sinks g c κs within =
    let folders = c.run_crew-sinks.ensures.folders ∙ c.man-crew.ensures.folders in
    subst (λ (x : Folders × List SinkPlan). AreOpened x.0 x.1 (length x.1)) (λ i. (sym folders i, sym c.as_slice-5.ensures.value i)) c.requires.sinks

pub give_rest-ends-requires-clause-order : goal.give_rest-ends-requires-clause-order
give_rest-ends-requires-clause-order g c κs within =
    subst (λ (l : List SinkPlan). IsOrder (length l) (places_of c.args.rows.now)) (sym c.as_slice-5.ensures.value) c.requires.order

pub give_rest-ends-requires-clause-places : goal.give_rest-ends-requires-clause-places
give_rest-ends-requires-clause-places g c κs within = c.requires.vacant ∙ ap length (sym c.as_slice-5.ensures.value)

pub give_rest-ends-requires-clause-dials : goal.give_rest-ends-requires-clause-dials
give_rest-ends-requires-clause-dials g c κs within =
    let is = c.man-crew.ensures.manned in
    let homes = c.man-crew.result.crew.homes in
    let size : length c.run_crew-sinks.new.homes ≡ homes.len = c.run_crew-sinks.ensures.kept.as_many ∙ ap length c.as_mut_slice.ensures.value ∙ sym homes.ok.0 in
    let dealt = subst (λ (l : List Known). AreDealt l (owners_of c.man-crew.result.crew.jobs)) (sym c.as_mut_slice.ensures.value) is.dealt in
    let many : length homes.items ≡ length c.args.plan.now.channels.items = homes_many c.args.rows.now c.args.opening c.man-crew.result c.requires.can is ∙ c.requires.many in
    let all = ap (λ (s : HostState). s.dialers) c.run_crew-sinks.ensures.rest ∙ ap (λ (s : HostState). s.dialers) c.man-crew.ensures.rest in
    let joins = c.run_crew-sinks.ensures.joined in
    let plans = c.args.plan.now.sinks.items in
    let rows = c.args.rows.now in
    let runners = c.settle_run-settled.result.sinks.items in
    let may = may_return _ _ _ _ _ _ _ _ _ _ _ _ _ _ (dial_of g) c.run_is_told.ensures.in_full c.runners_split.ensures
    (λ s batch moment answer t one. agent_stays g.H.Roll.RollDir.rolled (links_of g) g.H.Dialer.Dialer.told g.H.Dialer.Dialer.faults g.H.Dialer.Link.Link.told g.H.Dialer.Link.Link.faults g.H.Dialer.Dialer.endpoint
    batch moment answer (λ x y. g.B.EventSink.delivers x batch moment answer y) (dial_of g) (λ x. refl) s t one)
    plans rows c.requires.order c.args.opening c.man-crew.result c.run_crew-sinks.new.homes c.run_crew-sinks.result joins.returned c.settle_run-settled.result is
    (subst (λ (l : List Known). EachTook l c.run_crew-sinks.new.homes) c.as_mut_slice.ensures.value c.run_crew-sinks.ensures.kept)
    (c.run_crew-sinks.ensures.all dealt)
    (returned_same _ _ _ _ _ _ c.run_crew-sinks.new.homes c.man-crew.result.crew.jobs joins.returned _ _ c.as_slice-3.ensures.value joins.back)
    joins.sinks c.run_crew-sinks.ensures.home
    (ap (λ (r : Settled _ _ _). length r.report.items) is.settled ∙ names_many c.args.plan.now.channels.items c.args.opening.settled.report.items c.requires.settle.report ∙ sym (size ∙ homes.ok.0 ∙ many))
    (settled_same _ _ _ _ c.man-crew.result.crew.shares.items c.run_crew-sinks.result.sinks.items _ _ c.man-crew.result.settled.report.items c.settle_run-settled.result _ _
    (with_items_is homes c.run_crew-sinks.new.homes size) c.as_slice-4.ensures.value c.settle_run-settled.ensures.settled)
    (g.H.Host.folders c.args.host.now) (g.H.Host.state c.run_crew-sinks.new.host).dialers
    (subst (λ (l : Option HandedOut). StandInRows (dial_of g) (g.H.Host.folders c.args.host.now) plans rows c.args.opening.outside.sinks.items l) (sym all) c.requires.dials) in
    subst (λ (p : List SinkPlan). MayReturn (dial_of g) p rows runners (g.H.Host.state c.run_crew-sinks.new.host).dialers) (sym c.as_slice-5.ensures.value) may

pub give_rest-ends-requires-clause-of : goal.give_rest-ends-requires-clause-of
give_rest-ends-requires-clause-of g c κs within =
    let is = c.man-crew.ensures.manned in
    let did = c.settle_run-settled.ensures.settled in
    let folders = c.run_crew-sinks.ensures.folders ∙ c.man-crew.ensures.folders in
    closed_of_wishes c.args.rows.now c.args.opening c.man-crew.result c.requires.can is c.closed_channels_fit.ensures.fit (g.H.Host.folders c.run_crew-sinks.new.host) c.settle_run-settled.result.closed.items
    (closed_of _ _ _ _ c.closed_channels_fit.ensures.left c.man-crew.result.crew.shares.items did.counted c.settle_run-settled.result.closed.items did.closed)
    (subst (λ (f : Folders). AreOut f c.args.opening.prepared.wishes.items) (sym folders) c.requires.disks)

pub give_rest-ends-requires-clause-room : goal.give_rest-ends-requires-clause-room
give_rest-ends-requires-clause-room g c κs within =
    let is = c.man-crew.ensures.manned in
    let did = c.settle_run-settled.ensures.settled in
    passes_fit c.args.rows.now c.args.opening c.man-crew.result c.requires.can is c.settle_run-settled.result.closed.items
    (closed_of _ _ _ _ c.closed_channels_fit.ensures.left c.man-crew.result.crew.shares.items did.counted c.settle_run-settled.result.closed.items did.closed)

pub add_ends-requires-clause-many : goal.add_ends-requires-clause-many
add_ends-requires-clause-many g c =
    let did = c.settle_run-settled.ensures.settled in
    labels_fit c.args.rows.now c.args.opening c.man-crew.result c.requires.can c.man-crew.ensures.manned
    c.settle_run-settled.result.closed.items _
    (closed_of _ _ _ _ c.closed_channels_fit.ensures.left c.man-crew.result.crew.shares.items did.counted c.settle_run-settled.result.closed.items did.closed)
    c.give_rest-ends.ensures.passes

pub add_ends-requires-clause-room : goal.add_ends-requires-clause-room
add_ends-requires-clause-room g c =
    ends_fit c.args.rows.now c.args.opening c.man-crew.result c.requires.can c.man-crew.ensures.manned

pub returns : goal.returns
returns g c =
    let is = c.man-crew.ensures.manned in
    let homes = c.man-crew.result.crew.homes in
    let size : length c.run_crew-sinks.new.homes ≡ homes.len = c.run_crew-sinks.ensures.kept.as_many ∙ ap length c.as_mut_slice.ensures.value ∙ sym homes.ok.0 in
    let dealt = subst (λ (l : List Known). AreDealt l (owners_of c.man-crew.result.crew.jobs)) (sym c.as_mut_slice.ensures.value) is.dealt in
    let can = c.requires.can in
    let many : length homes.items ≡ length c.args.plan.now.channels.items = homes_many c.args.rows.now c.args.opening c.man-crew.result c.requires.can is ∙ c.requires.many in
    record {
      manned = c.man-crew.result;
      is_manned = is;
      begun = g.H.Host.state c.man-crew.new.host;
      taken = c.man-crew.ensures.rest;
      takes = c.man-crew.ensures.taken;
      homes = c.run_crew-sinks.new.homes;
      took = subst (λ (l : List Known). EachTook l c.run_crew-sinks.new.homes) c.as_mut_slice.ensures.value c.run_crew-sinks.ensures.kept;
      all = c.run_crew-sinks.ensures.all dealt;
      joined = c.run_crew-sinks.result;
      behind = g.H.Host.state c.run_crew-sinks.new.host;
      joins = joined_same _ _ _ _ _ _ _ _ _ _ _ c.run_crew-sinks.new.homes c.man-crew.result.crew.jobs c.run_crew-sinks.result _ _ _ _ _ _ _ _
          c.as_slice.ensures.value c.as_slice-2.ensures.value c.as_slice-3.ensures.value c.run_crew-sinks.ensures.joined;
      rest = c.run_crew-sinks.ensures.rest;
      home = c.run_crew-sinks.ensures.home;
      named = ap (λ (r : Settled _ _ _). length r.report.items) is.settled ∙ names_many c.args.plan.now.channels.items c.args.opening.settled.report.items c.requires.settle.report ∙ sym (size ∙ homes.ok.0 ∙ many);
      settled = c.settle_run-settled.result;
      settles = settled_same _ _ _ _ c.man-crew.result.crew.shares.items c.run_crew-sinks.result.sinks.items _ _ c.man-crew.result.settled.report.items c.settle_run-settled.result _ _
          (with_items_is homes c.run_crew-sinks.new.homes size) c.as_slice-4.ensures.value c.settle_run-settled.ensures.settled;
      back = back_same _ _ _ _ c.args.rows.now c.man-crew.result.wishes.items c.settle_run-settled.result _ _ _ _ _ _ _ _ c.as_slice-5.ensures.value (c.run_crew-sinks.ensures.folders ∙ c.man-crew.ensures.folders) c.give_rest-ends.ensures.back;
      input = c.give_rest-ends.ensures.input;
      drains = c.give_rest-ends.ensures.drains;
      mends = c.give_rest-ends.ensures.mends;
      passes = c.add_ends.ensures.passes ∙ only_passes c.args.rows.now c.args.opening c.man-crew.result can c.man-crew.ensures.manned c.settle_run-settled.result.closed.items _ c.give_rest-ends.ensures.passes;
      labels = c.add_ends.ensures.labels ∙ ap (λ (v : Vec ChannelLabel Global). v.items) is.labels;
    }
