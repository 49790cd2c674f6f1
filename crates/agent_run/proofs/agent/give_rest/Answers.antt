use Rattle.std.proofs.Common.{◌≡◌, ◌∙◌, ℕ, List, None, All, String, length, sym, ap, subst}
use Rattle.std.specs.declared.alloc.Global.{Global}
use Rattle.std.proofs.lemmas.List.{with_items_is}
use Rattle.channel_face.specs.declared.replies.Counts.{Counts}
use Rattle.agent_words.specs.Report.{report_text}
use Rattle.agent_sinks.specs.declared.sink.AgentSink.{AgentSink}
use Rattle.avro_ends.specs.Deliveries.{HasBack}
use Rattle.avro_ends.specs.Dialing.{DialTold, closed_links}
use Rattle.avro_ends.specs.declared.sink.AvroSink.{AvroSink}
use Rattle.file_channel.specs.Stands.{FileState}
use Rattle.memory_channel.specs.declared.channel.MemoryChannel.{MemoryChannel}
use Rattle.two_channels.specs.declared.shared.EitherClosed.{EitherClosed}
use Rattle.channel_wishes.specs.Places.{AreOfWishes}
use Rattle.agent_channels.specs.Closings.{DisksBack, backs_of}
use Rattle.channel_wishes.specs.Openings.{HostTold}
use Rattle.channel_wishes.specs.declared.wish.ChannelWish.{ChannelWish}
use Rattle.agent_outside.specs.Backs.{RollsBack}
use Rattle.agent_outside.specs.Dials.{AreDialed, DialersBack, dials_back}
use Rattle.agent_outside.specs.Ends.{AreOut, ends_of}
use Rattle.agent_outside.specs.Sinks.{AreOpened, backs_of as rolls_of}
use Rattle.grouped_sinks.specs.Rows.{AreBelow, places_of}
use Rattle.agent_run.specs.Run.{IsAtRest}
use Rattle.run_opening.specs.Streams.{IsReported}
use Rattle.run_opening.proofs.Resting.{of_wishes_later}
use Rattle.agent_run.proofs.agent.give_rest.Given.{Over}
use Rattle.agent_run.proofs.agent.give_rest.Goals as goal

-- what the Avro sinks of the host show of their dialers
abbrev dial_of : (g : Over) → DialTold (AvroSink g.row.H-Dialer.Denot g.row.H-Dialer-Link.Denot g.H.Dialer.Dialer g.H.Dialer.Link.Link)
dial_of g = record {
  endpoint = λ s. g.H.Dialer.Dialer.endpoint s.dialer;
  links = λ s. closed_links g.H.Dialer.Dialer.told g.H.Dialer.Link.Link.told s.dialer s.opened;
  faults = λ s. g.H.Dialer.Dialer.faults s.dialer;
  IsIdle = λ s. s.opened ≡ None;
  HasAllBack = λ s. HasBack (g.H.Dialer.Dialer.told s.dialer) s.opened;
}

-- a sink of the host
abbrev Sink : Over → Type 0
Sink g = AgentSink g.row.H-Roll.Denot (AvroSink g.row.H-Dialer.Denot g.row.H-Dialer-Link.Denot g.H.Dialer.Dialer g.H.Dialer.Link.Link) g.row.B.Denot

pub ungroup_sinks-requires-clause-within : goal.ungroup_sinks-requires-clause-within
ungroup_sinks-requires-clause-within g c =
    subst (λ (n : ℕ). AreBelow n (places_of c.args.rows.now)) (sym (ap length c.as_mut_slice.ensures.value ∙ c.requires.places)) c.requires.order.within

pub give_back_sinks-requires-clause-opened : goal.give_back_sinks-requires-clause-opened
give_back_sinks-requires-clause-opened g c κs within =
    let places = c.args.places in
    let sinks = c.ungroup_sinks.new.sinks in
    let size : length sinks ≡ places.len = c.ungroup_sinks.ensures.others.many ∙ ap length c.as_mut_slice.ensures.value ∙ sym places.ok.0 in
    let many = ap length (with_items_is places sinks size) ∙ size ∙ places.ok.0 ∙ c.requires.places in
    subst (λ (n : ℕ). AreOpened (g.H.Host.folders c.args.host.now) c.args.plans.now n) (sym many) c.requires.sinks

pub give_back_sinks-requires-clause-dialed : goal.give_back_sinks-requires-clause-dialed
give_back_sinks-requires-clause-dialed g c κs within =
    let places = c.args.places in
    let sinks = c.ungroup_sinks.new.sinks in
    let size : length sinks ≡ places.len = c.ungroup_sinks.ensures.others.many ∙ ap length c.as_mut_slice.ensures.value ∙ sym places.ok.0 in
    let may = c.requires.dials.each sinks (size ∙ places.ok.0 ∙ c.requires.places) c.ungroup_sinks.ensures.dealt in
    subst (λ (l : List (Sink g)). AreDialed (dial_of g) c.args.plans.now l) (sym (with_items_is places sinks size)) may.dialed

pub give_back_sinks-requires-clause-out : goal.give_back_sinks-requires-clause-out
give_back_sinks-requires-clause-out g c κs within =
    let places = c.args.places in
    let sinks = c.ungroup_sinks.new.sinks in
    let size : length sinks ≡ places.len = c.ungroup_sinks.ensures.others.many ∙ ap length c.as_mut_slice.ensures.value ∙ sym places.ok.0 in
    let may = c.requires.dials.each sinks (size ∙ places.ok.0 ∙ c.requires.places) c.ungroup_sinks.ensures.dealt in
    subst (λ (l : List (Sink g)). AreOut (ends_of (dials_back (dial_of g) c.args.plans.now l)) (g.H.Host.state c.args.host.now).dialers) (sym (with_items_is places sinks size)) may.out

pub close_channels-requires-clause-of : goal.close_channels-requires-clause-of
close_channels-requires-clause-of g c κs within =
    let old = g.H.Host.folders c.args.host.now in
    let mid = g.H.Host.folders c.give_back_sinks.new.host in
    let back = c.give_back_sinks.ensures.folders in
    subst (λ (w : List ChannelWish). AreOfWishes mid w c.args.settled.closed.items) (sym c.as_slice-2.ensures.value)
    (of_wishes_later old mid back.disks_opened c.args.wishes.items c.args.settled.closed.items c.requires.of)

pub returns-clause-back : goal.returns-clause-back
returns-clause-back g c =
    let old : HostTold = record { state = g.H.Host.state c.args.host.now; folders = g.H.Host.folders c.args.host.now } in
    let sunk : HostTold = record { state = g.H.Host.state c.give_back_sinks.new.host; folders = g.H.Host.folders c.give_back_sinks.new.host } in
    let shut : HostTold = record { state = g.H.Host.state c.close_channels.new.host; folders = g.H.Host.folders c.close_channels.new.host } in
    let plans = c.args.plans.now in
    let places = c.args.places in
    let sinks = c.ungroup_sinks.new.sinks in
    let size : length sinks ≡ places.len = c.ungroup_sinks.ensures.others.many ∙ ap length c.as_mut_slice.ensures.value ∙ sym places.ok.0 in
    let is = with_items_is places sinks size in
    record {
      sinks = sinks;
      many = size ∙ places.ok.0 ∙ c.requires.places;
      dealt = c.ungroup_sinks.ensures.dealt;
      behind_sinks = sunk;
      behind_disks = shut;
      dials = subst (λ (l : List (Sink g)). DialersBack (dials_back (dial_of g) plans l) old.state sunk.state) is c.give_back_sinks.ensures.dials;
      rolls = subst (λ (l : List (Sink g)). RollsBack (rolls_of g.H.Roll.RollDir.rolled plans l) old.folders sunk.folders) is c.give_back_sinks.ensures.folders;
      rests = subst (λ (l : List (EitherClosed (g.row.H-Disk.Denot × FileState) MemoryChannel)). All (IsAtRest g.H.Disk.Disk.told g.H.Disk.Disk.faults) l) c.as_slice.ensures.value c.channels_rest.ensures;
      disks = subst (λ (w : List ChannelWish). DisksBack (backs_of g.H.Disk.Disk.told g.H.Disk.Disk.faults w c.args.settled.closed.items) sunk shut) c.as_slice-2.ensures.value c.close_channels.ensures.back;
      folders = c.report_on-report.ensures.folders;
      report = subst (λ (l : List (String Global × Counts)). IsReported c.args.streams.output_failed (report_text l) c.report_on-report.result shut.state (g.H.Host.state c.report_on-report.new.host))
          c.as_slice-3.ensures.value c.report_on-report.ensures.reported;
      rest = c.report_on-report.ensures.rest;
    }
