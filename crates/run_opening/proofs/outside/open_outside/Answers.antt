use Rattle.std.proofs.Common.{◌≡◌, ◌∙◌, ℕ, List, None, length, map, take, sym, ap, subst}
use Rattle.std.specs.Prelude.{reverse}
use Rattle.flume_host.specs.HostState.{Folders, HostState}
use Rattle.agent_plan.specs.declared.plan.SinkPlan.{SinkPlan}
use Rattle.agent_plan.specs.declared.plan.SourcePlan.{SourcePlan}
use Rattle.channel_wishes.specs.Openings.{HostTold}
use Rattle.agent_outside.specs.Backs.{RollsBack}
use Rattle.agent_outside.specs.Dials.{DialersBack, DialsOpened, dials_back}
use Rattle.agent_outside.specs.Ends.{end_at}
use Rattle.agent_outside.specs.Listening.{IsFresh, ListenersOpened, ListensRefused}
use Rattle.agent_outside.specs.Sinks.{AreBoxed, AreOpened, SinksOpened, SinksRefused, backs_of}
use Rattle.avro_ends.specs.Deliveries.{HasBack}
use Rattle.avro_ends.specs.Dialing.{DialTold, closed_links}
use Rattle.avro_ends.specs.declared.sink.AvroSink.{AvroSink}
use Rattle.agent_outside.proofs.Dialing.{are_dialed}
use Rattle.agent_outside.proofs.Ordering.{are_opened}
use Rattle.run_opening.proofs.Unopened.{listeners_refused, opened_out, sinks_refused}
use Rattle.run_opening.proofs.outside.open_outside.Given.{Over}
use Rattle.run_opening.proofs.outside.open_outside.Goals as goal

-- what the Avro sinks of the host show of their dialers
abbrev dial_of : (g : Over) → DialTold (AvroSink g.row.H-Dialer.Denot g.row.H-Dialer-Link.Denot g.H.Dialer.Dialer g.H.Dialer.Link.Link)
dial_of g = record {
  endpoint = λ s. g.H.Dialer.Dialer.endpoint s.dialer;
  links = λ s. closed_links g.H.Dialer.Dialer.told g.H.Dialer.Link.Link.told s.dialer s.opened;
  faults = λ s. g.H.Dialer.Dialer.faults s.dialer;
  IsIdle = λ s. s.opened ≡ None;
  HasAllBack = λ s. HasBack (g.H.Dialer.Dialer.told s.dialer) s.opened;
}

pub give_back_sinks-requires-clause-opened : goal.give_back_sinks-requires-clause-opened
give_back_sinks-requires-clause-opened g c κs within =
    let plans = c.as_slice-plans.result.now in
    let sinks = c.in-Ok.sinks.items in
    subst (λ (f : Folders). AreOpened f plans (length sinks)) (sym c.open_listeners.ensures.folders)
    (are_opened (g.H.Host.folders c.open_sinks.new.host) plans sinks c.in-Ok.ensures.opened.are)

pub give_back_sinks-requires-clause-dialed : goal.give_back_sinks-requires-clause-dialed
give_back_sinks-requires-clause-dialed g c κs within =
    are_dialed (dial_of g) (g.H.Host.state c.args.host.now).dialers c.as_slice-plans.result.now c.in-Ok.sinks.items c.in-Ok.ensures.dialed.made

pub give_back_sinks-requires-clause-out : goal.give_back_sinks-requires-clause-out
give_back_sinks-requires-clause-out g c κs within =
    let listens = c.in-Err-open_listeners.ensures.refused in
    opened_out (dial_of g) (g.H.Host.folders c.open_sinks.new.host) c.as_slice-plans.result.now (g.H.Host.state c.args.host.now) (g.H.Host.state c.open_sinks.new.host) (g.H.Host.state c.open_listeners.new.host)
    c.in-Ok.sinks.items c.in-Ok.ensures.opened.are c.in-Ok.ensures.dialed (ap (λ (s : HostState). s.dialers) listens.1.state)

pub returns-in-Err-open_listeners-clause-refused : goal.returns-in-Err-open_listeners-clause-refused
returns-in-Err-open_listeners-clause-refused g c =
    let rolled = g.H.Roll.RollDir.rolled in
    let faults = g.H.Roll.RollDir.faults in
    let plan = c.args.plan.now in
    let sinks = c.in-Ok.sinks.items in
    let a : HostTold = record { state = g.H.Host.state c.args.host.now; folders = g.H.Host.folders c.args.host.now } in
    let m : HostTold = record { state = g.H.Host.state c.open_sinks.new.host; folders = g.H.Host.folders c.open_sinks.new.host } in
    let n : HostTold = record { state = g.H.Host.state c.open_listeners.new.host; folders = g.H.Host.folders c.open_listeners.new.host } in
    let b : HostTold = record { state = g.H.Host.state c.give_back_sinks.new.host; folders = g.H.Host.folders c.give_back_sinks.new.host } in
    let same = c.as_slice-plans.ensures.value in
    listeners_refused rolled faults (dial_of g) plan c.args.places.now c.in-Err-open_listeners.refused a m n b sinks
    (subst (λ (l : List SinkPlan). SinksOpened rolled faults l a.folders m.folders sinks) same c.in-Ok.ensures.opened)
    (subst (λ (l : List SinkPlan). DialsOpened (dial_of g) l a.state m.state sinks) same c.in-Ok.ensures.dialed)
    (subst (λ (l : List SourcePlan). (opened : ℕ) × ListensRefused c.in-Err-open_listeners.refused (map (end_at l) (take opened c.args.places.now)) m.state n.state) c.as_slice.ensures.value
    c.in-Err-open_listeners.ensures.refused)
    c.open_listeners.ensures.folders (subst (λ (l : List SinkPlan). RollsBack (backs_of rolled l sinks) n.folders b.folders) same c.give_back_sinks.ensures.folders)
    (subst (λ (l : List SinkPlan). DialersBack (dials_back (dial_of g) l sinks) n.state b.state) same c.give_back_sinks.ensures.dials)

pub returns-in-Err-clause-refused : goal.returns-in-Err-clause-refused
returns-in-Err-clause-refused g c =
    let a : HostTold = record { state = g.H.Host.state c.args.host.now; folders = g.H.Host.folders c.args.host.now } in
    let b : HostTold = record { state = g.H.Host.state c.open_sinks.new.host; folders = g.H.Host.folders c.open_sinks.new.host } in
    sinks_refused c.args.plan.now c.args.places.now c.in-Err.refused a b
    (subst (λ (l : List SinkPlan). SinksRefused l c.in-Err.refused a.folders b.folders a.state b.state) c.as_slice-plans.ensures.value c.in-Err.ensures.refused)

pub returns-in-Ok-open_listeners-clause-opened : goal.returns-in-Ok-open_listeners-clause-opened
returns-in-Ok-open_listeners-clause-opened g c =
    let rolled = g.H.Roll.RollDir.rolled in
    let faults = g.H.Roll.RollDir.faults in
    let sinks = c.in-Ok.sinks.items in
    let old = g.H.Host.folders c.args.host.now in
    let begun = g.H.Host.state c.args.host.now in
    let between = g.H.Host.state c.open_sinks.new.host in
    let end = g.H.Host.state c.open_listeners.new.host in
    let fresh = IsFresh g.H.Listener.Listener.told g.H.Listener.Listener.endpoint g.H.Listener.Listener.waits g.H.Listener.Listener.faults in
    record {
      many = c.in-Ok.ensures.many ∙ ap length c.as_slice-plans.ensures.value;
      sinks = subst (λ (x : List SinkPlan × Folders). SinksOpened rolled faults x.0 old x.1 sinks) (λ i. (c.as_slice-plans.ensures.value i, sym c.open_listeners.ensures.folders i)) c.in-Ok.ensures.opened;
      boxed = subst (λ (l : List SinkPlan). AreBoxed l (reverse c.args.objects.items) sinks) c.as_slice-plans.ensures.value c.in-Ok.ensures.boxed;
      between = between;
      dials = subst (λ (l : List SinkPlan). DialsOpened (dial_of g) l begun between sinks) c.as_slice-plans.ensures.value c.in-Ok.ensures.dialed;
      named = c.in-Ok-open_listeners.named.items;
      with_places = record { sources = c.in-Ok-open_listeners.ensures.opened.order; listeners = sym c.bare.ensures.bare };
      opened = subst (λ (l : List SourcePlan). ListenersOpened fresh l c.args.places.now between end c.in-Ok-open_listeners.named.items) c.as_slice.ensures.value c.in-Ok-open_listeners.ensures.opened;
    }
