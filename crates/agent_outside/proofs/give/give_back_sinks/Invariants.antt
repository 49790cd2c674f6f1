use Rattle.std.proofs.Common.{◌≡◌, ◌≤◌, None, length}
use Rattle.flume_host.specs.HostState.{Folders, HostState}
use Rattle.avro_ends.specs.Deliveries.{HasBack}
use Rattle.avro_ends.specs.Dialing.{DialTold, closed_links}
use Rattle.avro_ends.specs.declared.sink.AvroSink.{AvroSink}
use Rattle.agent_outside.specs.Backs.{RollsBack}
use Rattle.agent_outside.specs.Dials.{AreDialed, DialersBack, dials_back}
use Rattle.agent_outside.specs.Ends.{AreOut, ends_of}
use Rattle.agent_outside.specs.Sinks.{AreOpened, backs_of}
use Rattle.agent_outside.proofs.give.give_back_sinks.Given as goal

-- what the Avro sinks of the host show of their dialers
abbrev pub dial_of : (g : goal.Over) → DialTold (AvroSink g.row.H-Dialer.Denot g.row.H-Dialer-Link.Denot g.H.Dialer.Dialer g.H.Dialer.Link.Link)
dial_of g = record {
  endpoint = λ s. g.H.Dialer.Dialer.endpoint s.dialer;
  links = λ s. closed_links g.H.Dialer.Dialer.told g.H.Dialer.Link.Link.told s.dialer s.opened;
  faults = λ s. g.H.Dialer.Dialer.faults s.dialer;
  IsIdle = λ s. s.opened ≡ None;
  HasAllBack = λ s. HasBack (g.H.Dialer.Dialer.told s.dialer) s.opened;
}

abbrev pub invariant-loop-sink : goal.invariant-loop-sink
invariant-loop-sink g l = record {
  are : AreOpened (g.H.Host.folders l.host) l.plans (length l.left.items);
  dialed : AreDialed (dial_of g) l.plans l.left.items;
  out : AreOut (ends_of (dials_back (dial_of g) l.plans l.left.items)) (g.H.Host.state l.host).dialers;
  few : length l.left.items ≤ length l.plans;
  rest : (end : Folders) → RollsBack (backs_of g.H.Roll.RollDir.rolled l.plans l.left.items) (g.H.Host.folders l.host) end → RollsBack (backs_of g.H.Roll.RollDir.rolled l.plans l.fn.sinks.items) (g.H.Host.folders l.fn.host) end;
  dials : (end : HostState) → DialersBack (dials_back (dial_of g) l.plans l.left.items) (g.H.Host.state l.host) end
      → DialersBack (dials_back (dial_of g) l.plans l.fn.sinks.items) (g.H.Host.state l.fn.host) end;
}

abbrev pub decreases-loop-sink : goal.decreases-loop-sink
decreases-loop-sink g l = length l.left.items
