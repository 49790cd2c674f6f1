use Rattle.std.proofs.Common.{◌≡◌, None, length}
use Rattle.std.specs.Prelude.{reverse}
use Rattle.avro_ends.specs.Deliveries.{HasBack}
use Rattle.avro_ends.specs.Dialing.{DialTold, closed_links}
use Rattle.avro_ends.specs.declared.sink.AvroSink.{AvroSink}
use Rattle.agent_outside.specs.Dials.{DialsOpened}
use Rattle.agent_outside.specs.Sinks.{SinksOpened}
use Rattle.agent_outside.proofs.Boxing.{Boxing}
use Rattle.agent_outside.proofs.sinks.open_sinks.Given as goal

-- what the Avro sinks of the host show of their dialers
abbrev pub dial_of : (g : goal.Over) → DialTold (AvroSink g.row.H-Dialer.Denot g.row.H-Dialer-Link.Denot g.H.Dialer.Dialer g.H.Dialer.Link.Link)
dial_of g = record {
  endpoint = λ s. g.H.Dialer.Dialer.endpoint s.dialer;
  links = λ s. closed_links g.H.Dialer.Dialer.told g.H.Dialer.Link.Link.told s.dialer s.opened;
  faults = λ s. g.H.Dialer.Dialer.faults s.dialer;
  IsIdle = λ s. s.opened ≡ None;
  HasAllBack = λ s. HasBack (g.H.Dialer.Dialer.told s.dialer) s.opened;
}

abbrev pub invariant-loop-plan : goal.invariant-loop-plan
invariant-loop-plan g l = record {
  many : length l.sinks.items ≡ l.plan-index;
  opened : SinksOpened g.H.Roll.RollDir.rolled g.H.Roll.RollDir.faults l.plans (g.H.Host.folders l.fn.host) (g.H.Host.folders l.host) l.sinks.items;
  dialed : DialsOpened (dial_of g) l.plans (g.H.Host.state l.fn.host) (g.H.Host.state l.host) l.sinks.items;
  boxing : Boxing l.plans (reverse l.fn.objects.items) (reverse l.objects.items) l.sinks.items;
}
