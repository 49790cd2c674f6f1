use Rattle.std.proofs.Common.{◌≡◌, ℕ, List, [], ◌∷◌, None, Option, string_bytes, sym, subst}
use Rattle.flume_host.specs.HandedOut.{CameBack, IsOut}
use Rattle.flume_host.specs.Listens.{Endpoint, IsFrom}
use Rattle.agent_plan.specs.declared.plan.SinkKind.{SinkKind}
use Rattle.avro_ends.specs.Deliveries.{HasBack}
use Rattle.avro_ends.specs.Dialing.{DialTold, closed_links}
use Rattle.avro_ends.specs.declared.sink.AvroSink.{AvroSink}
use Rattle.agent_sinks.specs.declared.sink.AgentSink.{AgentSink}
use Rattle.agent_outside.specs.Backs.{RollBack, RollsBack}
use Rattle.agent_outside.specs.Dials.{DialersBack, IsDialed, dial_back}
use Rattle.agent_outside.specs.Ends.{AreOut, ends_of}
use Rattle.agent_outside.specs.Sinks.{back_of}
use Rattle.agent_outside.proofs.give.give_back_sink.Given.{Over}
use Rattle.agent_outside.proofs.Backing.{back_one}
use Rattle.agent_outside.proofs.Dialing.{dial_one}
use Rattle.agent_outside.proofs.Ending.{out_own}
use Rattle.agent_outside.proofs.give.give_back_sink.Goals as goal

-- what the Avro sinks of the host show of their dialers
abbrev dial_of : (g : Over) → DialTold (AvroSink g.row.H-Dialer.Denot g.row.H-Dialer-Link.Denot g.H.Dialer.Dialer g.H.Dialer.Link.Link)
dial_of g = record {
  endpoint = λ s. g.H.Dialer.Dialer.endpoint s.dialer;
  links = λ s. closed_links g.H.Dialer.Dialer.told g.H.Dialer.Link.Link.told s.dialer s.opened;
  faults = λ s. g.H.Dialer.Dialer.faults s.dialer;
  IsIdle = λ s. s.opened ≡ None;
  HasAllBack = λ s. HasBack (g.H.Dialer.Dialer.told s.dialer) s.opened;
}

pub returns-in-Roll-kind-clause-folders : goal.returns-in-Roll-kind-clause-folders
returns-in-Roll-kind-clause-folders g c =
    let old = g.H.Host.folders c.args.host.now in
    let new = g.H.Host.folders c.keep_roll.new.self in
    let rolled = g.H.Roll.RollDir.rolled in
    let one = back_one c.as_str.result.now (rolled c.close.result) old new c.keep_roll.ensures.others c.keep_roll.ensures.told c.keep_roll.ensures.opened in
    let is = subst (λ (l : List RollBack). RollsBack l old new) (λ i. record { path = c.as_str.ensures.value i; told = rolled (c.close.ensures i) } ∷ []) one in
    subst (λ (x : SinkKind × AgentSink _ _ _). RollsBack (back_of rolled x.0 x.1) old new) (λ i. (sym c.in-Roll-kind.is i, sym c.in-Roll.is i)) is

pub keep_dialer-requires-clause-out : goal.keep_dialer-requires-clause-out
keep_dialer-requires-clause-out g c =
    let all = (g.H.Host.state c.args.host.now).dialers in
    let end : Endpoint = record { host = string_bytes c.in-Avro-kind.address; port = c.in-Avro-kind.port } in
    let here = subst (λ (x : SinkKind × AgentSink _ _ _). AreOut (ends_of (dial_back (dial_of g) x.0 x.1)) all) (λ i. (c.in-Avro-kind.is i, c.in-Avro.is i)) c.requires.out in
    subst (λ (h : List ℕ). IsOut h c.in-Avro-kind.port all) (sym c.as_str-in-Avro-kind.ensures.value) (out_own end all here)

pub keep_dialer-requires-clause-from : goal.keep_dialer-requires-clause-from
keep_dialer-requires-clause-from g c =
    let here = subst (λ (x : SinkKind × AgentSink _ _ _). IsDialed (dial_of g) x.0 x.1) (λ i. (c.in-Avro-kind.is i, c.in-Avro.is i)) c.requires.dialed in
    subst (λ (x : List ℕ × Option Endpoint). IsFrom x.0 c.in-Avro-kind.port x.1) (λ i. (sym c.as_str-in-Avro-kind.ensures.value i, sym c.close-in-Avro-kind.ensures.endpoint i)) here

pub returns-in-Avro-kind-clause-dials : goal.returns-in-Avro-kind-clause-dials
returns-in-Avro-kind-clause-dials g c =
    let old = g.H.Host.state c.args.host.now in
    let new = g.H.Host.state c.keep_dialer.new.self in
    let back = c.close-in-Avro-kind.ensures in
    let is = dial_one (record { host = c.as_str-in-Avro-kind.result.now; port = c.in-Avro-kind.port; told = g.H.Dialer.Dialer.told c.close-in-Avro-kind.result; waits = 0; faults = g.H.Dialer.Dialer.faults c.close-in-Avro-kind.result })
    old new c.keep_dialer.ensures.state.0 c.keep_dialer.ensures.state.1 c.keep_dialer.ensures.state.2 in
    let one = subst (λ (l : List CameBack). DialersBack l old new)
    (λ i. record { host = c.as_str-in-Avro-kind.ensures.value i; port = c.in-Avro-kind.port; told = back.told i; waits = 0; faults = back.count i } ∷ []) is in
    subst (λ (x : SinkKind × AgentSink _ _ _). DialersBack (dial_back (dial_of g) x.0 x.1) old new) (λ i. (sym c.in-Avro-kind.is i, sym c.in-Avro.is i)) one
