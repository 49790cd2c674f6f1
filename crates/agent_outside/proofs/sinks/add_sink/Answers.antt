use Rattle.std.proofs.Common.{◌≡◌, ◌∙◌, inl, inr, ℕ, List, [], ◌∷◌, None, refl, sym, subst}
use Rattle.std.proofs.lemmas.List.{append-nil}
use Rattle.agent_sinks.specs.declared.sink.AgentSink.{AgentSink}
use Rattle.avro_ends.specs.Deliveries.{HasBack}
use Rattle.avro_ends.specs.Dialing.{DialTold, closed_links}
use Rattle.avro_ends.specs.declared.sink.AvroSink.{AvroSink}
use Rattle.agent_outside.specs.Backs.{Reopened, RollsBack, paths_of}
use Rattle.agent_outside.specs.Dials.{DialersBack, dial_back}
use Rattle.agent_outside.specs.Sinks.{back_of, folder_of}
use Rattle.agent_outside.proofs.Backing.{reopened_none, reopened_then}
use Rattle.agent_outside.proofs.Dialing.{unopened_dial}
use Rattle.agent_outside.proofs.Ordering.{kind_paths}
use Rattle.agent_outside.proofs.sinks.add_sink.Given.{Over}
use Rattle.agent_outside.proofs.sinks.add_sink.Goals as goal

-- what the Avro sinks of the host show of their dialers
abbrev dial_of : (g : Over) → DialTold (AvroSink g.row.H-Dialer.Denot g.row.H-Dialer-Link.Denot g.H.Dialer.Dialer g.H.Dialer.Link.Link)
dial_of g = record {
  endpoint = λ s. g.H.Dialer.Dialer.endpoint s.dialer;
  links = λ s. closed_links g.H.Dialer.Dialer.told g.H.Dialer.Link.Link.told s.dialer s.opened;
  faults = λ s. g.H.Dialer.Dialer.faults s.dialer;
  IsIdle = λ s. s.opened ≡ None;
  HasAllBack = λ s. HasBack (g.H.Dialer.Dialer.told s.dialer) s.opened;
}

pub returns-in-Err-clause-refused : goal.returns-in-Err-clause-refused
returns-in-Err-clause-refused g c = record {
  plans = [];
  which = inl refl;
  folders = reopened_none (g.H.Host.folders c.args.host.now) (g.H.Host.folders c.open_sink.new.host) c.in-Err.ensures.folders;
  dials = c.in-Err.ensures.refused;
}

pub returns-in-Err-push-clause-refused : goal.returns-in-Err-push-clause-refused
returns-in-Err-push-clause-refused g c =
    let plan = c.args.plan.now in
    let kind = plan.kind in
    let rolled = g.H.Roll.RollDir.rolled in
    let old = g.H.Host.folders c.args.host.now in
    let out = g.H.Host.folders c.open_sink.new.host in
    let new = g.H.Host.folders c.give_back_sink.new.host in
    let begun = g.H.Host.state c.args.host.now in
    let opened = g.H.Host.state c.open_sink.new.host in
    let ended = g.H.Host.state c.give_back_sink.new.host in
    let sink = c.in-Ok.sink in
    let backs = back_of rolled kind sink in
    let back = subst (λ (s : AgentSink _ _ _). RollsBack (back_of rolled kind s) out new) c.in-Err-push.ensures.value_returned c.give_back_sink.ensures.folders in
    let came = subst (λ (s : AgentSink _ _ _). DialersBack (dial_back (dial_of g) kind s) opened ended) c.in-Err-push.ensures.value_returned c.give_back_sink.ensures.dials in
    record {
      plans = plan ∷ [];
      which = inr refl;
      folders = subst (λ (l : List (List ℕ)). Reopened l old new) (append-nil (paths_of backs) ∙ kind_paths rolled out kind sink c.in-Ok.ensures.of ∙ sym (append-nil (folder_of kind)))
          (reopened_then backs [] old out out new c.in-Ok.ensures.out (reopened_none out out refl) back);
      dials = unopened_dial (dial_of g) out plan sink begun opened ended c.in-Ok.ensures.of c.in-Ok.ensures.dialed c.in-Ok.ensures.dials came;
    }
