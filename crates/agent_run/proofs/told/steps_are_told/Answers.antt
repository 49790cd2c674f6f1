use Rattle.std.proofs.Common.{◌≡◌, ◌∙◌, None, refl, ap, sym, subst}
use Rattle.flume_host.specs.HostState.{HostState}
use Rattle.run_tracks.specs.Places.{Zips}
use Rattle.avro_ends.specs.Deliveries.{HasBack, SinkLinks}
use Rattle.avro_ends.specs.Dialing.{DialTold, closed_links}
use Rattle.avro_ends.specs.declared.sink.AvroSink.{AvroSink}
use Rattle.agent_run.proofs.Apart.{folders_apart}
use Rattle.agent_run.proofs.Asking.{agent_asks, agent_stays}
use Rattle.agent_run.proofs.Boxing.{agent_hands}
use Rattle.agent_run.proofs.Leaving.{IsSameChannel, returned_channels, run_folders, run_left, run_members}
use Rattle.agent_run.proofs.Lone.{plan_lone, seats_of}
use Rattle.run_opening.proofs.Readying.{rows_in_order}
use Rattle.agent_run.proofs.Reasons.{run_causes}
use Rattle.agent_run.proofs.Returning.{gone_back}
use Rattle.agent_run.proofs.Rolling.{agent_writes}
use Rattle.agent_run.proofs.Worked.{run_did}
use Rattle.agent_run.proofs.told.steps_are_told.Given.{Over}
use Rattle.agent_run.proofs.told.steps_are_told.Goals as goal

-- what the Avro sinks of the host show of their dialers
abbrev dial_of : (g : Over) → DialTold (AvroSink g.row.H-Dialer.Denot g.row.H-Dialer-Link.Denot g.H.Dialer.Dialer g.H.Dialer.Link.Link)
dial_of g = record {
  endpoint = λ s. g.H.Dialer.Dialer.endpoint s.dialer;
  links = λ s. closed_links g.H.Dialer.Dialer.told g.H.Dialer.Link.Link.told s.dialer s.opened;
  faults = λ s. g.H.Dialer.Dialer.faults s.dialer;
  IsIdle = λ s. s.opened ≡ None;
  HasAllBack = λ s. HasBack (g.H.Dialer.Dialer.told s.dialer) s.opened;
}

-- the dialer of one, and the link that is open
abbrev links_of : (g : Over) → AvroSink g.row.H-Dialer.Denot g.row.H-Dialer-Link.Denot g.H.Dialer.Dialer g.H.Dialer.Link.Link → SinkLinks g.row.H-Dialer.Denot g.row.H-Dialer-Link.Denot
links_of g s = record { dialer = s.dialer; opened = s.opened }

pub returns : goal.returns
returns g c = λ given objects plan ends channels a b planned ran.
    run_did _ _ _ _ _ _ _ _ _ _ _ _ _ _ _ _ _ c.run_is_told.ensures.in_full c.run_is_told.ensures.lines c.run_is_told.ensures.well plan _ _ _ _
    (λ rows prepared old new out is. ap (λ (s : HostState). s.input) is.opened.opened.out.state ∙ ap (λ (s : HostState). s.input) is.opened.dials.out.state)
    (λ rows prepared old new out is. ap (λ (s : HostState). s.output) is.opened.opened.out.state ∙ ap (λ (s : HostState). s.output) is.opened.dials.out.state)
    g.B.EventSink.delivers objects ends channels a b ran
    (run_members _ (dial_of g) g.H.Disk.Disk.told g.H.Disk.Disk.faults _ _ _ _ _ _ _ plan _ _ _ _ _ c.delivered_batches_are_in_files.ensures _ c.runners_split.ensures (agent_writes _) (links_of g)
    g.H.Dialer.Dialer.told g.H.Dialer.Dialer.faults g.H.Dialer.Link.Link.told g.H.Dialer.Link.Link.faults
    (λ s batch moment answer b is. agent_asks g.H.Roll.RollDir.rolled (links_of g) g.H.Dialer.Dialer.told g.H.Dialer.Dialer.faults g.H.Dialer.Link.Link.told g.H.Dialer.Link.Link.faults g.H.Dialer.Dialer.endpoint
    batch moment answer s b is)
    c.requests_are_on_links.ensures (record { closed = λ s. refl; idle = λ s is. is })
    (λ s batch moment answer t one. agent_stays g.H.Roll.RollDir.rolled (links_of g) g.H.Dialer.Dialer.told g.H.Dialer.Dialer.faults g.H.Dialer.Link.Link.told g.H.Dialer.Link.Link.faults g.H.Dialer.Dialer.endpoint
    batch moment answer (λ x y. g.B.EventSink.delivers x batch moment answer y) (dial_of g) (λ x. refl) s t one)
    g.B.EventSink.delivers objects (agent_hands g.B.EventSink.delivers)
    (rows_in_order c.rows_are_apart.ensures c.groups_name_what_is_there.ensures c.sinks_stand_once.ensures plan planned)
    (λ rows prepared old new out is. record {
      sinks = is.sinks;
      many = is.opened.many;
      opened = is.opened.sinks;
      boxed = is.opened.boxed;
      between = is.opened.between;
      dials = is.opened.dials;
      after = ap (λ (s : HostState). s.dialers) is.opened.opened.out.state;
      dealt = is.dealt;
    }) ends channels a b _ ran)
    (run_causes _ _ _ _ _ g.H.Source.Source.left g.H.Source.Source.faults _ _ _ _ _ _ _ _ _ _ plan _ _ _ _ c.one_cut.ensures (λ v w ran. ran)
    (λ prepared drafted. seats_of plan.sources.items given drafted.names prepared.lines.items (plan_lone plan planned) drafted.lines)
    (λ rows prepared old new out is. (
      ap (λ (s : HostState). s.input) is.opened.opened.out.state ∙ ap (λ (s : HostState). s.input) is.opened.dials.out.state,
      ap (λ (s : HostState). s.faults) is.opened.opened.out.state ∙ ap (λ (s : HostState). s.faults) is.opened.dials.out.state,
    ))
    (λ manned listeners s t is. (ap (λ (s : HostState). s.input) is.back.state, ap (λ (s : HostState). s.faults) is.back.state))
    (gone_back _ _ g.H.Disk.Disk.told g.H.Disk.Disk.faults _) ends channels a b ran)
    (run_folders _ _ g.H.Disk.Disk.told g.H.Disk.Disk.faults _ _ _ _ _ _ _ plan _ _ _ _ (folders_apart plan planned) ends channels a b ran)
    (λ zero. run_left _ _ g.H.Disk.Disk.told g.H.Disk.Disk.faults _ _ _ _ _ _ _ plan _ _ _ _
    (λ manned homes joined s t is. subst (λ sinks. Zips IsSameChannel manned.crew.jobs.sinks.items sinks.items) (sym is.sinks)
    (returned_channels _ _ _ _ _ _ manned.crew.shares.items homes manned.crew.jobs is.returned is.back)) (folders_apart plan planned) ends channels a b ran zero)
