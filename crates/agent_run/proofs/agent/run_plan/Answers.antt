use Rattle.std.proofs.Common.{rules, ◌≡◌, ◌∙◌, ◌<◌, inl, inr, ℕ, List, All, length, sym, ap, subst, arith}
use Rattle.std.proofs.lemmas.Result.{err_from_is_err_and}
use Rattle.channel_wishes.specs.Openings.{HostTold}
use Rattle.channel_wishes.specs.Opened.{AreOpened}
use Rattle.channel_wishes.specs.declared.wish.ChannelWish.{ChannelWish}
use Rattle.agent_words.specs.Statuses.{status_of}
use Rattle.agent_words.specs.declared.error.RunError.{RunError}
use Rattle.agent_plan.specs.declared.plan.GroupPlan.{GroupPlan}
use Rattle.flume_host.specs.HostState.{HostState}
use Rattle.grouped_sinks.specs.Frames.{IsFit, IsFrameOf}
use Rattle.grouped_sinks.specs.Rows.{AreRows, Zips}
use Rattle.grouped_sinks.specs.declared.row.SinkRow.{SinkRow}
use Rattle.grouped_sinks.proofs.Limits.{rows_fit}
use Rattle.run_opening.proofs.Readying.{few_users, groups_there, groups_weighed, were_opened}
use Rattle.agent_run.proofs.Refusing.{channel_refused, if_err, outside_refused, refused_there, unprepared_run}
use Rattle.run_opening.specs.Lists.{HasRoomFor}
use Rattle.agent_run.specs.NotBegun.{IsRefusedOutside, IsRunRefused}
use Rattle.agent_run.proofs.Answering.{if_ok}
use Rattle.run_opening.specs.Prepared.{IsDrafted, uses_of}
use Rattle.agent_run.proofs.agent.run_plan.Goals as goal

pub rows_of-requires : goal.rows_of-requires
rows_of-requires g c = record { there = groups_there c.groups_name_what_is_there.ensures c.args.plan.now c.requires.planned }

pub frames_of-requires-after_bounds : goal.frames_of-requires-after_bounds
frames_of-requires-after_bounds g c κs within =
    let plan = c.args.plan.now in
    let fit = rows_fit plan.sinks.items plan.groups.items c.in_ok-rows.rows.items (groups_weighed c.groups_name_what_is_there.ensures plan c.requires.planned) c.in_ok-rows.ensures in
    subst (λ (x : List GroupPlan × List SinkRow). All (IsFit x.0) x.1) (λ i. (sym c.as_slice.ensures.value i, sym c.as_slice-rows.ensures.value i)) fit

pub open_channels-requires-clause-users : goal.open_channels-requires-clause-users
open_channels-requires-clause-users g c κs within =
    let plan = c.args.plan.now in
    let p = c.in_ok-prepared.prepared in
    few_users (uses_of p.keepers.items c.as_slice-rows.result.now p.listeners.items p.lines.items) plan.channels.items p.wishes.items c.as_slice-2.result.now c.as_slice-2.ensures.value c.in_ok-prepared.ensures.prepared.wishes

pub run_channels-requires-clause-rows : goal.run_channels-requires-clause-rows
run_channels-requires-clause-rows g c κs within =
    let plan = c.args.plan.now in
    subst (λ (l : List SinkRow). AreRows plan.sinks.items plan.groups.items l) (sym c.as_slice-rows.ensures.value) c.in_ok-rows.ensures

pub run_channels-requires-clause-frames : goal.run_channels-requires-clause-frames
run_channels-requires-clause-frames g c κs within =
    subst (λ (l : List GroupPlan). Zips (IsFrameOf l) c.as_slice-rows.result.now c.in_ok-frames.frames.items) c.as_slice.ensures.value c.in_ok-frames.ensures.frames

pub run_channels-requires-clause-room : goal.run_channels-requires-clause-room
run_channels-requires-clause-room g c κs within =
    let p = c.in_ok-prepared.prepared in
    let listeners : c.len-listeners.result ≡ length p.listeners.items = let e = c.len-listeners.ensures in first_of (omega arith, search (rules, arith)) in
    let keepers : c.len-keepers.result ≡ length p.keepers.items = let e = c.len-keepers.ensures in first_of (omega arith, search (rules, arith)) in
    let lines : c.len.result ≡ length p.lines.items = let e = c.len.ensures in first_of (omega arith, search (rules, arith)) in
    subst (λ (x : ℕ × ℕ × ℕ). HasRoomFor c.args.plan.now x.2 (length c.as_slice-rows.result.now) x.0 x.1 c.in_ok-room.room) (λ i. (listeners i, lines i, keepers i)) c.in_ok-room.ensures

pub run_channels-requires-clause-opened : goal.run_channels-requires-clause-opened
run_channels-requires-clause-opened g c κs within =
    were_opened c.in_ok-prepared.prepared.wishes.items c.as_slice-2.result.now c.in-Ok.opened.items _ _ c.as_slice-2.ensures.value c.in-Ok.ensures.opened

pub index-requires : goal.index-requires
index-requires g c =
    let plans = c.args.plan.now.channels in
    subst (λ (n : ℕ). c.in-Err.field-0.place < n) (sym plans.ok.0)
    (refused_there c.as_slice-2.result.now _ _ c.in-Err.field-0.place (length plans.items) c.in-Err.field-0.cause c.in-Err.ensures.refused
    (ap length c.as_slice-2.ensures.value ∙ c.in_ok-prepared.ensures.prepared.wishes.many))

pub returns-in-Ok-clause-refused : goal.returns-in-Ok-clause-refused
returns-in-Ok-clause-refused g c =
    let plan = c.args.plan.now in
    let p = c.in_ok-prepared.prepared in
    let old : HostTold = record { state = g.H.Host.state c.args.host.now; folders = g.H.Host.folders c.args.host.now } in
    let open_then : HostTold = record { state = g.H.Host.state c.open_channels.new.host; folders = g.H.Host.folders c.open_channels.new.host } in
    let new : HostTold = record { state = g.H.Host.state c.run_channels.new.host; folders = g.H.Host.folders c.run_channels.new.host } in
    let state = c.in_ok-prepared.ensures.same ∙ c.frames_of.ensures.state in
    let folders = c.prepare.ensures.folders ∙ c.frames_of.ensures.folders in
    let opened : AreOpened p.wishes.items c.in-Ok.opened.items old open_then = subst (λ (x : List ChannelWish × HostTold). AreOpened x.0 c.in-Ok.opened.items x.1 open_then)
    (λ i. (c.as_slice-2.ensures.value i, record { state = state i; folders = folders i }))
    c.in-Ok.ensures.opened in
    if_err c.run_channels.result (λ (error : RunError). IsRefusedOutside plan p.places.items p.wishes.items c.in-Ok.opened.items error open_then new) (λ (error : RunError). IsRunRefused plan (status_of error) old new)
    (λ error refused. inr (inr (outside_refused plan p.places.items p.wishes.items c.in-Ok.opened.items error old open_then new (_, c.in_ok-prepared.ensures.prepared.wishes) c.in_ok-prepared.ensures.prepared.places opened refused)))
    c.run_channels.ensures.refused

pub returns-in-Err-clause-refused : goal.returns-in-Err-clause-refused
returns-in-Err-clause-refused g c =
    let plan = c.args.plan.now in
    let p = c.in_ok-prepared.prepared in
    let state = c.in_ok-prepared.ensures.same ∙ c.frames_of.ensures.state in
    let folders = c.prepare.ensures.folders ∙ c.frames_of.ensures.folders in
    inr (inl (channel_refused plan _ p.wishes.items c.as_slice-2.result.now _ _ _ c.in-Err.field-0.place c.in-Err.field-0.cause c.cause_error.result (_, c.in_ok-prepared.ensures.prepared.wishes) c.as_slice-2.ensures.value
    (λ i. record { state = state i; folders = folders i }) c.in-Err.ensures.refused c.cause_error.ensures))

pub returns-in-Ok-clause-ran : goal.returns-in-Ok-clause-ran
returns-in-Ok-clause-ran g c =
    let plan = c.args.plan.now in
    let told : HostTold = record { state = g.H.Host.state c.open_channels.new.host; folders = g.H.Host.folders c.open_channels.new.host } in
    let state = c.in_ok-prepared.ensures.same ∙ c.frames_of.ensures.state in
    let folders = c.prepare.ensures.folders ∙ c.frames_of.ensures.folders in
    if_ok c.run_channels.result _ _
    (λ ends ran. record {
      rows = c.as_slice-rows.result.now;
      are_rows = subst (λ (l : List SinkRow). AreRows plan.sinks.items plan.groups.items l) (sym c.as_slice-rows.ensures.value) c.in_ok-rows.ensures;
      made = c.in_ok-prepared.prepared;
      is_prepared = c.in_ok-prepared.ensures.prepared;
      drafted = subst (λ (s : HostState). IsDrafted c.args.objects.steps.items s.name s.address plan c.in_ok-prepared.prepared) c.frames_of.ensures.state c.in_ok-prepared.ensures.drafted;
      channels = c.in-Ok.opened.items;
      behind = told;
      opened = subst (λ (x : List ChannelWish × HostTold). AreOpened x.0 c.in-Ok.opened.items x.1 told)
          (λ i. (c.as_slice-2.ensures.value i, record { state = state i; folders = folders i }))
          c.in-Ok.ensures.opened;
      ran = ran;
    })
    c.run_channels.ensures.ran

pub returns-in_err-prepared-clause-refused : goal.returns-in_err-prepared-clause-refused
returns-in_err-prepared-clause-refused g c =
    let old : HostTold = record { state = g.H.Host.state c.args.host.now; folders = g.H.Host.folders c.args.host.now } in
    let new : HostTold = record { state = g.H.Host.state c.prepare.new.host; folders = g.H.Host.folders c.prepare.new.host } in
    let p = err_from_is_err_and c.from_residual-in_err-prepared.result c.from_residual-in_err-prepared.ensures.1 in
    rw (p.1)
    (unprepared_run c.args.plan.now p.0 c.in_err-prepared.field-0.0 old new (g.H.Host.state c.frames_of.new.host) p.2 c.frames_of.ensures.state (c.prepare.ensures.folders ∙ c.frames_of.ensures.folders)
    c.in_err-prepared.ensures.refused)
