use Rattle.std.proofs.Common.{◌≡◌, ◌∙◌, ℕ, List, All, length, refl, sym, ap, subst}
use Rattle.std.proofs.lemmas.List.{length-map}
use Rattle.std.specs.declared.alloc.Global.{Global}
use Rattle.std.specs.declared.vec.Vec.{Vec}
use Rattle.agent_plan.specs.declared.plan.GroupPlan.{GroupPlan}
use Rattle.agent_outside.specs.Ends.{ListensAt}
use Rattle.agent_outside.specs.Sinks.{AreOpened}
use Rattle.agent_outside.proofs.Ordering.{are_opened}
use Rattle.channel_wishes.specs.Places.{AreOut}
use Rattle.channel_wishes.specs.Openings.{HostTold}
use Rattle.channel_wishes.specs.Opened.{WereOpened}
use Rattle.agent_channels.specs.Several.{AreUnused}
use Rattle.channel_wishes.specs.declared.wish.ChannelWish.{ChannelWish}
use Rattle.grouped_sinks.specs.Frames.{IsFrameOf}
use Rattle.grouped_sinks.specs.Picks.{AreNewRunners}
use Rattle.grouped_sinks.specs.Rows.{AreBelow, Zips, places_of}
use Rattle.run_opening.specs.Lists.{IsEmptyFor}
use Rattle.run_opening.specs.Outside.{OutsideRefused, WithPlaces}
use Rattle.agent_run.specs.Run.{CanListenAt}
use Rattle.agent_run.proofs.Answering.{outside_at}
use Rattle.agent_run.proofs.Dialing.{stand_in_rows}
use Rattle.run_opening.proofs.Naming.{given_back}
use Rattle.agent_run.proofs.Parting.{runners_many}
use Rattle.run_opening.proofs.Readying.{can_be_manned, groups_there, rows_in_order, still_out}
use Rattle.agent_run.proofs.agent.run_channels.Goals as goal

pub open_outside-requires-clause-have : goal.open_outside-requires-clause-have
open_outside-requires-clause-have g c κs within = c.requires.have

pub open_outside-requires-clause-listen : goal.open_outside-requires-clause-listen
open_outside-requires-clause-listen g c κs within = subst (λ (l : List ℕ). All (ListensAt c.args.plan.now.sources.items) l) (sym c.as_slice-places.ensures.value) c.requires.prepared.listen

pub open_outside-requires-clause-room : goal.open_outside-requires-clause-room
open_outside-requires-clause-room g c κs within =
    subst (λ (n : ℕ). IsEmptyFor n c.args.room.listeners) (sym (length-map c.args.prepared.listeners.items (λ seat. seat.draft.source)) ∙ ap length c.requires.prepared.sources ∙ ap length (sym c.as_slice-places.ensures.value)) c.requires.room.listeners

pub group_outside-outside-requires-clause-room : goal.group_outside-outside-requires-clause-room
group_outside-outside-requires-clause-room g c = c.requires.room.runners

pub run_opened-requires-clause-settle : goal.run_opened-requires-clause-settle
run_opened-requires-clause-settle g c κs within = c.requires.room.settled

pub run_opened-requires-clause-many : goal.run_opened-requires-clause-many
run_opened-requires-clause-many g c κs within = c.requires.prepared.wishes.many

pub group_outside-outside-requires-clause-frames : goal.group_outside-outside-requires-clause-frames
group_outside-outside-requires-clause-frames g c =
    subst (λ (l : List GroupPlan). Zips (IsFrameOf l) c.args.rows.now c.args.frames.items) (sym c.as_slice-groups.ensures.value) c.requires.frames

pub group_outside-outside-requires-clause-once : goal.group_outside-outside-requires-clause-once
group_outside-outside-requires-clause-once g c =
    (rows_in_order c.rows_are_apart.ensures c.groups_name_what_is_there.ensures c.sinks_stand_once.ensures c.args.plan.now c.requires.planned c.args.rows.now c.requires.rows).once

pub group_outside-outside-requires-clause-within : goal.group_outside-outside-requires-clause-within
group_outside-outside-requires-clause-within g c =
    let order = rows_in_order c.rows_are_apart.ensures c.groups_name_what_is_there.ensures c.sinks_stand_once.ensures c.args.plan.now c.requires.planned c.args.rows.now c.requires.rows in
    subst (λ (n : ℕ). AreBelow n (places_of c.args.rows.now)) (sym c.in-Ok.ensures.opened.many) order.within

pub run_opened-requires-clause-can : goal.run_opened-requires-clause-can
run_opened-requires-clause-can g c κs within =
    let plan = c.args.plan.now in
    let rows = c.args.rows.now in
    let out = c.in-Ok.ensures.opened in
    let grouped = c.group_outside-outside.ensures in
    let hear : c.group_outside-outside.result.outside.listeners.items ≡ c.in-Ok.outside.listeners.items = ap (λ (v : Vec g.row.H-Listener.Denot Global). v.items) grouped.listeners in
    let placed = subst (λ (x : List ℕ × List g.row.H-Listener.Denot). WithPlaces x.0 x.1 out.named) (λ i. (c.as_slice-places.ensures.value i, sym hear i)) out.with_places in
    can_be_manned plan rows _ out.named c.sinks_name_what_is_there.ensures c.numbers_are_limited.ensures c.requires.planned (groups_there c.groups_name_what_is_there.ensures plan c.requires.planned)
    c.requires.rows c.requires.prepared c.requires.opened (runners_many c.in-Ok.outside.sinks.items rows c.group_outside-outside.result.outside.sinks.items grouped.dealt)
    placed c.requires.room.channels c.requires.room.workers

pub run_opened-requires-clause-order : goal.run_opened-requires-clause-order
run_opened-requires-clause-order g c κs within =
    rows_in_order c.rows_are_apart.ensures c.groups_name_what_is_there.ensures c.sinks_stand_once.ensures c.args.plan.now c.requires.planned c.args.rows.now c.requires.rows

pub run_opened-requires-clause-vacant : goal.run_opened-requires-clause-vacant
run_opened-requires-clause-vacant g c κs within = c.group_outside-outside.ensures.places ∙ c.in-Ok.ensures.opened.many

pub run_opened-requires-clause-listen : goal.run_opened-requires-clause-listen
run_opened-requires-clause-listen g c κs within =
    let out = c.in-Ok.ensures.opened in
    let bare = c.in-Ok.outside.listeners.items in
    let sources = c.args.plan.now.sources.items in
    let all = (g.H.Host.state c.open_outside.new.host).listeners in
    let back = given_back g.H.Listener.Listener.told g.H.Listener.Listener.endpoint g.H.Listener.Listener.waits g.H.Listener.Listener.faults sources c.as_slice-places.result.now bare out.named
    out.between (g.H.Host.state c.open_outside.new.host) out.with_places out.opened in
    subst (λ (x : List ℕ × Vec g.row.H-Listener.Denot Global). CanListenAt g.H.Listener.Listener.endpoint sources x.0 x.1.items all)
    (λ i. (c.as_slice-places.ensures.value i, sym c.group_outside-outside.ensures.listeners i))
    (record {
      listen = subst (λ (l : List ℕ). All (ListensAt sources) l) (sym c.as_slice-places.ensures.value) c.requires.prepared.listen;
      from = back.0;
      out = back.1;
    })

pub run_opened-requires-clause-sinks : goal.run_opened-requires-clause-sinks
run_opened-requires-clause-sinks g c κs within =
    let out = c.in-Ok.ensures.opened in
    let sinks = c.in-Ok.outside.sinks.items in
    let folders = g.H.Host.folders c.open_outside.new.host in
    subst (λ (n : ℕ). AreOpened folders c.args.plan.now.sinks.items n) out.many (are_opened folders c.args.plan.now.sinks.items sinks out.sinks.are)

pub run_opened-requires-clause-dials : goal.run_opened-requires-clause-dials
run_opened-requires-clause-dials g c κs within =
    stand_in_rows _ _ _ _ c.args.plan.now _ c.as_slice-places.result.now _ _ c.args.rows.now c.in-Ok.outside.sinks.items c.in-Ok.outside.listeners.items c.group_outside-outside.result.outside.sinks.items
    c.in-Ok.ensures.opened c.group_outside-outside.ensures.dealt

pub run_opened-requires-clause-disks : goal.run_opened-requires-clause-disks
run_opened-requires-clause-disks g c κs within =
    still_out (g.H.Host.folders c.args.host.now) (g.H.Host.folders c.open_outside.new.host) c.args.prepared.wishes.items c.open_outside.ensures.disks c.requires.out

pub give_all_unused-requires-clause-opened : goal.give_all_unused-requires-clause-opened
give_all_unused-requires-clause-opened g c κs within =
    subst (λ (wishes : List ChannelWish). WereOpened wishes c.args.opened.items) (sym c.as_slice.ensures.value) c.requires.opened

pub give_all_unused-requires-clause-out : goal.give_all_unused-requires-clause-out
give_all_unused-requires-clause-out g c κs within =
    let folders = g.H.Host.folders c.open_outside.new.host in
    subst (λ (wishes : List ChannelWish). AreOut folders wishes) (sym c.as_slice.ensures.value)
    (still_out (g.H.Host.folders c.args.host.now) folders c.args.prepared.wishes.items c.open_outside.ensures.disks c.requires.out)

pub returns-in-Err-clause-refused : goal.returns-in-Err-clause-refused
returns-in-Err-clause-refused g c =
    let old : HostTold = record { state = g.H.Host.state c.args.host.now; folders = g.H.Host.folders c.args.host.now } in
    let left : HostTold = record { state = g.H.Host.state c.open_outside.new.host; folders = g.H.Host.folders c.open_outside.new.host } in
    let new : HostTold = record { state = g.H.Host.state c.give_all_unused.new.host; folders = g.H.Host.folders c.give_all_unused.new.host } in
    record {
      why = c.in-Err.refused;
      said = c.name_error.ensures;
      left = left;
      refused = subst (λ (l : List ℕ). OutsideRefused c.args.plan.now l c.in-Err.refused old left) c.as_slice-places.ensures.value c.in-Err.ensures.refused;
      back = subst (λ (l : List ChannelWish). AreUnused l c.args.opened.items left new) c.as_slice.ensures.value c.give_all_unused.ensures;
    }

pub returns-in-Ok-clause-ran : goal.returns-in-Ok-clause-ran
returns-in-Ok-clause-ran g c =
    let grouped = c.group_outside-outside.ensures in
    record {
      opening = record {
        opened = c.args.opened;
        outside = c.group_outside-outside.result.outside;
        prepared = c.args.prepared;
        channels = c.args.room.channels;
        workers = c.args.room.workers;
        settled = c.args.room.settled;
      };
      same_channels = refl;
      same_made = refl;
      names = c.requires.room.settled.report;
      between = record { state = g.H.Host.state c.open_outside.new.host; folders = g.H.Host.folders c.open_outside.new.host };
      opens = record {
        sinks = c.in-Ok.outside.sinks.items;
        opened = outside_at c.as_slice-places.ensures.value (ap (λ (v : Vec g.row.H-Listener.Denot Global). v.items) (sym grouped.listeners)) c.in-Ok.ensures.opened;
        dealt = grouped.dealt;
        new_ones = subst (λ (l : List GroupPlan). AreNewRunners l c.args.rows.now c.group_outside-outside.result.outside.sinks.items) c.as_slice-groups.ensures.value grouped.new_ones;
      };
      goes = c.run_opened.ensures;
    }
