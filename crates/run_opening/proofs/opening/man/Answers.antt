use Rattle.std.proofs.Common.{rules, ◌≡◌, List, length, refl, sym, ap, subst, arith}
use Rattle.run_tracks.proofs.Homing.{zips_length}
use Rattle.std.specs.declared.alloc.Global.{Global}
use Rattle.std.specs.declared.vec.Vec.{Vec}
use Rattle.crew.specs.declared.draining.DrainWorker.{DrainWorker}
use Rattle.channel_wishes.specs.declared.wish.ChannelWish.{ChannelWish}
use Rattle.run_opening.specs.Keepers.{AreWantedInFolders}
use Rattle.run_opening.specs.Staff.{IsLineOf, IsListenOf, IsSinkOf}
use Rattle.run_opening.specs.Streams.{AreTaken}
use Rattle.run_staff.specs.declared.workers.LineEnded.{LineEnded}
use Rattle.run_opening.proofs.Crewing.{freshly}
use Rattle.run_opening.proofs.Fresh.{fresh_many}
use Rattle.run_opening.proofs.Manning.{parts_fit, room_for, seats_roomy}
use Rattle.run_opening.proofs.opening.man.Goals as goal

pub crew_of-crew-requires-clause-parts : goal.crew_of-crew-requires-clause-parts
crew_of-crew-requires-clause-parts g c =
    let can = c.requires.can in
    let given = c.take_streams.ensures.talks in
    let talks : length c.take_streams.new.talks.items ≡ length c.args.opening.prepared.lines.items = first_of (omega arith, search (rules, arith)) in
    record {
      sinks = can.sinks;
      clocks = can.clocks;
      some = can.some;
      listeners = can.hearers;
      talks = talks;
      listen_rooms = seats_roomy (length c.args.opening.prepared.wishes.items) c.args.opening.prepared.listeners.items can.listeners;
      line_rooms = seats_roomy (length c.args.opening.prepared.wishes.items) c.args.opening.prepared.lines.items can.lines;
      lined = can.lined;
      keep_jobs = can.workers.keep_jobs;
      sink_jobs = can.workers.sink_jobs;
      listen_jobs = can.workers.listen_jobs;
      line_jobs = can.workers.line_jobs;
    }

pub crew_of-crew-requires-clause-folders : goal.crew_of-crew-requires-clause-folders
crew_of-crew-requires-clause-folders g c =
    subst (λ (l : List ChannelWish). AreWantedInFolders l c.args.opening.prepared.keepers.items) (sym c.as_slice.ensures.value) c.requires.can.folders

pub crew_of-crew-requires-clause-fit : goal.crew_of-crew-requires-clause-fit
crew_of-crew-requires-clause-fit g c =
    parts_fit (length c.args.opening.prepared.wishes.items) (length c.as_slice.result.now) _ (ap length c.as_slice.ensures.value) c.requires.can.listeners c.requires.can.lines

pub crew_of-crew-requires-clause-shares : goal.crew_of-crew-requires-clause-shares
crew_of-crew-requires-clause-shares g c =
    let can = c.requires.can in
    let many = fresh_many c.args.opening.prepared.wishes.items c.args.opening.opened.items (freshly c.args.opening.prepared.wishes.items c.args.opening.opened.items can.opened) in
    (can.channels.shares.0, room_for _ _ _ many can.channels.shares.1)

pub crew_of-crew-requires-clause-homes : goal.crew_of-crew-requires-clause-homes
crew_of-crew-requires-clause-homes g c =
    let can = c.requires.can in
    let many = fresh_many c.args.opening.prepared.wishes.items c.args.opening.opened.items (freshly c.args.opening.prepared.wishes.items c.args.opening.opened.items can.opened) in
    (can.channels.homes.0, room_for _ _ _ many can.channels.homes.1)

pub crew_of-crew-requires-clause-hands : goal.crew_of-crew-requires-clause-hands
crew_of-crew-requires-clause-hands g c =
    let can = c.requires.can in
    let many = fresh_many c.args.opening.prepared.wishes.items c.args.opening.opened.items (freshly c.args.opening.prepared.wishes.items c.args.opening.opened.items can.opened) in
    (can.channels.hands.0, room_for _ _ _ many can.channels.hands.1)

pub returns-clause-manned : goal.returns-clause-manned
returns-clause-manned g c =
    let can = c.requires.can in
    let is = c.crew_of-crew.ensures.crew in
    record {
      shares = is.shares;
      homes = is.homes;
      at_home = is.at_home;
      own = is.own;
      dealt = is.dealt;
      alone = is.alone;
      numbers = is.numbers;
      workers = is.workers;
      new_ones = is.new_ones;
      fit = is.fit;
      on_disks = is.on_disks;
      room = record {
        sinks = (can.workers.sinks_back.0, room_for _ _ _ (sym (zips_length IsSinkOf _ _ is.sinks)) can.workers.sinks_back.1);
        listeners = (can.workers.listeners_back.0, room_for _ _ _ (sym (zips_length IsListenOf _ _ is.listeners)) can.workers.listeners_back.1);
        lines = (can.workers.lines_back.0, room_for _ _ _ (sym (zips_length IsLineOf _ _ is.lines)) can.workers.lines_back.1);
      };
      keepers = is.keepers;
      sinks = is.sinks;
      own_sinks = is.own_sinks;
      listeners = is.listeners;
      own_listeners = is.own_listeners;
      lines = is.lines;
      wishes = refl;
      closes = refl;
      places = refl;
      labels = refl;
      passes = refl;
      ends = refl;
      named = refl;
      settled = refl;
    }

pub returns-clause-taken : goal.returns-clause-taken
returns-clause-taken g c =
    let is = c.crew_of-crew.ensures.crew in
    subst (λ (x : List (LineEnded g.row.H-Source.Denot g.row.H-Sink.Denot) × Vec (DrainWorker g.row.H-Source.Denot) Global).
    AreTaken g.H.Source.Source.left g.H.Source.Source.faults g.H.Sink.Sink.took g.H.Sink.Sink.handed g.H.Sink.Sink.faults x.0 x.1.items (g.H.Host.state c.args.host.now) (g.H.Host.state c.take_streams.new.host))
    (λ i. (sym is.own_talks i, sym is.drains i)) c.take_streams.ensures.taken
