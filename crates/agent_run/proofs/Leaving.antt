-- What a run left that ended well, from the relation of its parts.
use Rattle.std.proofs.Common.{◌≡◌, ◌∙◌, ◌<◌, inl, inr, ℕ, zero, suc, List, [], ◌∷◌, Bool, Option, Result, String, length, map, get_or, sym, ap, subst, arith}
use Rattle.std.proofs.lemmas.List.{length-map}
use Rattle.std.specs.List.{AllByRecursion}
use Rattle.std.specs.declared.alloc.Global.{Global}
use Rattle.std.specs.declared.vec.Vec.{Vec}
use Rattle.channel_face.specs.History.{Opening as Begun, Step}
use Rattle.channel_face.specs.Machine.{State}
use Rattle.channel_face.specs.declared.replies.Counts.{Counts}
use Rattle.channel_face.specs.declared.replies.OpenCause.{OpenCause}
use Rattle.agent_plan.specs.declared.plan.Plan.{Plan}
use Rattle.agent_plan.specs.declared.plan.SinkPlan.{SinkPlan}
use Rattle.flume_host.specs.HandedOut.{HandedOut}
use Rattle.flume_host.specs.HostState.{Folders, HostState}
use Rattle.flume_host.specs.Links.{LinkTold}
use Rattle.flume_host.specs.Listens.{LinksTold}
use Rattle.flume_host.specs.Rolled.{Rolled}
use Rattle.flume_host.specs.Told.{Tells, Told as DiskTold}
use Rattle.event_core.specs.Content.{Content}
use Rattle.plug_in.specs.declared.sink.SinkRefused.{SinkRefused}
use Rattle.roll_sink.specs.Runs.{RunsFill}
use Rattle.file_channel.specs.Stands.{FileState}
use Rattle.memory_channel.specs.declared.channel.MemoryChannel.{MemoryChannel}
use Rattle.shared_channel.specs.Passes.{Known}
use Rattle.sink_worker.specs.Rounds.{Told}
use Rattle.sink_worker.specs.declared.worker.SinkWorker.{SinkWorker}
use Rattle.source_put.specs.Chains.{Meaning}
use Rattle.source_worker.specs.Rounds.{Heard}
use Rattle.line_worker.specs.Workers.{Talk}
use Rattle.two_channels.specs.Shares.{pass_of}
use Rattle.two_channels.specs.declared.port.EitherPort.{EitherPort}
use Rattle.two_channels.specs.declared.shared.EitherShared.{EitherShared}
use Rattle.channel_wishes.specs.Openings.{HostTold}
use Rattle.channel_wishes.specs.Opened.{AreOpened}
use Rattle.channel_wishes.specs.declared.opened.OpenedChannel.{OpenedChannel}
use Rattle.channel_wishes.specs.declared.wish.ChannelWish.{ChannelWish}
use Rattle.agent_end.specs.Statuses.{run_status}
use Rattle.agent_end.specs.declared.draining.ChannelDrain.{ChannelDrain}
use Rattle.agent_end.specs.declared.ends.RunEnds.{RunEnds}
use Rattle.agent_outside.specs.Dials.{DialsOpened}
use Rattle.agent_outside.specs.Sinks.{AreBoxed, SinksOpened}
use Rattle.grouped_sinks.specs.Picks.{AreDealt}
use Rattle.grouped_sinks.specs.Rows.{AreRows, IsOrder, places_of}
use Rattle.grouped_sinks.specs.Splits.{RunnersSplit}
use Rattle.grouped_sinks.specs.declared.row.SinkRow.{SinkRow}
use Rattle.grouped_sinks.specs.declared.runner.Runner.{Runner}
use Rattle.agent_sinks.specs.declared.sink.AgentSink.{AgentSink}
use Rattle.avro_ends.specs.Deliveries.{SinkLinks}
use Rattle.avro_ends.specs.Dialing.{DialTold}
use Rattle.avro_requests.specs.Requests.{RequestsAreOnLinks}
use Rattle.run_tracks.specs.Closes.{IsClosed}
use Rattle.run_tracks.specs.Places.{Zips}
use Rattle.run_tracks.specs.Stops.{IsKept, IsMended}
use Rattle.agent_run.specs.DialedTold.{DialsTold}
use Rattle.agent_run.specs.DrainedTold.{DrainedTold}
use Rattle.run_settling.specs.Draining.{IsDrainedAt}
use Rattle.run_working.specs.Ends.{IsSinkEnded}
use Rattle.agent_run.specs.FoldersTold.{FoldersAreApart, FoldersRan, FoldersTold}
use Rattle.run_working.specs.Histories.{IsSinkTold}
use Rattle.agent_run.specs.Joined.{HaveReturned}
use Rattle.run_opening.specs.Lists.{NamesOf}
use Rattle.agent_run.specs.MembersTold.{MembersTold}
use Rattle.run_opening.specs.Prepared.{uses_of}
use Rattle.agent_run.specs.Run.{IsGivenBack}
use Rattle.agent_run.specs.RunLeft.{RunLeft}
use Rattle.run_working.specs.Runs.{Runs}
use Rattle.run_settling.specs.Settling.{AreSettled}
use Rattle.run_opening.specs.Staff.{IsSinkOf}
use Rattle.agent_run.specs.Through.{PlanRan, RanThrough}
use Rattle.run_working.specs.Wholes.{AreBeside, IsSinkWhole}
use Rattle.run_opening.specs.Wishes.{AreWishes}
use Rattle.run_settling.specs.declared.at_home.AtHome.{AtHome}
use Rattle.agent_run.specs.declared.joined.Joined.{Joined}
use Rattle.run_opening.specs.declared.opening.Manned.{Manned}
use Rattle.run_opening.specs.declared.channel_end.ChannelEnd.{ChannelEnd}
use Rattle.run_opening.specs.declared.outside.Outside.{Outside}
use Rattle.run_opening.specs.declared.preparing.Prepared.{Prepared}
use Rattle.run_settling.specs.declared.settling.Settled.{Settled}
use Rattle.run_staff.specs.declared.workers.Returned.{Returned}
use Rattle.run_staff.specs.declared.workers.Workers.{Workers}
use Rattle.agent_run.proofs.Asking.{AsksOnLinks, ClosesSo, dialed_told}
use Rattle.agent_run.proofs.Boxing.{HandsOn, boxed_told}
use Rattle.run_settling.proofs.Chaining.{drained_ends}
use Rattle.agent_run.proofs.Comeback.{opened_state}
use Rattle.agent_run.proofs.Course.{Course, Stands, closed_are_many, tells_of}
use Rattle.agent_run.proofs.Dialing.{IsSameSink, sinks_stay, some_share}
use Rattle.agent_run.proofs.Emptied.{drained_told}
use Rattle.agent_run.proofs.Folders.{folders_ran, folders_told}
use Rattle.agent_run.proofs.Joining.{zips_long}
use Rattle.agent_run.proofs.Parting.{took_at}
use Rattle.agent_run.proofs.Reports.{report_told}
use Rattle.agent_run.proofs.Rolling.{WritesRolled, rolled_told}
use Rattle.agent_run.proofs.Sharing.{rows_shared}
use Rattle.agent_run.proofs.WellEnded.{IsWell, was_reported, were_mended}
use Rattle.agent_run.proofs.Worked.{opened_rolls}
use Rattle.run_working.proofs.Zipping.{zips_map, zips_then}

-- ---- the channels of sinks

-- the sink that came back is of the same channel
abbrev pub IsSameChannel : {S C : Type 0} → SinkWorker Known S C → SinkWorker AtHome S C → Type 0
IsSameChannel job back = back.channel ≡ job.channel

-- each sink that came back is of the same channel as before
pub returned_channels : {R A B S N I O C K : Type 0} (runs : Runs (EitherPort R A B) S N I O C K) (sink : Told S) (Means : Meaning K) (moments : C → Option (ℕ → ℕ)) (heard : N → Heard) (talk : I → O → Talk)
    (shares : List (EitherShared A B)) (homes : List Known) (jobs : Workers Known S N I O C K) (returned : Returned S N I O C)
    → HaveReturned runs sink Means moments heard talk shares homes jobs returned → Zips IsSameChannel jobs.sinks.items returned.sinks.items
returned_channels runs sink Means moments heard talk shares homes jobs returned (inl ran) =
    zips_map (IsSinkTold sink moments shares homes) IsSameChannel (λ job back is. is.channel) jobs.sinks.items returned.sinks.items ran.sinks
returned_channels runs sink Means moments heard talk shares homes jobs returned (inr ended) =
    zips_map (IsSinkEnded (λ (p : Known). p) homes) IsSameChannel (λ job back is. is.channel) jobs.sinks.items returned.sinks.items ended.sinks

zips_at : {X Y : Type 0} (P : X → Y → Type 0) (xs : List X) (ys : List Y) → Zips P xs ys → (i : ℕ) (x : X) (y : Y) → i < length xs → P (get_or xs i x) (get_or ys i y)
zips_at P [] ys all i x y below = absurd (omega (arith, below))
zips_at P (a ∷ xs) [] all i x y below = absurd all
zips_at P (a ∷ xs) (b ∷ ys) all zero x y below = all.0
zips_at P (a ∷ xs) (b ∷ ys) all (suc i) x y below = zips_at P xs ys all.1 i x y (omega (arith, below))

-- ---- the whole

-- The sinks of a plan were opened, or are these objects, and each row's runner has its own of them.
pub record WereHanded {R P Q G : Type 0} (rolled : R → Option Rolled) (faults : R → ℕ) (dial : DialTold P) (objects : List (Option Q)) (plans : List SinkPlan) (rows : List SinkRow) (a b : HostTold)
    (runners : List (Runner (AgentSink R P Q) G)) : Type 0 where
  pub sinks : List (AgentSink R P Q)
  pub many : length sinks ≡ length plans
  pub opened : SinksOpened rolled faults plans a.folders b.folders sinks
  pub boxed : AreBoxed plans objects sinks
  pub between : HostState
  pub dials : DialsOpened dial plans a.state between sinks
  pub after : b.state.dialers ≡ between.dialers
  pub dealt : AreDealt sinks rows runners

module _ {R D P Q G N I O C K : Type 0} (rolled : R → Option Rolled) (dial : DialTold P) (told : D → Option DiskTold) (faults : D → ℕ) (moment : D × FileState → ℕ)
    (laid : D × FileState → State → Type 0) (pruned : D × FileState → Type 0) (memory : MemoryChannel → Begun → List Step → Type 0) (tells' : MemoryChannel → Bool) (sink : Told (Runner (AgentSink R P Q) G)) (moments : C → Option (ℕ → ℕ)) (plan : Plan)
    (Drafted : Prepared K C → Type 0) (Opens : List SinkRow → Prepared K C → HostTold → HostTold → Outside (Runner (AgentSink R P Q) G) N → Type 0)
    (Takes : Manned (D × FileState) MemoryChannel (Runner (AgentSink R P Q) G) N I O C K → HostState → HostState → Type 0)
    (Joins : Manned (D × FileState) MemoryChannel (Runner (AgentSink R P Q) G) N I O C K → List Known → Joined (Runner (AgentSink R P Q) G) C → HostState → HostState → Type 0) where
  -- the settling and what follows it
  abbrev Settles : List (EitherShared (D × FileState) MemoryChannel) → List Known → List (SinkWorker AtHome (Runner (AgentSink R P Q) G) C) → List Bool → List (String Global × Counts)
      → Settled (Runner (AgentSink R P Q) G) (D × FileState) MemoryChannel → Type 0
  Settles = AreSettled (IsDrainedAt sink moments) (IsKept (Stands told faults) (tells_of told) moment laid pruned) (IsMended (Stands told faults) (tells_of told) moment) (IsClosed (Stands told faults) (tells_of told) memory tells')

  abbrev Ran : RunEnds → List ChannelEnd → HostTold → HostTold → Type 0
  Ran ends channels a b =
      PlanRan plan Drafted Opens (λ rows opening. RanThrough rows opening Takes Joins Settles (IsGivenBack rolled dial told faults plan.sinks.items rows)) ends channels a b

  course : (ends : RunEnds) (channels : List ChannelEnd) (a b : HostTold) → Ran ends channels a b
      → Course told faults moment laid pruned memory tells' (IsDrainedAt {S = Runner (AgentSink R P Q) G} {C = C} sink moments) plan.channels.items
  course ends channels a b ran =
      let goes = ran.ran.goes in
      let is = goes.is_manned in
      let uses = uses_of ran.made.keepers.items ran.rows ran.made.listeners.items ran.made.lines.items in
      let wishes : goes.manned.wishes.items ≡ ran.made.wishes.items = ap (λ (v : Vec ChannelWish Global). v.items) is.wishes ∙ ap (λ (p : Prepared K C). p.wishes.items) ran.ran.same_made in
      record {
        uses = uses;
        wishes = goes.manned.wishes.items;
        wanted = subst (AreWishes uses plan.channels.items) (sym wishes) ran.is_prepared.wishes;
        cs = ran.channels;
        before = a;
        behind = ran.behind;
        opened = subst (λ (l : List ChannelWish). AreOpened l ran.channels a ran.behind) (sym wishes) ran.opened;
        shares = goes.manned.crew.shares.items;
        same_shares = is.shares ∙ ap (map (λ (c : OpenedChannel (D × FileState) MemoryChannel). c.share)) ran.ran.same_channels;
        firsts = goes.manned.crew.homes.items;
        same_firsts = is.at_home ∙ ap (map (λ (c : OpenedChannel (D × FileState) MemoryChannel). c.home)) ran.ran.same_channels;
        homes = goes.homes;
        took = goes.took;
        workers = goes.joined.sinks.items;
        kept_at_end = goes.manned.closes.items;
        same_kept = ap (λ (v : Vec Bool Global). v.items) is.closes ∙ ap (λ (p : Prepared K C). p.closes.items) ran.ran.same_made ∙ ran.is_prepared.closes;
        names = goes.manned.settled.report.items;
        named = subst (λ (s : Settled (Runner (AgentSink R P Q) G) (D × FileState) MemoryChannel). NamesOf plan.channels.items s.report.items) (sym is.settled) ran.ran.names;
        settled = goes.settled;
        settles = goes.settles;
      }

  -- However a run ended, the folders of its channels are told of.
  pub run_folders : FoldersAreApart plan.channels.items → (ends : RunEnds) (channels : List ChannelEnd) (a b : HostTold) → Ran ends channels a b
      → FoldersRan plan.channels.items a.folders b.folders (map (λ (end : ChannelEnd). end.pass) channels)
  unfolding course
  run_folders apart ends channels a b ran =
      let goes = ran.ran.goes in
      let back = goes.back in
      let r = course ends channels a b ran in
      subst (FoldersRan plan.channels.items a.folders b.folders) (sym goes.passes)
      (subst (λ (f : Folders). FoldersRan plan.channels.items a.folders f (map pass_of goes.settled.closed.items)) (sym back.folders)
      (folders_ran told faults moment laid pruned memory tells' (IsDrainedAt sink moments) plan.channels.items r apart back.behind_sinks back.behind_disks back.disks))

  -- Where the workers that came back are those that ran, a run that ended well left so much.
  pub run_left : ((manned : _) (homes : List Known) (joined : _) (s t : HostState) → Joins manned homes joined s t → Zips IsSameChannel manned.crew.jobs.sinks.items joined.sinks.items)
      → FoldersAreApart plan.channels.items → (ends : RunEnds) (channels : List ChannelEnd) (a b : HostTold) → (ran : Ran ends channels a b) → run_status ends ≡ 0
      → RunLeft plan ran.rows ends ran.ran.goes.homes ran.ran.goes.behind.output (map (λ (end : ChannelEnd). end.pass) channels) b
  unfolding course
  run_left same apart ends channels a b ran good =
      let goes = ran.ran.goes in
      let back = goes.back in
      let r = course ends channels a b ran in
      let rows = ran.rows in
      let jobs = goes.manned.crew.jobs.sinks.items in
      let workers = goes.joined.sinks.items in
      let kept = same goes.manned goes.homes goes.joined goes.begun goes.behind goes.joins in
      let both : Zips (λ (s : SinkRow) (w : SinkWorker AtHome (Runner (AgentSink R P Q) G) C). w.channel ≡ s.channel) rows workers =
      zips_then IsSinkOf IsSameChannel (λ (s : SinkRow) (w : SinkWorker AtHome (Runner (AgentSink R P Q) G) C). w.channel ≡ s.channel) (λ s job w of back. back ∙ of.channel) rows jobs workers goes.is_manned.sinks kept in
      let many : length workers ≡ length rows = zips_long (λ (s : SinkRow) (w : SinkWorker AtHome (Runner (AgentSink R P Q) G) C). w.channel ≡ s.channel) rows workers both in
      let finals = length-map goes.settled.closed.items pass_of ∙ closed_are_many told faults moment laid pruned memory tells' (IsDrainedAt sink moments) plan.channels.items r in
      let well = subst (λ (v : Vec (Result Bool OpenCause) Global). AllByRecursion IsWell v.items) goes.mends (were_mended ends good) in
      subst (λ (l : List Known). RunLeft plan rows ends goes.homes goes.behind.output l b) (sym goes.passes)
      (record {
        many = finals;
        folders = subst (λ (f : Folders). FoldersTold plan.channels.items f (map pass_of goes.settled.closed.items)) (sym back.folders)
            (folders_told told faults moment laid pruned memory tells' (IsDrainedAt sink moments) plan.channels.items r apart goes.all well back.rests back.behind_sinks back.behind_disks back.disks);
        report = report_told told faults moment laid pruned memory tells' (IsDrainedAt sink moments) plan.channels.items r goes.joined.streams.output_failed ends.report goes.behind.output back.behind_disks.state b.state
            (ap (λ (s : HostState). s.output) back.disks.state ∙ ap (λ (s : HostState). s.output) back.dials.state) (was_reported ends good) back.report;
        drained = subst (λ (v : Vec ChannelDrain Global). DrainedTold rows v.items goes.homes (map pass_of goes.settled.closed.items)) (sym goes.drains)
            (drained_told told faults moment laid pruned memory tells' sink moments plan.channels.items r rows goes.home goes.all many
            (λ place w s below. zips_at (λ (s : SinkRow) (w : SinkWorker AtHome (Runner (AgentSink R P Q) G) C). w.channel ≡ s.channel) rows workers both place s w below) finals);
      })

  module _ {L E : Type 0} (roll_faults : R → ℕ) (fill : RunsFill) (deliver : AgentSink R P Q → List Content → ℕ → Result (Unit {0}) SinkRefused → AgentSink R P Q → Type 0)
      (split : RunnersSplit deliver sink.delivers) (writes : WritesRolled rolled deliver)
      (links_of : P → SinkLinks E L) (links : E → Option LinksTold) (troubles : E → ℕ) (link_told : L → Option LinkTold) (link_faults : L → ℕ)
      (asks : AsksOnLinks dial links_of links troubles link_told link_faults deliver) (law : RequestsAreOnLinks E L) (closes : ClosesSo dial links_of links troubles link_told link_faults deliver)
      (keeps : (s : AgentSink R P Q) (batch : List Content) (at : ℕ) (answer : Result (Unit {0}) SinkRefused) (t : AgentSink R P Q) → deliver s batch at answer t → IsSameSink dial s t)
      (own : Q → List Content → ℕ → Result (Unit {0}) SinkRefused → Q → Type 0) (objects : List (Option Q)) (hands : HandsOn deliver own)
      (order : (rows : List SinkRow) → AreRows plan.sinks.items plan.groups.items rows → IsOrder (length plan.sinks.items) (places_of rows))
      (outside : (rows : List SinkRow) (p : Prepared K C) (a b : HostTold) (out : Outside (Runner (AgentSink R P Q) G) N) → Opens rows p a b out
      → WereHanded rolled roll_faults dial objects plan.sinks.items rows a b out.sinks.items) where
    -- The sinks of a run took what the workers of their rows committed; their folders and links have what they took, and those that were
    -- handed in were handed it.
    pub run_members : (ends : RunEnds) (channels : List ChannelEnd) (a b : HostTold) (finals : List Known) (ran : Ran ends channels a b)
        → AreBeside (IsSinkWhole sink moments ran.ran.goes.manned.crew.shares.items finals) ran.ran.goes.manned.crew.jobs.sinks.items ran.ran.goes.settled.ends.items ran.ran.goes.settled.sinks.items
        → MembersTold own objects plan.sinks.items ran.rows ran.ran.goes.manned.crew.jobs.sinks.items finals a b
    run_members ends channels a b finals ran whole =
        let o = ran.ran in
        let r = o.goes in
        let is = r.is_manned in
        let plans = plan.sinks.items in
        let rows = ran.rows in
        let shares = r.manned.crew.shares.items in
        let jobs = r.manned.crew.jobs.sinks.items in
        let runners = r.settled.sinks.items in
        let backs = r.back.sinks in
        let out = outside rows ran.made ran.behind o.between o.opening.outside o.opens in
        let runs = drained_ends (IsDrainedAt sink moments) r.joined.sinks.items r.homes r.settled.ends.items runners r.settles.drained r.settles.drains in
        let many : length shares ≡ length r.homes = sym is.homes.as_many ∙ sym r.took.as_many in
        let shared = rows_shared deliver sink moments split shares finals jobs r.settled.ends.items runners
        (λ place below. some_share shares r.homes r.joined.sinks.items place r.home (let e = runs.0 in omega (arith, below, e)) many) whole in
        let as_many : length jobs ≡ length rows = zips_long IsSinkOf rows jobs is.sinks in
        let dealt = subst (λ (l : List (Runner (AgentSink R P Q) G)). AreDealt out.sinks rows l) (sym is.own_sinks) out.dealt in
        let came = r.back.dealt in
        let stand = subst (λ (n : ℕ). IsOrder n (places_of rows)) (sym out.many) (order rows ran.are_rows) in
        let stay = sinks_stay dial deliver keeps sink moments split shares finals rows jobs runners shared out.sinks backs dealt came as_many stand (r.back.many ∙ sym out.many) in
        let between = ap (λ (s : HostState). s.dialers) r.rest ∙ ap (λ (s : HostState). s.dialers) r.taken ∙ out.after in
        let last : b.state.dialers ≡ r.back.behind_sinks.state.dialers = ap (λ (s : HostState). s.dialers) r.back.rest ∙ ap (λ (s : HostState). s.dialers) r.back.disks.state in
        record {
          taken = shared.taken;
          as_many = shared.as_many ∙ as_many;
          each = took_at deliver sink moments split shares finals rows jobs runners shared out.sinks backs dealt came as_many;
          rolled = rolled_told rolled roll_faults deliver sink moments split shares finals plans rows jobs runners shared out.sinks backs dealt came as_many fill writes out.many r.back.many
              ran.behind.folders o.between.folders a.folders b.folders (opened_rolls ran.made.wishes.items ran.channels a ran.behind ran.opened) out.opened
              (λ path. ap (λ (f : Folders). f.rolls path) r.back.folders ∙ ap (λ (f : List ℕ → Option Rolled). f path) r.back.disks.rolls ∙ r.back.rolls.rolls path);
          dialed = subst (λ (d : Option HandedOut). Tells a.state.dialers d (DialsTold plans rows jobs shared.taken finals)) (sym last)
              (dialed_told dial links_of links troubles link_told link_faults deliver asks law closes sink moments split shares finals plans rows jobs runners shared out.sinks backs dealt came as_many stand stay
              out.many o.between.folders out.opened.are a.state ran.behind.state out.between r.back.behind_sinks.state
              (sym (ap (λ (s : HostState). s.dialers) (opened_state ran.made.wishes.items ran.channels a ran.behind ran.opened))) out.dials r.behind.dialers between r.back.dials.told);
          boxed = boxed_told deliver sink moments split shares finals plans rows jobs runners shared out.sinks backs dealt came as_many own hands o.between.folders objects out.opened.are out.boxed;
        }
