-- What the steps of a run come to.
use Rattle.event_core.specs.Content.{Content}
use Rattle.plug_in.specs.declared.sink.SinkRefused.{SinkRefused}
use Rattle.std.proofs.Common.{◌≡◌, ◌∙◌, ◌<◌, ℕ, List, [], ◌∷◌, Bool, Option, Result, length, map, get_or, sym, ap, subst, arith}
use Rattle.std.proofs.lemmas.List.{get_or-map, length-map}
use Rattle.std.proofs.lemmas.List.Elements.{recursion_from_All}
use Rattle.std.specs.declared.alloc.Global.{Global}
use Rattle.std.specs.declared.vec.Vec.{Vec}
use Rattle.channel_face.specs.History.{Opening, Step}
use Rattle.channel_face.specs.Machine.{State}
use Rattle.agent_plan.specs.declared.plan.Plan.{Plan}
use Rattle.flume_host.specs.HostState.{HostState}
use Rattle.grouped_sinks.specs.declared.row.SinkRow.{SinkRow}
use Rattle.line_worker.specs.Workers.{talk_of}
use Rattle.shared_channel.specs.Passes.{Known}
use Rattle.sink_worker.specs.Rounds.{Told}
use Rattle.sink_worker.specs.declared.worker.SinkWorker.{SinkWorker}
use Rattle.source_put.specs.Chains.{Meaning}
use Rattle.source_worker.specs.Rounds.{Heard}
use Rattle.two_channels.specs.declared.port.EitherPort.{EitherPort}
use Rattle.run_tracks.specs.Places.{Zips}
use Rattle.run_tracks.specs.Told.{IsNew}
use Rattle.channel_wishes.specs.Openings.{HostTold, TakesDisk}
use Rattle.channel_wishes.specs.Opened.{AreOpened}
use Rattle.channel_wishes.specs.declared.opened.OpenedChannel.{OpenedChannel}
use Rattle.channel_wishes.specs.declared.wish.ChannelPlace.{ChannelPlace}
use Rattle.channel_wishes.specs.declared.wish.ChannelPlace.TheVariants.{Memory, Folder}
use Rattle.channel_wishes.specs.declared.wish.ChannelWish.{ChannelWish}
use Rattle.agent_end.specs.Statuses.{run_status}
use Rattle.agent_end.specs.declared.ends.ReportRefused.{ReportRefused}
use Rattle.agent_end.specs.declared.ends.RunEnds.{RunEnds}
use Rattle.run_staff.specs.Alone.{IsAway}
use Rattle.agent_run.specs.Causes.{CausesTold}
use Rattle.agent_run.specs.Dialogue.{EndsWell}
use Rattle.agent_run.specs.Finals.{AreToldInFull, RunsAreTold, finals_of}
use Rattle.run_working.specs.Histories.{IsSinkTold}
use Rattle.agent_run.specs.Joined.{AreTold}
use Rattle.run_opening.specs.Labels.{AreLabels, users_of}
use Rattle.run_staff.specs.Jobs.{owners_of}
use Rattle.run_working.specs.Runs.{Runs}
use Rattle.agent_run.specs.StagedTold.{StagedTold}
use Rattle.run_working.specs.Wholes.{AreBeside, IsSinkWhole, LinesStayTold}
use Rattle.agent_run.specs.RunDid.{RunDid, Steps, passes_of}
use Rattle.agent_run.specs.MembersTold.{MembersTold}
use Rattle.agent_run.specs.FoldersTold.{FoldersRan}
use Rattle.agent_run.specs.RunLeft.{RunLeft}
use Rattle.run_settling.specs.declared.at_home.AtHome.{AtHome}
use Rattle.run_opening.specs.declared.opening.Manned.{Manned}
use Rattle.run_opening.specs.declared.channel_end.ChannelEnd.{ChannelEnd}
use Rattle.run_opening.specs.declared.outside.Outside.{Outside}
use Rattle.run_opening.specs.declared.preparing.Prepared.{Prepared}
use Rattle.run_settling.specs.declared.settling.Settled.{Settled}
use Rattle.run_opening.specs.declared.streams.StreamsEnded.{StreamsEnded}
use Rattle.agent_run.proofs.Comeback.{opened_state}
use Rattle.agent_run.proofs.Course.{there}
use Rattle.run_opening.proofs.Fresh.{are_fresh, fresh_at, fresh_many}
use Rattle.run_working.proofs.Owners.{all_split, keep_owners, sink_owners}
use Rattle.agent_run.proofs.Tidying.{keeps_tidy, lines_tidy, listens_tidy, owned_both}
use Rattle.agent_run.proofs.Unstaged.{sinks_tidy, staged_none}

-- ---- rolled files stay while channels are opened

takes_no_roll : (place : ChannelPlace) (a b : HostTold) → TakesDisk place a b → b.folders.rolls ≡ a.folders.rolls
takes_no_roll Memory a b takes = ap (λ (h : HostTold). h.folders.rolls) takes
takes_no_roll (Folder path) a b takes = takes.others.rolls

-- folders of rolled files show the same while channels are opened
pub opened_rolls : {A B : Type 0} (wishes : List ChannelWish) (cs : List (OpenedChannel A B)) (a b : HostTold) → AreOpened wishes cs a b → b.folders.rolls ≡ a.folders.rolls
opened_rolls [] [] a b are = ap (λ (h : HostTold). h.folders.rolls) are
opened_rolls [] (c ∷ cs) a b are = absurd are
opened_rolls (wish ∷ wishes) [] a b are = absurd are
opened_rolls (wish ∷ wishes) (c ∷ cs) a b are = opened_rolls wishes cs are.0 b are.2 ∙ takes_no_roll wish.place a are.0 are.1.takes

module _ {R A B S N I O C K : Type 0} (runs : Runs (EitherPort R A B) S N I O C K) (sink : Told S) (Means : Meaning K) (moments : C → Option (ℕ → ℕ)) (heard : N → Heard)
    (left : I → Option (List ℕ)) (read_faults : I → ℕ) (took handed : O → Option (List ℕ)) (write_faults : O → ℕ)
    (disk : A → Opening → List Step → Type 0) (tells : A → Bool) (moment : A → ℕ) (laid : A → State → Type 0) (pruned : A → Type 0) (memory : B → Opening → List Step → Type 0) (tells' : B → Bool)
    (in_full : RunsAreTold runs sink Means moments heard (talk_of left read_faults took handed write_faults) disk tells moment laid pruned memory tells')
    (stay : LinesStayTold runs Means moments (talk_of left read_faults took handed write_faults))
    (well : EndsWell runs sink Means moments heard left read_faults took handed write_faults)
    (plan : Plan) (Drafted : Prepared K C → Type 0) (Opens : List SinkRow → Prepared K C → HostTold → HostTold → Outside S N → Type 0)
    (Given : Manned A B S N I O C K → List N → HostState → HostState → Type 0)
    (Back : List SinkRow → List ChannelWish → Settled S A B → Bool → Result (Unit {0}) ReportRefused → HostTold → HostTold → Type 0)
    (input : (rows : List SinkRow) (p : Prepared K C) (a b : HostTold) (out : Outside S N) → Opens rows p a b out → b.state.input ≡ a.state.input)
    (output : (rows : List SinkRow) (p : Prepared K C) (a b : HostTold) (out : Outside S N) → Opens rows p a b out → b.state.output ≡ a.state.output) where
  -- its steps, and what a run did
  abbrev pub Made : RunEnds → List ChannelEnd → HostTold → HostTold → Type 0
  Made = Steps runs sink Means moments heard left read_faults took handed write_faults disk tells moment laid pruned memory tells' plan Drafted Opens Given Back

  -- what a run did, told of by its steps
  abbrev pub Did : {Q : Type 0} → (Q → List Content → ℕ → Result (Unit {0}) SinkRefused → Q → Type 0) → List (Option Q) → RunEnds → List ChannelEnd → HostTold → HostTold → Type 0
  Did = RunDid runs sink Means moments heard left read_faults took handed write_faults disk tells moment laid pruned memory tells' plan Drafted Opens Given Back

  -- Where a run ended well, nothing is staged in the channels that are in folders.
  staged_told : (ends : RunEnds) (channels : List ChannelEnd) (a b : HostTold) (ran : Made ends channels a b)
      → FoldersRan plan.channels.items a.folders b.folders (finals_of ran.ran.goes.settled)
      → RunLeft plan ran.rows ends ran.ran.goes.homes ran.ran.goes.behind.output (finals_of ran.ran.goes.settled) b
      → AreTold runs sink Means moments heard (talk_of left read_faults took handed write_faults) ran.ran.goes.manned.crew.shares.items ran.ran.goes.homes ran.ran.goes.manned.crew.jobs ran.ran.goes.joins.returned
      → AreToldInFull sink Means moments heard (talk_of left read_faults took handed write_faults) ran.ran.goes.manned.crew.shares.items ran.ran.goes.homes (finals_of ran.ran.goes.settled)
      ran.ran.goes.manned.crew.jobs ran.ran.goes.joins.returned ran.ran.goes.settled
      → StagedTold plan.channels.items (finals_of ran.ran.goes.settled)
  staged_told ends channels a b ran folders well_left told full place one final path low has counted =
      let o = ran.ran in
      let r = o.goes in
      let is = r.is_manned in
      let j = r.joins in
      let talk = talk_of left read_faults took handed write_faults in
      let shares = r.manned.crew.shares.items in
      let firsts = r.manned.crew.homes.items in
      let jobs = r.manned.crew.jobs in
      let finals = finals_of r.settled in
      let wishes = ran.made.wishes.items in
      let folder = folders place one final path low has in
      let left = well_left.folders place one final path low has in
      let below : place < length firsts = let m = well_left.many in let g = full.goes_on.as_many in let t = r.took.as_many in omega (arith, low, m, g, t) in
      let some = there shares place (let m = is.homes.as_many in omega (arith, below, m)) in
      let homes_of : firsts ≡ map (λ (c : OpenedChannel A B). c.home) ran.channels = is.at_home ∙ ap (map (λ (c : OpenedChannel A B). c.home)) o.same_channels in
      let as_many : length firsts ≡ length ran.channels = ap length homes_of ∙ length-map ran.channels (λ (c : OpenedChannel A B). c.home) in
      let are = are_fresh wishes ran.channels a ran.behind ran.opened in
      let fresh : (i : ℕ) (d : Known) → i < length firsts → IsNew (get_or firsts i d) =
      λ i d under.
      let here : i < length ran.channels = omega (arith, under, as_many) in
      let c = there ran.channels i here in
      let w = there wishes i (let m = fresh_many wishes ran.channels are in omega (arith, here, m)) in
      subst IsNew (sym (ap (λ (l : List Known). get_or l i d) homes_of ∙ get_or-map (λ (c : OpenedChannel A B). c.home) ran.channels i c d here)) (fresh_at wishes ran.channels are i w c here).home.1 in
      let lines = stay shares r.homes finals jobs j.returned is.new_ones told.ran full.goes_on full.silent in
      let owned = owned_both Means moments heard talk shares some finals _ _ (keeps_tidy Means moments heard talk shares some finals jobs.keepers.items full.keepers)
      (owned_both Means moments heard talk shares some finals _ _ (sinks_tidy sink moments shares finals some jobs.sinks.items r.settled.ends.items r.settled.sinks.items full.sinks)
      (owned_both Means moments heard talk shares some finals _ _ (listens_tidy Means moments heard talk shares some finals jobs.listeners.items j.returned.listeners.items full.listeners)
      (lines_tidy Means moments heard talk shares some finals jobs.lines.items j.returned.lines.items lines))) in
      let sinks = subst (λ (v : Vec (SinkWorker AtHome S C) Global). Zips (IsSinkTold sink moments shares r.homes) jobs.sinks.items v.items) (sym j.sinks) told.sinks in
      let all_away = all_split (IsAway firsts) (keep_owners jobs.keepers.items) _ (recursion_from_All (IsAway firsts) (owners_of jobs) is.alone.away) in
      let away = all_split (IsAway firsts) (sink_owners jobs.sinks.items) _ all_away.1 in
      staged_none sink moments disk tells moment laid pruned memory tells' shares firsts r.homes r.joined.sinks.items r.manned.closes.items r.manned.settled.report.items r.settled r.settles is.homes.as_many r.named r.took fresh
      (owners_of jobs) is.dealt full.goes_on owned jobs.sinks.items sinks away.0 place final below _ folder.run left.whole counted

  -- Steps are told of in all whose sinks took so much by what the workers called, whose status has its causes, and whose folders, report and
  -- drainings are told of at status 0.
  pub run_did : {Q : Type 0} (delivers : Q → List Content → ℕ → Result (Unit {0}) SinkRefused → Q → Type 0) (objects : List (Option Q)) (ends : RunEnds) (channels : List ChannelEnd) (a b : HostTold) (ran : Made ends channels a b)
      → (AreBeside (IsSinkWhole sink moments ran.ran.goes.manned.crew.shares.items (passes_of channels)) ran.ran.goes.manned.crew.jobs.sinks.items
      ran.ran.goes.settled.ends.items ran.ran.goes.settled.sinks.items
      → MembersTold delivers objects plan.sinks.items ran.rows ran.ran.goes.manned.crew.jobs.sinks.items (passes_of channels) a b)
      → CausesTold plan (run_status ends) (passes_of channels) a.state b.state
      → FoldersRan plan.channels.items a.folders b.folders (passes_of channels)
      → (run_status ends ≡ 0 → RunLeft plan ran.rows ends ran.ran.goes.homes ran.ran.goes.behind.output (passes_of channels) b) → Did delivers objects ends channels a b
  run_did delivers objects ends channels a b ran members causes folders after =
      let o = ran.ran in
      let r = o.goes in
      let j = r.joins in
      let talk = talk_of left read_faults took handed write_faults in
      let shares = r.manned.crew.shares.items in
      let jobs = r.manned.crew.jobs in
      let state = opened_state ran.made.wishes.items ran.channels a ran.behind ran.opened in
      let full = in_full ran.rows o.opening r.manned r.homes r.joined j.returned r.settled r.is_manned r.took r.all j.back j.sinks r.home r.named r.settles in
      let whole = subst (λ (l : List Known). AreToldInFull sink Means moments heard talk shares r.homes l jobs j.returned r.settled) (sym r.passes) full in
      let did = well shares r.homes jobs j.returned o.between.state r.begun j.behind_drains j.behind_lines ends r.takes j.back j.drains j.lines
      (r.input ∙ ap (λ (s : StreamsEnded). s.input) j.streams) in
      record {
        steps = ran;
        labels = subst (AreLabels (users_of plan ran.made.keepers.items ran.rows ran.made.listeners.items ran.made.lines.items) 0 plan.channels.items)
            (sym (r.labels ∙ ap (λ (p : Prepared K C). p.labels.items) o.same_made)) ran.is_prepared.labels;
        input = input ran.rows ran.made ran.behind o.between o.opening.outside o.opens ∙ ap (λ (s : HostState). s.input) state;
        output = output ran.rows ran.made ran.behind o.between o.opening.outside o.opens ∙ ap (λ (s : HostState). s.output) state;
        full = whole;
        members = members whole.sinks;
        causes = causes;
        folders = folders;
        workers = λ zero. (did zero).0;
        served = λ zero. record {
          dialogue = λ job one.
              let lines = stay shares r.homes (passes_of channels) jobs j.returned r.is_manned.new_ones (did zero).0.ran whole.goes_on whole.silent in
              (did zero).1 (passes_of channels) job lines one;
        };
        staged = λ zero. subst (StagedTold plan.channels.items) (sym r.passes)
            (staged_told ends channels a b ran (subst (FoldersRan plan.channels.items a.folders b.folders) r.passes folders)
            (subst (λ (l : List Known). RunLeft plan ran.rows ends r.homes r.behind.output l b) r.passes (after zero)) (did zero).0 full);
        left_behind = after;
      }
