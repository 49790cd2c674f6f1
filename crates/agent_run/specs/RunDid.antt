-- What a run did, and what that comes to: one statement over the run's own parts.
use Rattle.std.specs.Prelude.{◌≡◌, ℕ, List, [], ◌∷◌, Bool, Option, Result, String, map}
use Rattle.std.specs.declared.alloc.Global.{Global}
use Rattle.channel_face.specs.History.{Opening, Step}
use Rattle.channel_face.specs.Machine.{State}
use Rattle.channel_face.specs.declared.replies.Counts.{Counts}
use Rattle.event_core.specs.Content.{Content}
use Rattle.agent_plan.specs.declared.plan.Plan.{Plan}
use Rattle.plug_in.specs.declared.sink.SinkRefused.{SinkRefused}
use Rattle.flume_host.specs.HostState.{HostState}
use Rattle.grouped_sinks.specs.declared.row.SinkRow.{SinkRow}
use Rattle.line_session.specs.declared.session.SessionEnd.TheVariants as session
use Rattle.line_worker.specs.Workers.{Talk, talk_of}
use Rattle.line_worker.specs.declared.worker.LineWorker.{LineWorker}
use Rattle.shared_channel.specs.Passes.{Known}
use Rattle.sink_worker.specs.Rounds.{Told}
use Rattle.sink_worker.specs.declared.worker.SinkWorker.{SinkWorker}
use Rattle.source_put.specs.Chains.{Meaning}
use Rattle.source_worker.specs.Rounds.{Heard}
use Rattle.two_channels.specs.declared.port.EitherPort.{EitherPort}
use Rattle.two_channels.specs.declared.shared.EitherShared.{EitherShared}
use Rattle.run_tracks.specs.Closes.{IsClosed}
use Rattle.run_tracks.specs.Stops.{IsKept, IsMended}
use Rattle.channel_wishes.specs.Openings.{HostTold}
use Rattle.channel_wishes.specs.declared.wish.ChannelWish.{ChannelWish}
use Rattle.agent_end.specs.Statuses.{run_status}
use Rattle.agent_end.specs.declared.ends.ReportRefused.{ReportRefused}
use Rattle.agent_end.specs.declared.ends.RunEnds.{RunEnds}
use Rattle.agent_run.specs.Causes.{CausesTold}
use Rattle.agent_run.specs.Dialogue.{IsDialogue}
use Rattle.run_settling.specs.Draining.{IsDrainedAt}
use Rattle.agent_run.specs.Finals.{AreToldInFull}
use Rattle.agent_run.specs.FoldersTold.{FoldersRan}
use Rattle.agent_run.specs.Joined.{AreTold, HaveReturned, IsJoined}
use Rattle.run_opening.specs.Labels.{AreLabels, label_of, users_of}
use Rattle.agent_run.specs.MembersTold.{MembersTold}
use Rattle.agent_run.specs.RunLeft.{RunLeft}
use Rattle.run_working.specs.Runs.{Runs}
use Rattle.run_settling.specs.Settling.{AreSettled}
use Rattle.run_opening.specs.Staff.{own_talk}
use Rattle.agent_run.specs.StagedTold.{StagedTold}
use Rattle.run_opening.specs.Streams.{AreTaken, DrainKept, TalkKept}
use Rattle.agent_run.specs.Through.{PlanRan, RanThrough}
use Rattle.run_settling.specs.declared.at_home.AtHome.{AtHome}
use Rattle.agent_run.specs.declared.joined.Joined.{Joined}
use Rattle.run_opening.specs.declared.opening.Manned.{Manned}
use Rattle.run_opening.specs.declared.channel_end.ChannelEnd.{ChannelEnd}
use Rattle.run_opening.specs.declared.outside.Outside.{Outside}
use Rattle.run_opening.specs.declared.preparing.Prepared.{Prepared}
use Rattle.run_settling.specs.declared.settling.Settled.{Settled}

-- the passes of channels after a run, each of which saw all calls of its channel
abbrev pub passes_of : List ChannelEnd → List Known
passes_of channels = map (λ (end : ChannelEnd). end.pass) channels

module _ {R A B S N I O C K : Type 0} (runs : Runs (EitherPort R A B) S N I O C K) (sink : Told S) (Means : Meaning K) (moments : C → Option (ℕ → ℕ)) (heard : N → Heard)
    (left : I → Option (List ℕ)) (read_faults : I → ℕ) (took handed : O → Option (List ℕ)) (write_faults : O → ℕ)
    (disk : A → Opening → List Step → Type 0) (tells : A → Bool) (moment : A → ℕ) (laid : A → State → Type 0) (pruned : A → Type 0) (memory : B → Opening → List Step → Type 0) (tells' : B → Bool) where
  -- what a worker of lines reads and writes
  abbrev pub talk : I → O → Talk
  talk = talk_of left read_faults took handed write_faults

  -- standard input and output were handed out to the workers that read it
  abbrev pub Takes : Manned A B S N I O C K → HostState → HostState → Type 0
  Takes manned = AreTaken left read_faults took handed write_faults (map (λ job. own_talk job) manned.crew.jobs.lines.items) manned.crew.jobs.drains.items

  -- the workers ran, and what they had came back
  abbrev pub Joins : (Manned A B S N I O C K → List N → HostState → HostState → Type 0) → Manned A B S N I O C K → List Known → Joined S C → HostState → HostState → Type 0
  Joins Given manned homes = IsJoined (λ returned. HaveReturned runs sink Means moments heard talk manned.crew.shares.items homes manned.crew.jobs returned)
      (DrainKept left read_faults) (TalkKept left read_faults took handed write_faults) (Given manned)

  -- the channels were settled after them
  abbrev pub Settles : List (EitherShared A B) → List Known → List (SinkWorker AtHome S C) → List Bool → List (String Global × Counts) → Settled S A B → Type 0
  Settles = AreSettled (IsDrainedAt sink moments) (IsKept disk tells moment laid pruned) (IsMended disk tells moment) (IsClosed disk tells memory tells')

  -- Where standard input is a source, the host has had one dialogue, from what it told at the beginning of the run to what it told once the
  -- worker of lines had given standard input and output back.
  pub record AreServed (finals : List Known) (shares : List (EitherShared A B)) (jobs : List (LineWorker Known I O C K)) (begun ended : HostState) : Type 0 where
    pub dialogue : (job : LineWorker Known I O C K) → jobs ≡ job ∷ [] → IsDialogue Means moments shares finals job session.End begun ended

  module _ (plan : Plan) (Drafted : Prepared K C → Type 0) (Opens : List SinkRow → Prepared K C → HostTold → HostTold → Outside S N → Type 0)
      (Given : Manned A B S N I O C K → List N → HostState → HostState → Type 0)
      (Back : List SinkRow → List ChannelWish → Settled S A B → Bool → Result (Unit {0}) ReportRefused → HostTold → HostTold → Type 0) where
    -- the steps of a run, one after the other
    abbrev pub Steps : RunEnds → List ChannelEnd → HostTold → HostTold → Type 0
    Steps = PlanRan plan Drafted Opens (λ rows o. RanThrough rows o Takes (Joins Given) Settles (Back rows))

    -- with these objects as those of its sinks, and what a delivery to one means
    module _ {Q : Type 0} (delivers : Q → List Content → ℕ → Result (Unit {0}) SinkRefused → Q → Type 0) (objects : List (Option Q)) where
      -- A run made its steps. Each channel that comes back is named with its workers, and its pass saw all calls. In these the calls of each
      -- worker of a channel on a disk, of each row of sinks, of each session and of the worker of lines are all calls with their numbers;
      -- each batch that the calls of a row commit was taken by one of its sinks; the folders of rolled files hold what their sinks took, the
      -- links of Avro sinks took the requests of what these took, and each sink that was handed in was handed what it took. It is told why
      -- the status is what it is, and what a crash at each moment leaves of the channels' folders. At status 0 the workers ran, standard
      -- input had its dialogue, nothing is staged in a folder's channel, and it is told what these folders hold in the end, what the report
      -- says, and which sinks emptied their channels.
      pub record RunDid (ends : RunEnds) (channels : List ChannelEnd) (a b : HostTold) : Type 0 where
        pub steps : Steps ends channels a b
        pub labels : AreLabels (users_of plan steps.made.keepers.items steps.rows steps.made.listeners.items steps.made.lines.items) 0 plan.channels.items (map label_of channels)
        pub input : steps.ran.between.state.input ≡ a.state.input
        pub output : steps.ran.between.state.output ≡ a.state.output
        pub full : AreToldInFull sink Means moments heard talk steps.ran.goes.manned.crew.shares.items steps.ran.goes.homes (passes_of channels)
            steps.ran.goes.manned.crew.jobs steps.ran.goes.joins.returned steps.ran.goes.settled
        pub members : MembersTold delivers objects plan.sinks.items steps.rows steps.ran.goes.manned.crew.jobs.sinks.items (passes_of channels) a b
        pub causes : CausesTold plan (run_status ends) (passes_of channels) a.state b.state
        pub folders : FoldersRan plan.channels.items a.folders b.folders (passes_of channels)
        pub workers : run_status ends ≡ 0
            → AreTold runs sink Means moments heard talk steps.ran.goes.manned.crew.shares.items steps.ran.goes.homes steps.ran.goes.manned.crew.jobs steps.ran.goes.joins.returned
        pub served : run_status ends ≡ 0 → AreServed (passes_of channels) steps.ran.goes.manned.crew.shares.items steps.ran.goes.manned.crew.jobs.lines.items
            steps.ran.between.state steps.ran.goes.joins.behind_lines
        pub staged : run_status ends ≡ 0 → StagedTold plan.channels.items (passes_of channels)
        pub left_behind : run_status ends ≡ 0 → RunLeft plan steps.rows ends steps.ran.goes.homes steps.ran.goes.behind.output (passes_of channels) b
