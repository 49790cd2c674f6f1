-- A run of an agent, by what its plan asks for.
use Rattle.std.specs.Prelude.{◌≡◌, ℕ, Bool, List, All, length, map, Option, Result}
use Rattle.flume_host.specs.HandedOut.{HandedOut}
use Rattle.flume_host.specs.HostState.{Folders}
use Rattle.flume_host.specs.Listens.{Endpoint}
use Rattle.flume_host.specs.Rolled.{Rolled}
use Rattle.flume_host.specs.Told.{Told}
use Rattle.agent_plan.specs.declared.plan.SinkPlan.{SinkPlan}
use Rattle.agent_plan.specs.declared.plan.SourcePlan.{SourcePlan}
use Rattle.agent_words.specs.Report.{report_text}
use Rattle.agent_end.specs.declared.ends.ReportRefused.{ReportRefused}
use Rattle.agent_sinks.specs.declared.sink.AgentSink.{AgentSink}
use Rattle.avro_ends.specs.Dialing.{DialTold}
use Rattle.agent_outside.specs.Backs.{RollsBack}
use Rattle.agent_outside.specs.Dials.{AreDialed, DialersBack, dials_back, dials_of}
use Rattle.agent_outside.specs.Ends.{AreOut, ListensAt, end_at, ends_of}
use Rattle.agent_outside.specs.Sinks.{AreOfPlans, backs_of as rolls_of}
use Rattle.channel_face.specs.History.{Shows}
use Rattle.agent_channels.specs.Closings.{DisksBack, backs_of as disks_of}
use Rattle.channel_wishes.specs.Openings.{HostTold}
use Rattle.channel_wishes.specs.declared.wish.ChannelWish.{ChannelWish}
use Rattle.file_channel.specs.Stands.{FileState, StandsOver}
use Rattle.channel_writing.specs.Touches.{Rests}
use Rattle.memory_channel.specs.declared.channel.MemoryChannel.{MemoryChannel}
use Rattle.two_channels.specs.declared.shared.EitherClosed.{EitherClosed}
use Rattle.two_channels.specs.declared.shared.EitherClosed.TheVariants as closed
use Rattle.grouped_sinks.specs.Picks.{AreDealt, HaveMembers}
use Rattle.grouped_sinks.specs.declared.row.SinkRow.{SinkRow}
use Rattle.grouped_sinks.specs.declared.runner.Runner.{Runner}
use Rattle.run_opening.specs.Outside.{AreFrom}
use Rattle.run_opening.specs.Streams.{IsButOutput, IsReported}
use Rattle.run_settling.specs.declared.settling.Settled.{Settled}

-- The sources at these places listen, and each listener was handed out for the address and port of its source.
pub record CanListenAt {N : Type 0} (endpoint : N → Option Endpoint) (sources : List SourcePlan) (places : List ℕ) (listeners : List N)
    (all : Option HandedOut) : Type 0 where
  pub listen : All (ListensAt sources) places
  pub from : AreFrom endpoint sources places listeners
  pub out : AreOut (map (end_at sources) places) all

-- The sinks are of the kinds of their plans, and each dialer was handed out for the address and port of its plan.
pub record CanDial {R A B : Type 0} (dial : DialTold A) (folders : Folders) (plans : List SinkPlan) (sinks : List (AgentSink R A B)) (all : Option HandedOut) : Type 0 where
  pub many : length sinks ≡ length plans
  pub are : AreOfPlans folders plans sinks
  pub dialed : AreDialed dial plans sinks
  pub out : AreOut (dials_of plans) all

-- Each dialer was handed out for the address and port of its plan, and as many are out: so they may come back.
pub record DialsMayReturn {R A B : Type 0} (dial : DialTold A) (plans : List SinkPlan) (sinks : List (AgentSink R A B)) (all : Option HandedOut) : Type 0 where
  pub dialed : AreDialed dial plans sinks
  pub out : AreOut (ends_of (dials_back dial plans sinks)) all

-- Unless a closed channel is broken, whatever a crash now leaves of its folder opens to just what is settled.
abbrev pub IsAtRest : {D B : Type 0} → (D → Option Told) → (D → ℕ) → EitherClosed (D × FileState) B → Type 0
IsAtRest told faults (closed.Disk c) = Shows (StandsOver (told c.channel.0) (faults c.channel.0) c.channel.1) (Rests (told c.channel.0))
IsAtRest told faults (closed.Memory c) = Unit {0}

-- The sinks of a plan stand in its order, in rows that drive them, and each may be given back.
pub record StandInRows {R A B G : Type 0} (dial : DialTold A) (folders : Folders) (plans : List SinkPlan) (rows : List SinkRow) (runners : List (Runner (AgentSink R A B) G))
    (all : Option HandedOut) : Type 0 where
  pub sinks : List (AgentSink R A B)
  pub dealt : AreDealt sinks rows runners
  pub can : CanDial dial folders plans sinks all

-- Each row's runner has a sink for each place of the row; whatever list these come back into, each may be given back.
pub record MayReturn {R A B G : Type 0} (dial : DialTold A) (plans : List SinkPlan) (rows : List SinkRow) (runners : List (Runner (AgentSink R A B) G)) (all : Option HandedOut) : Type 0 where
  pub members : HaveMembers rows runners
  pub each : (sinks : List (AgentSink R A B)) → length sinks ≡ length plans → AreDealt sinks rows runners → DialsMayReturn dial plans sinks all

-- After a run the sinks came back out of their rows, and their folders and dialers to the host; then the channels' disks did, and then the
-- report was written, unless the output had failed.
pub record IsGivenBack {R D A B G : Type 0} (rolled : R → Option Rolled) (dial : DialTold A) (told : D → Option Told) (faults : D → ℕ) (plans : List SinkPlan)
    (rows : List SinkRow) (wishes : List ChannelWish) (settled : Settled (Runner (AgentSink R A B) G) (D × FileState) MemoryChannel) (failed : Bool)
    (answer : Result (Unit {0}) ReportRefused) (old new : HostTold) : Type 0 where
  pub sinks : List (AgentSink R A B)
  pub many : length sinks ≡ length plans
  pub dealt : AreDealt sinks rows settled.sinks.items
  pub behind_sinks : HostTold
  pub behind_disks : HostTold
  pub dials : DialersBack (dials_back dial plans sinks) old.state behind_sinks.state
  pub rolls : RollsBack (rolls_of rolled plans sinks) old.folders behind_sinks.folders
  pub rests : All (IsAtRest told faults) settled.closed.items
  pub disks : DisksBack (disks_of told faults wishes settled.closed.items) behind_sinks behind_disks
  pub folders : new.folders ≡ behind_disks.folders
  pub report : IsReported failed (report_text settled.report.items) answer behind_disks.state new.state
  pub rest : IsButOutput behind_disks.state new.state
