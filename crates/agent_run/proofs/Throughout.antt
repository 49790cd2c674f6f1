-- What is so of a run over equal lists.
use Rattle.std.proofs.Common.{◌≡◌, ℕ, List, Bool, Option, Result, String, subst}
use Rattle.std.specs.declared.alloc.Global.{Global}
use Rattle.channel_wishes.specs.Openings.{HostTold}
use Rattle.channel_wishes.specs.declared.wish.ChannelWish.{ChannelWish}
use Rattle.agent_end.specs.declared.draining.ChannelDrain.{ChannelDrain}
use Rattle.agent_end.specs.declared.ends.ReportRefused.{ReportRefused}
use Rattle.agent_sinks.specs.declared.sink.AgentSink.{AgentSink}
use Rattle.avro_ends.specs.Dialing.{DialTold}
use Rattle.channel_face.specs.declared.replies.Counts.{Counts}
use Rattle.channel_face.specs.declared.replies.OpenCause.{OpenCause}
use Rattle.crew.specs.declared.draining.DrainWorker.{DrainWorker}
use Rattle.file_channel.specs.Stands.{FileState}
use Rattle.agent_plan.specs.declared.plan.SinkPlan.{SinkPlan}
use Rattle.agent_plan.specs.declared.plan.SourcePlan.{SourcePlan}
use Rattle.grouped_sinks.specs.declared.row.SinkRow.{SinkRow}
use Rattle.grouped_sinks.specs.declared.runner.Runner.{Runner}
use Rattle.flume_host.specs.HostState.{Folders, HostState}
use Rattle.flume_host.specs.Listens.{LinksTold}
use Rattle.flume_host.specs.Rolled.{Rolled}
use Rattle.flume_host.specs.Told.{Told as DiskTold}
use Rattle.memory_channel.specs.declared.channel.MemoryChannel.{MemoryChannel}
use Rattle.shared_channel.specs.Passes.{Known}
use Rattle.sink_worker.specs.Rounds.{Told}
use Rattle.sink_worker.specs.declared.worker.SinkWorker.{SinkWorker}
use Rattle.source_put.specs.Chains.{Meaning}
use Rattle.source_worker.specs.Rounds.{Heard}
use Rattle.line_worker.specs.Workers.{Talk}
use Rattle.two_channels.specs.declared.port.EitherPort.{EitherPort}
use Rattle.two_channels.specs.declared.shared.EitherClosed.{EitherClosed}
use Rattle.two_channels.specs.declared.shared.EitherShared.{EitherShared}
use Rattle.agent_run.specs.Joined.{HaveReturned, IsJoined}
use Rattle.run_opening.specs.Outside.{AreBack}
use Rattle.agent_run.specs.Run.{IsGivenBack}
use Rattle.run_working.specs.Runs.{Runs}
use Rattle.run_settling.specs.Settling.{AreSettled}
use Rattle.run_settling.specs.declared.at_home.AtHome.{AtHome}
use Rattle.run_staff.specs.declared.workers.LineEnded.{LineEnded}
use Rattle.agent_run.specs.declared.joined.Joined.{Joined}
use Rattle.run_settling.specs.declared.settling.Settled.{Settled}
use Rattle.run_staff.specs.declared.workers.Returned.{Returned}
use Rattle.run_staff.specs.declared.workers.Workers.{Workers}

-- the workers came back over the same sources, places and channels
pub joined_same : {R A B S N I O C K : Type 0} (runs : Runs (EitherPort R A B) S N I O C K) (sink : Told S) (Means : Meaning K) (moments : C → Option (ℕ → ℕ)) (heard : N → Heard) (talk : I → O → Talk)
    (Drained : DrainWorker I → HostState → HostState → Type 0) (Talked : LineEnded I O → HostState → HostState → Type 0)
    (told : N → Option LinksTold) (waits faults : N → ℕ) (homes : List Known) (jobs : Workers Known S N I O C K) (joined : Joined S C) (a b : HostState)
    (sources sources' : List SourcePlan) (places places' : List ℕ) (shares shares' : List (EitherShared A B)) → sources ≡ sources' → places ≡ places' → shares ≡ shares'
    → IsJoined (λ returned. HaveReturned runs sink Means moments heard talk shares homes jobs returned) Drained Talked (AreBack told waits faults sources places) joined a b
    → IsJoined (λ returned. HaveReturned runs sink Means moments heard talk shares' homes jobs returned) Drained Talked (AreBack told waits faults sources' places') joined a b
joined_same {R} {A} {B} runs sink Means moments heard talk Drained Talked told waits faults homes jobs joined a b sources sources' places places' shares shares' e f h is =
    subst (λ (x : List SourcePlan × List ℕ × List (EitherShared A B)).
    IsJoined (λ returned. HaveReturned runs sink Means moments heard talk x.2 homes jobs returned) Drained Talked (AreBack told waits faults x.0 x.1) joined a b)
    (λ i. (e i, f i, h i)) is

-- they returned over the same channels
pub returned_same : {R A B S N I O C K : Type 0} (runs : Runs (EitherPort R A B) S N I O C K) (sink : Told S) (Means : Meaning K) (moments : C → Option (ℕ → ℕ)) (heard : N → Heard) (talk : I → O → Talk)
    (homes : List Known) (jobs : Workers Known S N I O C K) (returned : Returned S N I O C) (shares shares' : List (EitherShared A B)) → shares ≡ shares'
    → HaveReturned runs sink Means moments heard talk shares homes jobs returned → HaveReturned runs sink Means moments heard talk shares' homes jobs returned
returned_same {R} {A} {B} runs sink Means moments heard talk homes jobs returned shares shares' e is =
    subst (λ (l : List (EitherShared A B)). HaveReturned runs sink Means moments heard talk l homes jobs returned) e is

-- the channels were settled through the same passes at home, and the same of them kept
pub settled_same : {A B S C : Type 0} (Drained : SinkWorker AtHome S C → List Known → ChannelDrain → S → List Known → Type 0)
    (Kept : EitherShared A B → Known → Known → Type 0) (Mended : EitherShared A B → Known → Result Bool OpenCause → Known → Type 0) (Closed : EitherShared A B → Known → EitherClosed A B → Type 0)
    (shares : List (EitherShared A B)) (workers : List (SinkWorker AtHome S C)) (closes closes' : List Bool) (names : List (String Global × Counts)) (s : Settled S A B) (homes homes' : List Known) → homes ≡ homes' → closes ≡ closes'
    → AreSettled Drained Kept Mended Closed shares homes workers closes names s → AreSettled Drained Kept Mended Closed shares homes' workers closes' names s
settled_same Drained Kept Mended Closed shares workers closes closes' names s homes homes' e f is =
    subst (λ (x : List Known × List Bool). AreSettled Drained Kept Mended Closed shares x.0 workers x.1 names s) (λ i. (e i, f i)) is

-- all was given back, by the same plans and folders
pub back_same : {R D A B G : Type 0} (rolled : R → Option Rolled) (dial : DialTold A) (told : D → Option DiskTold) (faults : D → ℕ) (rows : List SinkRow) (wishes : List ChannelWish)
    (settled : Settled (Runner (AgentSink R A B) G) (D × FileState) MemoryChannel) (failed : Bool) (answer : Result (Unit {0}) ReportRefused) (state : HostState) (new : HostTold)
    (plans plans' : List SinkPlan) (folders folders' : Folders) → plans ≡ plans' → folders ≡ folders'
    → IsGivenBack rolled dial told faults plans rows wishes settled failed answer (record { state = state; folders = folders }) new
    → IsGivenBack rolled dial told faults plans' rows wishes settled failed answer (record { state = state; folders = folders' }) new
back_same rolled dial told faults rows wishes settled failed answer state new plans plans' folders folders' e f is =
    subst (λ (x : List SinkPlan × Folders). IsGivenBack rolled dial told faults x.0 rows wishes settled failed answer (record { state = state; folders = x.1 }) new) (λ i. (e i, f i)) is
