-- What a run answers to lines where nothing failed.
use Rattle.std.specs.Prelude.{◌≡◌, ◌⊎◌, ◌≤◌, ◌<◌, ℕ, List, [], ◌∷◌, All, Bool, Option, Result, length, slice_index_or}
use Rattle.flume_host.specs.Causes.{Rose}
use Rattle.flume_host.specs.HostState.{HostState}
use Rattle.flume_host.specs.Told.{Told as DiskTold}
use Rattle.event_core.specs.Content.{Content}
use Rattle.channel_face.specs.History.{Opening, Step}
use Rattle.channel_face.specs.Machine.{State}
use Rattle.agent_plan.specs.declared.plan.Plan.{Plan}
use Rattle.plug_in.specs.declared.sink.SinkRefused.{SinkRefused}
use Rattle.shared_channel.specs.Passes.{Known}
use Rattle.sink_worker.specs.Rounds.{Told}
use Rattle.sink_worker.specs.declared.worker.SinkWorker.{SinkWorker}
use Rattle.source_put.specs.Chains.{Meaning}
use Rattle.source_worker.specs.Rounds.{Heard}
use Rattle.source_worker.specs.declared.worker.ListenWorker.{ListenWorker}
use Rattle.netcat_source.specs.Into.{TakesLine}
use Rattle.line_session.specs.declared.session.SessionEnd.{SessionEnd}
use Rattle.line_worker.specs.Workers.{Talk}
use Rattle.line_worker.specs.declared.worker.LineWorker.{LineWorker}
use Rattle.file_channel.specs.Stands.{FileState, StandsOver}
use Rattle.grouped_sinks.specs.declared.row.SinkRow.{SinkRow}
use Rattle.two_channels.specs.declared.port.EitherPort.{EitherPort}
use Rattle.two_channels.specs.declared.shared.EitherShared.{EitherShared}
use Rattle.run_tracks.specs.Closes.{IsClosed}
use Rattle.run_tracks.specs.Homes.{EachTook}
use Rattle.run_tracks.specs.Listening.{MendedInto, home_tracks}
use Rattle.run_tracks.specs.Tracks.{Gave}
use Rattle.run_tracks.specs.Stops.{IsKept, IsMended}
use Rattle.agent_channels.specs.Closings.{DisksBack, backs_of}
use Rattle.channel_wishes.specs.Openings.{HostTold}
use Rattle.channel_wishes.specs.Opened.{AreOpened}
use Rattle.channel_wishes.specs.declared.wish.ChannelWish.{ChannelWish}
use Rattle.agent_end.specs.Statuses.{run_status}
use Rattle.agent_end.specs.declared.ends.ReportRefused.{ReportRefused}
use Rattle.agent_end.specs.declared.ends.RunEnds.{RunEnds}
use Rattle.sound_lines.specs.Links.{AreSoundRounds}
use Rattle.sound_lines.specs.Sound.{AreSound}
use Rattle.sound_lines.specs.Undisturbed.{IsUndisturbed}
use Rattle.agent_run.specs.Causes.{IsReadable, line_limit}
use Rattle.agent_run.specs.Dialogue.{IsDialogue}
use Rattle.run_settling.specs.Draining.{IsDrainedAt, IsSinkHome}
use Rattle.agent_run.specs.Finals.{AreToldInFull, finals_of}
use Rattle.run_working.specs.Histories.{IsDiskOf, IsListenTold, MendedOver}
use Rattle.run_opening.specs.Opening.{IsManned}
use Rattle.agent_run.specs.RunDid.{RunDid, passes_of}
use Rattle.run_working.specs.Runs.{Runs}
use Rattle.run_settling.specs.Settling.{AreSettled}
use Rattle.run_opening.specs.declared.opening.Manned.{Manned}
use Rattle.run_opening.specs.declared.opening.Opening.{Opening as Opened}
use Rattle.run_opening.specs.declared.channel_end.ChannelEnd.{ChannelEnd}
use Rattle.run_opening.specs.declared.outside.Outside.{Outside}
use Rattle.run_opening.specs.declared.preparing.Prepared.{Prepared}
use Rattle.run_settling.specs.declared.at_home.AtHome.{AtHome}
use Rattle.run_settling.specs.declared.settling.Settled.{Settled}
use Rattle.run_staff.specs.declared.workers.Returned.{Returned}

-- nothing failed in all that these passes have seen of their channels
abbrev pub AreUndisturbed : List Known → Type 0
AreUndisturbed finals =
    (place : ℕ) (final : Known) → place < length finals
    → IsUndisturbed (slice_index_or finals place final).view.base (slice_index_or finals place final).view.seen

-- Where nothing failed in its channels, each line of a dialogue was answered `OK`, unless there was no memory for it, its event grew too
-- large for one, or a channel that it has to reach refused it for a limit.
abbrev pub DialoguesAreSound : (A B I O : Type 0) → {C K : Type 0} → Meaning K → (C → Option (ℕ → ℕ)) → Type 0
DialoguesAreSound A B I O {C} {K} Means moments =
    (share : EitherShared A B) (shares : List (EitherShared A B)) (finals : List Known) (job : LineWorker Known I O C K) (end : SessionEnd) (old new : HostState)
    → (d : IsDialogue Means moments shares finals job end old new)
    → AreUndisturbed finals → All (λ place. place < length finals) job.channels.items
    → AreSound (TakesLine Gave job.selector Means job.host) (MendedOver shares job.channels.items)
    (home_tracks (λ (p : Known). p) finals job.channels.items job.ports.items) d.served.done _ _ d.served.takes

-- Where channels were opened and their workers are told of in full, and the disks that came back had counted no fault, nothing failed in
-- any of the channels.
abbrev pub NothingFailed : {D M S N I O C K : Type 0} → Told S → Meaning K → (C → Option (ℕ → ℕ)) → (N → Heard) → (I → O → Talk) → (D → Option DiskTold) → (D → ℕ)
    → (D × FileState → Bool) → (D × FileState → ℕ) → (D × FileState → State → Type 0) → (D × FileState → Type 0) → (M → Opening → List Step → Type 0) → (M → Bool) → Type 0
NothingFailed {D} {M} {S} {N} {I} {O} {C} {K} sink Means moments heard talk told faults tells moment laid pruned memory tells' =
    let disk = λ (c : D × FileState). StandsOver (told c.0) (faults c.0) c.1 in
    (plans : List SinkRow) (o : Opened (D × FileState) M S N I O C K) (m : Manned (D × FileState) M S N I O C K) (homes : List Known) (sinks : List (SinkWorker AtHome S C))
    (returned : Returned S N I O C) (settled : Settled S (D × FileState) M) (a b old new : HostTold)
    → AreOpened m.wishes.items o.opened.items a b → All (λ (wish : ChannelWish). 1 ≤ wish.limits.txn_capacity) m.wishes.items
    → IsManned plans o m → EachTook m.crew.homes.items homes
    → All (IsSinkHome homes) sinks → length m.settled.report.items ≡ length homes
    → AreSettled (IsDrainedAt sink moments) (IsKept disk tells moment laid pruned) (IsMended disk tells moment) (IsClosed disk tells memory tells') m.crew.shares.items homes
    sinks m.closes.items m.settled.report.items settled
    → AreToldInFull sink Means moments heard talk m.crew.shares.items homes (finals_of settled) m.crew.jobs returned settled
    → DisksBack (backs_of told faults m.wishes.items settled.closed.items) old new → (Rose old.state.disk_faults new.state.disk_faults → ⊥)
    → AreUndisturbed (finals_of settled)

-- So it is with each line of the sessions of a listener's worker.
abbrev pub ListenersAreSound : (A B : Type 0) → {N C K : Type 0} → Meaning K → (C → Option (ℕ → ℕ)) → (N → Heard) → Type 0
ListenersAreSound A B {N} {C} {K} Means moments heard =
    (share : EitherShared A B) (shares : List (EitherShared A B)) (finals : List Known) (job : ListenWorker Known N C K) (listener : N)
    → (heard_so : IsListenTold Means moments heard shares finals job listener)
    → AreUndisturbed finals → All (λ place. place < length finals) job.channels.items
    → AreSoundRounds Means job.selector job.host job.rules (MendedInto (IsDiskOf shares job.channels.items share)) heard_so.made _ _ (heard_so.rounds share)

-- Of what a run did whose disks counted no fault: nothing failed in any of its channels.
abbrev pub IsUndisturbedRun : {R A B S N I O C K Q : Type 0} {runs : Runs (EitherPort R A B) S N I O C K} {sink : Told S} {Means : Meaning K} {moments : C → Option (ℕ → ℕ)} {heard : N → Heard}
    {left : I → Option (List ℕ)} {read_faults : I → ℕ} {took handed : O → Option (List ℕ)} {write_faults : O → ℕ}
    {disk : A → Opening → List Step → Type 0} {tells : A → Bool} {moment : A → ℕ} {laid : A → State → Type 0} {pruned : A → Type 0} {memory : B → Opening → List Step → Type 0} {tells' : B → Bool}
    {plan : Plan} {Drafted : Prepared K C → Type 0} {Opens : List SinkRow → Prepared K C → HostTold → HostTold → Outside S N → Type 0}
    {Given : Manned A B S N I O C K → List N → HostState → HostState → Type 0}
    {Back : List SinkRow → List ChannelWish → Settled S A B → Bool → Result (Unit {0}) ReportRefused → HostTold → HostTold → Type 0}
    {delivers : Q → List Content → ℕ → Result (Unit {0}) SinkRefused → Q → Type 0} {objects : List (Option Q)} {ends : RunEnds} {channels : List ChannelEnd} {a b : HostTold}
    → RunDid runs sink Means moments heard left read_faults took handed write_faults disk tells moment laid pruned memory tells' plan Drafted Opens Given Back delivers objects ends channels a b → Type 0
IsUndisturbedRun {channels = channels} {a = a} {b = b} did = (Rose a.state.disk_faults b.state.disk_faults → ⊥) → AreUndisturbed (passes_of channels)

-- Of what a run did: where neither the host nor a disk counted a fault, and the input can be read, the status is 0 or out of memory.
abbrev pub IsWellRun : {R A B S N I O C K Q : Type 0} {runs : Runs (EitherPort R A B) S N I O C K} {sink : Told S} {Means : Meaning K} {moments : C → Option (ℕ → ℕ)} {heard : N → Heard}
    {left : I → Option (List ℕ)} {read_faults : I → ℕ} {took handed : O → Option (List ℕ)} {write_faults : O → ℕ}
    {disk : A → Opening → List Step → Type 0} {tells : A → Bool} {moment : A → ℕ} {laid : A → State → Type 0} {pruned : A → Type 0} {memory : B → Opening → List Step → Type 0} {tells' : B → Bool}
    {plan : Plan} {Drafted : Prepared K C → Type 0} {Opens : List SinkRow → Prepared K C → HostTold → HostTold → Outside S N → Type 0}
    {Given : Manned A B S N I O C K → List N → HostState → HostState → Type 0}
    {Back : List SinkRow → List ChannelWish → Settled S A B → Bool → Result (Unit {0}) ReportRefused → HostTold → HostTold → Type 0}
    {delivers : Q → List Content → ℕ → Result (Unit {0}) SinkRefused → Q → Type 0} {objects : List (Option Q)} {ends : RunEnds} {channels : List ChannelEnd} {a b : HostTold}
    → RunDid runs sink Means moments heard left read_faults took handed write_faults disk tells moment laid pruned memory tells' plan Drafted Opens Given Back delivers objects ends channels a b → Type 0
IsWellRun {plan = plan} {ends = ends} {a = a} {b = b} did =
    (Rose a.state.faults b.state.faults → ⊥) → (Rose a.state.disk_faults b.state.disk_faults → ⊥) → IsReadable (line_limit plan.sources.items) a.state.input
    → (run_status ends ≡ 0) ⊎ (run_status ends ≡ 5)

-- What a run did that ended with the status 0, and whose disks counted no fault: where standard input was a source, each line that it
-- brought was answered `OK`, unless there was no memory for it, its event grew too large for one, or a channel that it has to reach refused it
-- for a limit.
abbrev pub IsSoundRun : {R A B S N I O C K Q : Type 0} {runs : Runs (EitherPort R A B) S N I O C K} {sink : Told S} {Means : Meaning K} {moments : C → Option (ℕ → ℕ)} {heard : N → Heard}
    {left : I → Option (List ℕ)} {read_faults : I → ℕ} {took handed : O → Option (List ℕ)} {write_faults : O → ℕ}
    {disk : A → Opening → List Step → Type 0} {tells : A → Bool} {moment : A → ℕ} {laid : A → State → Type 0} {pruned : A → Type 0} {memory : B → Opening → List Step → Type 0} {tells' : B → Bool}
    {plan : Plan} {Drafted : Prepared K C → Type 0} {Opens : List SinkRow → Prepared K C → HostTold → HostTold → Outside S N → Type 0}
    {Given : Manned A B S N I O C K → List N → HostState → HostState → Type 0}
    {Back : List SinkRow → List ChannelWish → Settled S A B → Bool → Result (Unit {0}) ReportRefused → HostTold → HostTold → Type 0}
    {delivers : Q → List Content → ℕ → Result (Unit {0}) SinkRefused → Q → Type 0} {objects : List (Option Q)} {ends : RunEnds} {channels : List ChannelEnd} {a b : HostTold}
    → RunDid runs sink Means moments heard left read_faults took handed write_faults disk tells moment laid pruned memory tells' plan Drafted Opens Given Back delivers objects ends channels a b → Type 0
IsSoundRun {A = A} {B = B} {I = I} {O = O} {C = C} {K = K} {Means = Means} {ends = ends} {channels = channels} {a = a} {b = b} did =
    (share : EitherShared A B) (zero : run_status ends ≡ 0) → (Rose a.state.disk_faults b.state.disk_faults → ⊥)
    → (job : LineWorker Known I O C K) (one : did.steps.ran.goes.manned.crew.jobs.lines.items ≡ job ∷ [])
    → let served = ((did.served zero).dialogue job one).served in
    AreSound (TakesLine Gave job.selector Means job.host) (MendedOver did.steps.ran.goes.manned.crew.shares.items job.channels.items)
    (home_tracks (λ (p : Known). p) (passes_of channels) job.channels.items job.ports.items) served.done _ _ served.takes
