-- What the workers of a run called, in all that the passes of its channels had seen when these were closed.
use Rattle.std.specs.Prelude.{◌≡◌, ◌⊎◌, ℕ, List, All, Bool, Option, length, map}
use Rattle.channel_face.specs.History.{Opening, Step}
use Rattle.channel_face.specs.Machine.{State}
use Rattle.grouped_sinks.specs.declared.row.SinkRow.{SinkRow}
use Rattle.shared_channel.specs.Passes.{Known}
use Rattle.sink_worker.specs.Rounds.{Told}
use Rattle.source_put.specs.Chains.{Meaning}
use Rattle.source_worker.specs.Rounds.{Heard}
use Rattle.line_worker.specs.Workers.{Talk}
use Rattle.channel_lock.specs.Turns.{HasAll}
use Rattle.two_channels.specs.Shares.{pass_of}
use Rattle.two_channels.specs.declared.port.EitherPort.{EitherPort}
use Rattle.two_channels.specs.declared.shared.EitherShared.{EitherShared}
use Rattle.run_tracks.specs.Closes.{IsClosed}
use Rattle.run_tracks.specs.Homes.{EachTook}
use Rattle.run_tracks.specs.Places.{Zips}
use Rattle.run_tracks.specs.Stops.{IsKept, IsMended}
use Rattle.run_settling.specs.Draining.{EachGoesOn, IsDrainedAt, IsSinkHome}
use Rattle.run_working.specs.Ends.{IsLineEnded}
use Rattle.run_working.specs.Histories.{IsKeepTold, IsLineTold, IsListenTold}
use Rattle.agent_run.specs.Joined.{HaveReturned}
use Rattle.run_opening.specs.Opening.{IsManned}
use Rattle.run_working.specs.Runs.{Runs}
use Rattle.run_settling.specs.Settling.{AreSettled}
use Rattle.run_working.specs.Wholes.{AreBeside, AreSilentAt, IsSinkWhole}
use Rattle.agent_run.specs.declared.joined.Joined.{Joined}
use Rattle.run_opening.specs.declared.opening.Manned.{Manned}
use Rattle.run_opening.specs.declared.opening.Opening.{Opening as Opened}
use Rattle.run_settling.specs.declared.settling.Settled.{Settled}
use Rattle.run_staff.specs.declared.workers.Returned.{Returned}
use Rattle.run_staff.specs.declared.workers.Workers.{Workers}

-- the passes that came back of the channels when these were closed
abbrev pub finals_of : {S A B : Type 0} → Settled S A B → List Known
finals_of settled = map pass_of settled.closed.items

-- In these histories the rounds of each worker of a channel on a disk, and those of each sink and then its draining, in order, are all
-- calls with its worker's number; what is told of each listener, and of each worker of lines, are all calls with the numbers of its worker.
-- Without memory for the run a worker of lines came back as it was.
pub record AreToldInFull {A B S N I O C K : Type 0} (sink : Told S) (Means : Meaning K) (moments : C → Option (ℕ → ℕ)) (heard : N → Heard) (talk : I → O → Talk)
    (shares : List (EitherShared A B)) (homes finals : List Known) (jobs : Workers Known S N I O C K) (returned : Returned S N I O C) (settled : Settled S A B) : Type 0 where
  pub goes_on : EachGoesOn homes finals
  pub keepers : All (IsKeepTold shares finals) jobs.keepers.items
  pub sinks : AreBeside (IsSinkWhole sink moments shares finals) jobs.sinks.items settled.ends.items settled.sinks.items
  pub listeners : Zips (IsListenTold Means moments heard shares finals) jobs.listeners.items returned.listeners.items
  pub silent : All (λ job. AreSilentAt homes finals job.channels.items job.ports.items) jobs.lines.items
  pub lines : Zips (IsLineTold Means moments talk shares finals) jobs.lines.items returned.lines.items
      ⊎ Zips (IsLineEnded (λ pass. pass) homes) jobs.lines.items returned.lines.items

-- What came back of a run's workers, which were manned so, and whose channels were then settled so, is told of in full in what the
-- passes of the channels had seen when these were closed.
abbrev pub RunsAreTold : {R A B S N I O C K : Type 0} → Runs (EitherPort R A B) S N I O C K → Told S → Meaning K → (C → Option (ℕ → ℕ)) → (N → Heard) → (I → O → Talk)
    → (A → Opening → List Step → Type 0) → (A → Bool) → (A → ℕ) → (A → State → Type 0) → (A → Type 0) → (B → Opening → List Step → Type 0) → (B → Bool) → Type 0
RunsAreTold {R} {A} {B} {S} {N} {I} {O} {C} {K} runs sink Means moments heard talk disk tells moment laid pruned memory tells' =
    (plans : List SinkRow) (o : Opened A B S N I O C K) (m : Manned A B S N I O C K) (homes : List Known) (joined : Joined S C)
    (returned : Returned S N I O C) (settled : Settled S A B)
    → IsManned plans o m → EachTook m.crew.homes.items homes → All (λ (p : Known). HasAll p.view) homes
    → HaveReturned runs sink Means moments heard talk m.crew.shares.items homes m.crew.jobs returned
    → joined.sinks ≡ returned.sinks → All (IsSinkHome homes) joined.sinks.items → length m.settled.report.items ≡ length homes
    → AreSettled (IsDrainedAt sink moments) (IsKept disk tells moment laid pruned) (IsMended disk tells moment) (IsClosed disk tells memory tells') m.crew.shares.items homes
    joined.sinks.items m.closes.items m.settled.report.items settled
    → AreToldInFull sink Means moments heard talk m.crew.shares.items homes (finals_of settled) m.crew.jobs returned settled
