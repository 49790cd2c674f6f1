-- What a run read of standard input and wrote on standard output through its worker of lines.
use Rattle.std.specs.Prelude.{◌≡◌, ◌≢◌, ℕ, List, [], ◌∷◌, Bool, true, false, Option, Some, map}
use Rattle.flume_host.specs.Causes.{Counts}
use Rattle.flume_host.specs.HostState.{HostState}
use Rattle.shared_channel.specs.Passes.{Known}
use Rattle.sink_worker.specs.Rounds.{Told}
use Rattle.source_put.specs.Chains.{Meaning}
use Rattle.source_put.specs.declared.chain.ChainLink.{ChainLink}
use Rattle.chain_plan.specs.Builds.{AreBuilt}
use Rattle.netcat_source.specs.Into.{TakesLine}
use Rattle.source_worker.specs.Rounds.{Heard}
use Rattle.line_session.specs.Sessions.{HasCauseOf, Served, ends_of}
use Rattle.line_session.specs.declared.session.SessionEnd.{SessionEnd}
use Rattle.line_session.specs.declared.session.SessionEnd.TheVariants as session
use Rattle.line_worker.specs.Turns.{TakesTurn}
use Rattle.line_worker.specs.Workers.{ends_session, talk_of, told_by}
use Rattle.line_worker.specs.declared.worker.LineWorker.{LineWorker}
use Rattle.two_channels.specs.declared.port.EitherPort.{EitherPort}
use Rattle.two_channels.specs.declared.shared.EitherShared.{EitherShared}
use Rattle.run_tracks.specs.Listening.{home_tracks}
use Rattle.run_tracks.specs.Places.{Zips}
use Rattle.run_tracks.specs.Tracks.{Gave, ended}
use Rattle.agent_end.specs.Statuses.{run_status}
use Rattle.agent_end.specs.declared.ends.InputEnd.TheVariants as input
use Rattle.agent_end.specs.declared.ends.RunEnds.{RunEnds}
use Rattle.run_working.specs.Histories.{IsLineTold, MendedOver}
use Rattle.agent_run.specs.Joined.{AreTold, HaveReturned}
use Rattle.run_working.specs.Runs.{HaveRun, Runs}
use Rattle.run_opening.specs.Staff.{own_talk}
use Rattle.run_opening.specs.Streams.{AreTaken, DrainKept, InTurn, TalkKept, end_of_session, ended_of, output_failed}
use Rattle.run_staff.specs.declared.workers.Returned.{Returned}
use Rattle.run_staff.specs.declared.workers.Workers.{Workers}

-- The worker built its chain, or had no memory for it. Then one session was served, from what standard input and output were before to
-- what they are after it: lines were read, each was put into the channels, and each was answered by what became of it. The batch of
-- each line and each mend, in order, are all calls with the numbers of the worker's passes in the histories that were seen. Unless the
-- output failed, all that was written was handed on. Faults are counted by what ended the session, among those of the host.
pub record IsDialogue {A B I O C K : Type 0} (Means : Meaning K) (moments : C → Option (ℕ → ℕ)) (shares : List (EitherShared A B)) (seen : List Known)
    (job : LineWorker Known I O C K) (end : SessionEnd) (old new : HostState) : Type 0 where
  pub built : Bool
  pub before : List (ChainLink K)
  pub chain : built ≡ true → AreBuilt job.plan.items before
  pub after : List (ChainLink K)
  pub later : Option (ℕ → ℕ)
  pub due : Bool
  pub served : let tracks = home_tracks (λ (p : Known). p) seen job.channels.items job.ports.items in
      Served job.rules.max job.rules.ack ends_session (TakesTurn (TakesLine Gave job.selector Means job.host) (MendedOver shares job.channels.items))
      (ends_of old.input
      (record { into = record { route = record { links = before; ports = tracks }; moments = told_by moments job.clock }; due = false })
      old.output)
      (ends_of new.input
      (record { into = record { route = record { links = after; ports = map ended tracks }; moments = later }; due = due })
      new.output) end
  pub handed : built ≡ true → end ≢ session.WriteFault → new.handed ≡ new.output
  pub unserved : built ≡ false → end ≡ session.NoMemory
  pub reads : ℕ
  pub writes : ℕ
  pub cause : HasCauseOf end 0 reads 0 writes
  pub between : ℕ
  pub read_count : Counts old.faults between reads
  pub write_count : Counts between new.faults writes

module _ {R A B S N I O C K : Type 0} (runs : Runs (EitherPort R A B) S N I O C K) (Means : Meaning K) (moments : C → Option (ℕ → ℕ))
    (left : I → Option (List ℕ)) (read_faults : I → ℕ) (took handed : O → Option (List ℕ)) (write_faults : O → ℕ) where
  -- Where a run has one worker of lines, to which the host handed out standard input and output, and that is told of in what passes have
  -- seen, the host has had its dialogue once it has these back, and its end is what ended the reading of standard input.
  abbrev pub LinesAreAnswered : Type 0
  LinesAreAnswered =
      (shares : List (EitherShared A B)) (homes seen : List Known) (jobs : Workers Known S N I O C K) (returned : Returned S N I O C)
      (job : LineWorker Known I O C K) (old begun between new : HostState)
      → jobs.lines.items ≡ job ∷ []
      → AreTaken left read_faults took handed write_faults (map (λ job. own_talk job) jobs.lines.items) jobs.drains.items old begun
      → HaveRun runs shares homes jobs returned
      → Zips (IsLineTold Means moments (talk_of left read_faults took handed write_faults) shares seen) jobs.lines.items returned.lines.items
      → InTurn (DrainKept left read_faults) returned.drains.items begun between
      → InTurn (TalkKept left read_faults took handed write_faults) returned.lines.items between new
      → (end : SessionEnd) × IsDialogue Means moments shares seen job end old new
      × (ended_of returned.drains.items returned.lines.items ≡ record { input = end_of_session (Some end); output_failed = output_failed (Some end) })

-- Where the reading of standard input did not end when out of memory, the workers ran.
abbrev pub RanUnlessNoMemory : {R A B S N I O C K : Type 0} → Runs (EitherPort R A B) S N I O C K → Told S → Meaning K → (C → Option (ℕ → ℕ)) → (N → Heard)
    → (I → Option (List ℕ)) → (I → ℕ) → (O → Option (List ℕ)) → (O → Option (List ℕ)) → (O → ℕ) → Type 0
RanUnlessNoMemory {R} {A} {B} {S} {N} {I} {O} {C} {K} runs sink Means moments heard left read_faults took handed write_faults =
    let talk = talk_of left read_faults took handed write_faults in
    (shares : List (EitherShared A B)) (homes : List Known) (jobs : Workers Known S N I O C K) (returned : Returned S N I O C) (old begun : HostState)
    → AreTaken left read_faults took handed write_faults (map (λ job. own_talk job) jobs.lines.items) jobs.drains.items old begun
    → HaveReturned runs sink Means moments heard talk shares homes jobs returned
    → (ended_of returned.drains.items returned.lines.items).input ≢ input.NoMemory
    → AreTold runs sink Means moments heard talk shares homes jobs returned

-- Where a run whose streams were given back had the status 0, the workers ran; and where it has one worker of lines, that is told of in
-- what passes have seen, its session was a dialogue to the end of standard input.
abbrev pub EndsWell : {R A B S N I O C K : Type 0} → Runs (EitherPort R A B) S N I O C K → Told S → Meaning K → (C → Option (ℕ → ℕ)) → (N → Heard)
    → (I → Option (List ℕ)) → (I → ℕ) → (O → Option (List ℕ)) → (O → Option (List ℕ)) → (O → ℕ) → Type 0
EndsWell {R} {A} {B} {S} {N} {I} {O} {C} {K} runs sink Means moments heard left read_faults took handed write_faults =
    let talk = talk_of left read_faults took handed write_faults in
    (shares : List (EitherShared A B)) (homes : List Known) (jobs : Workers Known S N I O C K) (returned : Returned S N I O C)
    (old begun between new : HostState) (ends : RunEnds)
    → AreTaken left read_faults took handed write_faults (map (λ job. own_talk job) jobs.lines.items) jobs.drains.items old begun
    → HaveReturned runs sink Means moments heard talk shares homes jobs returned
    → InTurn (DrainKept left read_faults) returned.drains.items begun between
    → InTurn (TalkKept left read_faults took handed write_faults) returned.lines.items between new
    → ends.input ≡ (ended_of returned.drains.items returned.lines.items).input → run_status ends ≡ 0
    → AreTold runs sink Means moments heard talk shares homes jobs returned
    × ((seen : List Known) (job : LineWorker Known I O C K) → Zips (IsLineTold Means moments talk shares seen) jobs.lines.items returned.lines.items
    → jobs.lines.items ≡ job ∷ [] → IsDialogue Means moments shares seen job session.End old new)

-- Where the reading of standard input came to its end, the session did.
abbrev pub EndsAtEnd : Type 0
EndsAtEnd = (end : SessionEnd) → end_of_session (Some end) ≡ input.End → end ≡ session.End
