-- What the workers of a run called, in the whole histories of their channels.
use Rattle.std.specs.Prelude.{◌≡◌, ◌<◌, ℕ, List, [], ◌∷◌, length, map, Bool, true, false, Option, Some, Result, slice_index_or}
use Rattle.std.specs.List.{AllByRecursion}
use Rattle.channel_face.specs.Faces.{Own}
use Rattle.channel_face.specs.Keeps.{IsCheck, IsPrune}
use Rattle.channel_face.specs.declared.replies.CheckRefused.{CheckRefused}
use Rattle.channel_face.specs.declared.replies.PruneRefused.{PruneRefused}
use Rattle.keep_worker.specs.Rounds.{RoundsBy}
use Rattle.keep_worker.specs.declared.keeping.Upkeep.{Upkeep}
use Rattle.keep_worker.specs.declared.worker.KeepWorker.{KeepWorker}
use Rattle.shared_channel.specs.Passes.{Known}
use Rattle.sink_runner.specs.declared.turn.Turn.{Turn}
use Rattle.sink_worker.specs.Rounds.{Rounds as SinkRounds, Told}
use Rattle.sink_worker.specs.declared.worker.SinkWorker.{SinkWorker}
use Rattle.source_put.specs.Chains.{Meaning}
use Rattle.source_put.specs.Into.{Into}
use Rattle.source_put.specs.declared.chain.ChainLink.{ChainLink}
use Rattle.chain_plan.specs.Builds.{AreBuilt}
use Rattle.netcat_source.specs.Into.{TakesLine}
use Rattle.source_worker.specs.Rounds.{Answer, Heard, IsStopped, IsUnserved, Round, Rounds, Session}
use Rattle.source_worker.specs.declared.worker.ListenWorker.{ListenWorker}
use Rattle.line_session.specs.declared.session.SessionEnd.{SessionEnd}
use Rattle.line_worker.specs.Turns.{TakesTurn}
use Rattle.line_worker.specs.Workers.{Session as LineSession, Talk, told_by}
use Rattle.line_worker.specs.declared.worker.LineWorker.{LineWorker}
use Rattle.two_channels.specs.Shares.{IsDisk}
use Rattle.two_channels.specs.declared.shared.EitherShared.{EitherShared}
use Rattle.run_tracks.specs.Listening.{MendedInto, MendedPort, home_tracks}
use Rattle.run_tracks.specs.Tracks.{Calls, Gave, Mended, Track, Turned, ended, track_of}
use Rattle.run_settling.specs.declared.at_home.AtHome.{AtHome}
use Rattle.run_staff.specs.declared.workers.LineEnded.{LineEnded}

-- its next calls were a checkpoint, which was answered so
abbrev pub Checked : Track → Result (Unit {0}) CheckRefused → Track → Type 0
Checked old reply new = (more : List Own) × Calls old new more × IsCheck (length old.whole) reply more

-- its next calls were a removal of old files, which was answered so
abbrev pub Pruned : Track → Result ℕ PruneRefused → Track → Type 0
Pruned old reply new = (more : List Own) × Calls old new more × IsPrune (length old.whole) reply more

-- Of the worker of a channel on a disk, its rounds of a checkpoint, a removal of old files and a mend where one was due, in order, are all
-- calls with the number of its pass in the history that the pass at home has seen.
pub record IsKeepTold {A B C : Type 0} (shares : List (EitherShared A B)) (homes : List Known) (job : KeepWorker Known C) : Type 0 where
  pub upkeeps : List Upkeep
  pub rounds : (share : EitherShared A B) (home : Known)
      → let track = track_of (slice_index_or homes job.channel home) job.port.number in
      RoundsBy Checked Pruned (MendedPort (IsDisk (slice_index_or shares job.channel share))) upkeeps track (ended track)

-- Its rounds, in order, are all calls with the number of its pass in the history that the pass at home has seen.
pub record IsSinkTold {A B S C : Type 0} (sink : Told S) (moments : C → Option (ℕ → ℕ)) (shares : List (EitherShared A B)) (homes : List Known)
    (job : SinkWorker Known S C) (back : SinkWorker AtHome S C) : Type 0 where
  pub turns : List Turn
  pub rounds : (share : EitherShared A B) (home : Known)
      → let track = track_of (slice_index_or homes job.channel home) job.port.number in
      SinkRounds (Turned sink job.batch) (Mended (IsDisk (slice_index_or shares job.channel share))) turns
      (record { from = track; sink = job.sink; moments = moments job.clock })
      (record { from = ended track; sink = back.sink; moments = moments back.clock })
  pub number : back.port.number ≡ job.port.number
  pub channel : back.channel ≡ job.channel
  pub batch : back.batch ≡ job.batch

-- the channel at this place among a worker's is on a disk
abbrev pub IsDiskOf : {A B : Type 0} → List (EitherShared A B) → List ℕ → EitherShared A B → ℕ → Type 0
IsDiskOf shares channels share i = (i < length channels) × IsDisk (slice_index_or shares (slice_index_or channels i 0) share)

-- after a round whose session was told to stop none follows
abbrev pub StopsLast : List Round → Type 0
StopsLast [] = Unit {0}
StopsLast (round ∷ []) = Unit {0}
StopsLast (round ∷ next ∷ rounds) = (IsStopped round.found → ⊥) × StopsLast (next ∷ rounds)

-- It built the chain that was planned, or there was no memory for it. Its rounds, in order, the batch of each line or Avro call and each
-- mend, are all calls with the numbers of its passes in the histories that the passes at home have seen.
pub record IsListenTold {A B N C K : Type 0} (Means : Meaning K) (moments : C → Option (ℕ → ℕ)) (heard : N → Heard) (shares : List (EitherShared A B))
    (homes : List Known) (job : ListenWorker Known N C K) (listener : N) : Type 0 where
  pub built : Bool
  pub before : List (ChainLink K)
  pub chain : built ≡ true → AreBuilt job.plan.items before
  pub after : List (ChainLink K)
  pub later : Option (ℕ → ℕ)
  pub due : Bool
  pub made : List Round
  pub going : StopsLast made
  pub unserved : built ≡ false → AllByRecursion (λ round. IsUnserved round.found) made
  pub rounds : (share : EitherShared A B) → let tracks = home_tracks (λ (p : Known). p) homes job.channels.items job.ports.items in
      Rounds (Session job.rules Gave job.selector Means job.host) (MendedInto (IsDiskOf shares job.channels.items share)) made
      (record { into = record { route = record { links = before; ports = tracks }; moments = moments job.clock }; heard = heard job.listener; due = false })
      (record { into = record { route = record { links = after; ports = map ended tracks }; moments = later }; heard = heard listener; due = due })

-- mends of a worker's channels, in order, of which those are on a disk that are among these
abbrev pub MendedOver : {A B K : Type 0} → List (EitherShared A B) → List ℕ → Into Track K → List Answer → Into Track K → Type 0
MendedOver {A} {B} shares channels old answers new = (share : EitherShared A B) → MendedInto (IsDiskOf shares channels share) old answers new

-- It built the chain that was planned, or there was no memory for it. Then it served one session, of which it noted the end: it read
-- lines and wrote the answers of their verdicts. Those lines, in order, the batch of each and each mend, are all calls with the numbers
-- of its passes in the histories that the passes at home have seen.
pub record IsLineTold {A B I O C K : Type 0} (Means : Meaning K) (moments : C → Option (ℕ → ℕ)) (talk : I → O → Talk) (shares : List (EitherShared A B))
    (homes : List Known) (job : LineWorker Known I O C K) (back : LineEnded I O) : Type 0 where
  pub built : Bool
  pub before : List (ChainLink K)
  pub chain : built ≡ true → AreBuilt job.plan.items before
  pub after : List (ChainLink K)
  pub later : Option (ℕ → ℕ)
  pub due : Bool
  pub end : SessionEnd
  pub noted : back.end ≡ Some end
  pub session : let tracks = home_tracks (λ (p : Known). p) homes job.channels.items job.ports.items in
      LineSession job.rules.max job.rules.ack (TakesTurn (TakesLine Gave job.selector Means job.host) (MendedOver shares job.channels.items)) built end
      (record { into = record { route = record { links = before; ports = tracks }; moments = told_by moments job.clock }; due = false })
      (record { into = record { route = record { links = after; ports = map ended tracks }; moments = later }; due = due })
      (talk job.input job.output) (talk back.input back.output)
