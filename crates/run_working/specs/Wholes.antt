-- What the sinks of a run called in the run and in their drainings, and its listeners in the run, in the whole histories of their channels.
use Rattle.std.specs.Prelude.{◌≡◌, ◌<◌, ℕ, List, [], ◌∷◌, All, Bool, Option, Result, String, length, slice_index_or}
use Rattle.std.specs.List.{AllByRecursion}
use Rattle.std.specs.declared.alloc.Global.{Global}
use mathlib.Core.List.{IsPrefix}
use Rattle.agent_end.specs.Drains.{Drains}
use Rattle.agent_end.specs.declared.draining.ChannelDrain.{ChannelDrain}
use Rattle.channel_face.specs.History.{Opening, Step}
use Rattle.channel_face.specs.Machine.{State}
use Rattle.channel_face.specs.declared.replies.Counts.{Counts}
use Rattle.channel_face.specs.declared.replies.OpenCause.{OpenCause}
use Rattle.shared_channel.specs.Passes.{Known}
use Rattle.sink_runner.specs.declared.turn.Turn.{Turn}
use Rattle.sink_worker.specs.Rounds.{Rounds, Taking, Told}
use Rattle.sink_worker.specs.declared.worker.SinkWorker.{SinkWorker}
use Rattle.source_put.specs.Chains.{Meaning}
use Rattle.source_worker.specs.Rounds.{Heard}
use Rattle.line_worker.specs.Workers.{Talk}
use Rattle.channel_lock.specs.Calls.{calls_by}
use Rattle.two_channels.specs.Shares.{IsDisk}
use Rattle.two_channels.specs.declared.port.EitherPort.{EitherPort}
use Rattle.two_channels.specs.declared.shared.EitherShared.{EitherShared}
use Rattle.run_tracks.specs.Dealt.{HasNumber}
use Rattle.run_tracks.specs.Drained.{Looked}
use Rattle.run_tracks.specs.Places.{Zips}
use Rattle.run_tracks.specs.Stops.{AreCounted, AreKept, AreMended, IsKept, IsMended}
use Rattle.run_tracks.specs.Tracks.{Mended, Track, Turned, ended, track_of}
use Rattle.run_settling.specs.declared.at_home.AtHome.{AtHome}
use Rattle.run_settling.specs.Draining.{AreDrained, EachGoesOn, IsDrainedAt, IsSinkHome}
use Rattle.run_working.specs.Histories.{IsKeepTold, IsLineTold, IsListenTold, IsSinkTold}
use Rattle.run_staff.specs.Jobs.{AreNew}
use Rattle.run_working.specs.Runs.{HaveRun, Runs}
use Rattle.run_staff.specs.declared.workers.Returned.{Returned}
use Rattle.run_staff.specs.declared.workers.Workers.{Workers}

-- What the one pass has seen begins what the other has seen, which has no further call with this number.
pub record IsSilent (number : ℕ) (p q : Known) : Type 0 where
  pub base : q.view.base ≡ p.view.base
  pub begins : IsPrefix p.view.seen q.view.seen
  pub calls : calls_by (number ∷ []) q.view.seen ≡ calls_by (number ∷ []) p.view.seen

-- it is so of the passes at home at this place
abbrev pub StaysSilent : ℕ → ℕ → List Known → List Known → Type 0
StaysSilent place number old new = (d : Known) → IsSilent number (slice_index_or old place d) (slice_index_or new place d)

-- it is so of the number of this sink's worker at its channel's place
abbrev pub IsSilentAt : {S C : Type 0} → List Known → List Known → SinkWorker AtHome S C → Type 0
IsSilentAt old new w = StaysSilent w.channel w.port.number old new

-- it has not this number in the channel at this place
abbrev pub IsNot : {S C : Type 0} → ℕ → ℕ → SinkWorker AtHome S C → Type 0
IsNot place number v = v.channel ≡ place → v.port.number ≡ number → ⊥

-- they have not one number in one channel
abbrev pub IsOther : {S C : Type 0} → SinkWorker AtHome S C → SinkWorker AtHome S C → Type 0
IsOther w v = IsNot w.channel w.port.number v

-- nor have any two of them
abbrev pub AreOthers : {S C : Type 0} → List (SinkWorker AtHome S C) → Type 0
AreOthers [] = Unit {0}
AreOthers (w ∷ ws) = AllByRecursion (IsOther w) ws × AreOthers ws

-- no two of these sinks have one number in one channel before a run
abbrev pub AreOtherJobs : {S C : Type 0} → List (SinkWorker Known S C) → Type 0
AreOtherJobs [] = Unit {0}
AreOtherJobs (job ∷ jobs) =
    AllByRecursion (λ other. other.channel ≡ job.channel → other.port.number ≡ job.port.number → ⊥) jobs × AreOtherJobs jobs

-- rounds of a sink's worker, and after them a draining of its channel
pub record WorkedAndDrained {S : Type 0} (sink : Told S) (batch : ℕ) (OnDisk : Type 0) (turns : List Turn) (end : ChannelDrain)
    (old new : Taking Track S) : Type 0 where
  pub between : Taking Track S
  pub rounds : Rounds (Turned sink batch) (Mended OnDisk) turns old between
  pub drains : Drains (Turned sink batch) Looked end between new

-- Its rounds and then its draining, in order, are all calls with the number of its pass in the history that the pass at home has seen.
pub record IsSinkWhole {A B S C : Type 0} (sink : Told S) (moments : C → Option (ℕ → ℕ)) (shares : List (EitherShared A B)) (homes : List Known)
    (job : SinkWorker Known S C) (end : ChannelDrain) (back : S) : Type 0 where
  pub turns : List Turn
  pub calls : (share : EitherShared A B) (home : Known)
      → let track = track_of (slice_index_or homes job.channel home) job.port.number in
      (after : Option (ℕ → ℕ)) × WorkedAndDrained sink job.batch (IsDisk (slice_index_or shares job.channel share)) turns end
      (record { from = track; sink = job.sink; moments = moments job.clock })
      (record { from = ended track; sink = back; moments = after })

-- each thing with those at its place in two further lists
abbrev pub AreBeside : {A B C : Type 0} → (A → B → C → Type 0) → List A → List B → List C → Type 0
AreBeside R [] [] [] = Unit {0}
AreBeside R (a ∷ xs) (b ∷ ys) (c ∷ zs) = R a b c × AreBeside R xs ys zs
AreBeside R xs ys zs = ⊥

-- Where sinks were told of in the histories that the passes at home had seen after their run, and then emptied their channels, they
-- are told of with their drainings in each longer history that has no further calls with their numbers.
abbrev pub SinksAreWhole : (A B : Type 0) → {S C : Type 0} → Told S → (C → Option (ℕ → ℕ)) → Type 0
SinksAreWhole A B {S} {C} sink moments =
    (shares : List (EitherShared A B)) (homes drained last : List Known) (jobs : List (SinkWorker Known S C)) (workers : List (SinkWorker AtHome S C))
    (ends : List ChannelDrain) (backs : List S)
    → Zips (IsSinkTold sink moments shares homes) jobs workers → All (IsSinkHome homes) workers → AreOthers workers
    → AreDrained (IsDrainedAt sink moments) workers homes ends backs drained → All (IsSilentAt drained last) workers
    → AreBeside (IsSinkWhole sink moments shares last) jobs ends backs

-- Where no two had one number in one channel before the run, none have after it.
abbrev pub OthersStay : (A B : Type 0) → {S C : Type 0} → Told S → (C → Option (ℕ → ℕ)) → Type 0
OthersStay A B {S} {C} sink moments =
    (shares : List (EitherShared A B)) (homes : List Known) (jobs : List (SinkWorker Known S C)) (workers : List (SinkWorker AtHome S C))
    → Zips (IsSinkTold sink moments shares homes) jobs workers → AreOtherJobs jobs → AreOthers workers

-- it is so of the numbers of these passes, each at its channel's place
abbrev pub AreSilentAt : List Known → List Known → List ℕ → List Known → Type 0
AreSilentAt old new places passes = Zips (λ place p. StaysSilent place p.number old new) places passes

-- Where passes at home go on after a run with no further calls with the numbers of the passes of those who keep channels, these are told of
-- in what those have then seen.
abbrev pub KeepersStayTold : {R A B S N I O C K : Type 0} → Runs (EitherPort R A B) S N I O C K → Type 0
KeepersStayTold {R} {A} {B} {S} {N} {I} {O} {C} {K} runs =
    (shares : List (EitherShared A B)) (homes last : List Known) (jobs : Workers Known S N I O C K) (returned : Returned S N I O C)
    → AreNew jobs → HaveRun runs shares homes jobs returned → EachGoesOn homes last
    → All (λ job. StaysSilent job.channel job.port.number homes last) jobs.keepers.items
    → All (IsKeepTold shares last) jobs.keepers.items

-- Where they go on with no further calls with the numbers of listeners' passes, these are told of in what those have then seen.
abbrev pub ListenersStayTold : {R A B S N I O C K : Type 0} → Runs (EitherPort R A B) S N I O C K → Meaning K → (C → Option (ℕ → ℕ)) → (N → Heard) → Type 0
ListenersStayTold {R} {A} {B} {S} {N} {I} {O} {C} {K} runs Means moments heard =
    (shares : List (EitherShared A B)) (homes last : List Known) (jobs : Workers Known S N I O C K) (returned : Returned S N I O C)
    → AreNew jobs → HaveRun runs shares homes jobs returned → EachGoesOn homes last
    → All (λ job. AreSilentAt homes last job.channels.items job.ports.items) jobs.listeners.items
    → Zips (IsListenTold Means moments heard shares last) jobs.listeners.items returned.listeners.items

-- Where they go on with no further calls with the numbers of the passes of workers of lines, these are told of in what those have then
-- seen.
abbrev pub LinesStayTold : {R A B S N I O C K : Type 0} → Runs (EitherPort R A B) S N I O C K → Meaning K → (C → Option (ℕ → ℕ)) → (I → O → Talk) → Type 0
LinesStayTold {R} {A} {B} {S} {N} {I} {O} {C} {K} runs Means moments talk =
    (shares : List (EitherShared A B)) (homes last : List Known) (jobs : Workers Known S N I O C K) (returned : Returned S N I O C)
    → AreNew jobs → HaveRun runs shares homes jobs returned → EachGoesOn homes last
    → All (λ job. AreSilentAt homes last job.channels.items job.ports.items) jobs.lines.items
    → Zips (IsLineTold Means moments talk shares last) jobs.lines.items returned.lines.items

-- Drainings are silent of each number that is none of the sinks' own.
abbrev pub DrainsAreSilent : {S C : Type 0} → Told S → (C → Option (ℕ → ℕ)) → Type 0
DrainsAreSilent {S} {C} sink moments =
    (place number : ℕ) (old new : List Known) (workers : List (SinkWorker AtHome S C)) (ends : List ChannelDrain) (backs : List S)
    → place < length old → HasNumber old place number → All (IsNot place number) workers
    → AreDrained (IsDrainedAt sink moments) workers old ends backs new → StaysSilent place number old new

-- Where channels are kept at the stop, each pass at home goes on, silent of each number of its own but the one that it carries.
abbrev pub KeepsAreSilent : (A B : Type 0) → (A → Opening → List Step → Type 0) → (A → Bool) → (A → ℕ) → (A → State → Type 0) → (A → Type 0) → Type 0
KeepsAreSilent A B disk tells moment laid pruned =
    (share : EitherShared A B) (shares : List (EitherShared A B)) (closes : List Bool) (old new : List Known)
    → AreKept (IsKept disk tells moment laid pruned) shares closes old new
    → EachGoesOn old new × ((place number : ℕ) → place < length old → HasNumber old place number
    → ((d : Known) → (slice_index_or old place d).number ≡ number → ⊥) → StaysSilent place number old new)

-- Where channels are mended at the stop, each pass at home goes on, silent of each number of its own but the one that it carries.
abbrev pub MendsAreSilent : (A B : Type 0) → (A → Opening → List Step → Type 0) → (A → Bool) → (A → ℕ) → Type 0
MendsAreSilent A B disk tells moment =
    (share : EitherShared A B) (shares : List (EitherShared A B)) (old new : List Known) (answers : List (Result Bool OpenCause))
    → AreMended (IsMended disk tells moment) shares old answers new
    → EachGoesOn old new × ((place number : ℕ) → place < length old → HasNumber old place number
    → ((d : Known) → (slice_index_or old place d).number ≡ number → ⊥) → StaysSilent place number old new)

-- Where channels are counted, each pass at home goes on, silent of each number.
abbrev pub CountsAreSilent : Type 0
CountsAreSilent =
    (named : String Global × Counts) (old new : List Known) (before after : List (String Global × Counts))
    → AreCounted old before after new
    → EachGoesOn old new × ((place number : ℕ) → place < length old → StaysSilent place number old new)
