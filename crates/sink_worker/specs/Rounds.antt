-- The rounds of a sink's worker: sink runs, and mends of the channel.
use Rattle.std.specs.Prelude.{◌≡◌, ◌≤◌, ℕ, List, [], ◌∷◌, Bool, true, false, Option, Result}
use Rattle.flume_host.specs.Causes.{Rose}
use Rattle.flume_host.specs.Series.{Gives}
use Rattle.event_core.specs.Content.{Content}
use Rattle.channel_face.specs.Faces.{Own, Gains}
use Rattle.channel_face.specs.History.{Opening, Step}
use Rattle.channel_face.specs.Keeps.{IsMend}
use Rattle.channel_face.specs.Machine.{State}
use Rattle.channel_face.specs.declared.replies.OpenCause.{OpenCause}
use Rattle.plug_in.specs.declared.sink.SinkRefused.{SinkRefused}
use Rattle.sink_runner.specs.Turns.{IsSinkFailure, IsTurn}
use Rattle.sink_runner.specs.declared.turn.Turn.{Turn}
use Rattle.sink_worker.specs.Answers.{needs_mend}

-- what a sink is delivered from, the sink, and the moments that are to come, where they are told
pub record Taking (F S : Type 0) : Type 0 where
  pub from : F
  pub sink : S
  pub moments : Option (ℕ → ℕ)

-- what a face says of itself: its own calls, what it saw of its channel, how many of the channel's calls it has seen, and which
-- is the same face after some calls
pub record Face (F : Type 0) : Type 1 where
  pub own : F → Opening → List Step → List Own → Type 0
  pub saw : F → List Own → State → Type 0
  pub seen : F → ℕ
  pub kept : F → F → Type 0

abbrev pub face : {F : Type 0} → (F → Opening → List Step → List Own → Type 0) → (F → List Own → State → Type 0) → (F → ℕ) → (F → F → Type 0) → Face F
face own saw seen kept = record { own = own; saw = saw; seen = seen; kept = kept }

-- what a sink says of itself: its deliveries, and how often it has failed
pub record Told (S : Type 0) : Type 1 where
  pub delivers : S → List Content → ℕ → Result (Unit {0}) SinkRefused → S → Type 0
  pub faults : S → ℕ

abbrev pub told : {S : Type 0} → (S → List Content → ℕ → Result (Unit {0}) SinkRefused → S → Type 0) → (S → ℕ) → Told S
told delivers faults = record { delivers = delivers; faults = faults }

-- a sink that failed has counted it, and none counts down
pub record Counts {S : Type 0} (faults : S → ℕ) (old : S) (turn : Turn) (new : S) : Type 0 where
  pub cause : IsSinkFailure turn → Rose (faults old) (faults new)
  pub later : faults old ≤ faults new

module _ {F : Type 0} (face : Face F) where
  -- one run of the sink, of so many events at most, at the next moment
  pub record TurnsOnce {S : Type 0} (sink : Told S) (batch : ℕ) (old : Taking F S) (turn : Turn) (new : Taking F S) : Type 0 where
    pub later : face.seen old.from ≤ face.seen new.from
    pub same : face.kept old.from new.from
    pub counts : Counts sink.faults old.sink turn new.sink
    pub moment : ℕ
    pub next : Gives moment old.moments new.moments
    pub calls : Gains (face.own old.from) (face.own new.from) (IsTurn (face.saw new.from) (face.seen new.from) sink.delivers batch moment old.sink turn new.sink)

  -- the channel was to be mended, and it was answered so
  pub record MendsOnce (OnDisk : F → Type 0) {S : Type 0} (old : Taking F S) (result : Result Bool OpenCause)
      (new : Taking F S) : Type 0 where
    pub later : face.seen old.from ≤ face.seen new.from
    pub same : face.kept old.from new.from
    pub sink : new.sink ≡ old.sink
    pub moments : new.moments ≡ old.moments
    pub calls : Gains (face.own old.from) (face.own new.from) (IsMend (OnDisk old.from) (face.saw new.from) (face.seen new.from) result)

-- a mend where one is due
abbrev pub MendsIf : {P : Type 0} → (P → Result Bool OpenCause → P → Type 0) → Bool → P → P → Type 0
MendsIf Mends true old new = (result : Result Bool OpenCause) × Mends old result new
MendsIf Mends false old new = new ≡ old

module _ {P : Type 0} (Turns : P → Turn → P → Type 0) (Mends : P → Result Bool OpenCause → P → Type 0) where
  -- a sink run, and a mend exactly where it met a broken channel or left its commit in doubt
  abbrev pub Round : P → Turn → P → Type 0
  Round old turn new = (between : P) × Turns old turn between × MendsIf Mends (needs_mend turn) between new

  -- rounds one after the other
  abbrev pub Rounds : List Turn → P → P → Type 0
  Rounds [] old new = new ≡ old
  Rounds (turn ∷ turns) old new = (next : P) × Round old turn next × Rounds turns next new
