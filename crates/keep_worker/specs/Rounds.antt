-- The rounds of the worker of a channel on a disk: checkpoints, removals of old files, and mends.
use Rattle.std.specs.Prelude.{◌≡◌, ◌≤◌, ℕ, List, [], ◌∷◌, Bool, true, false, Result, OnOk}
use Rattle.channel_face.specs.Faces.{Own, Gains}
use Rattle.channel_face.specs.History.{Opening, Step}
use Rattle.channel_face.specs.Keeps.{IsCheck, IsMend, IsPrune}
use Rattle.channel_face.specs.Machine.{State}
use Rattle.channel_face.specs.declared.replies.CheckRefused.{CheckRefused}
use Rattle.channel_face.specs.declared.replies.OpenCause.{OpenCause}
use Rattle.channel_face.specs.declared.replies.PruneRefused.{PruneRefused}
use Rattle.keep_worker.specs.declared.keeping.Upkeep.{Upkeep}
use Rattle.keep_worker.specs.Answers.{needs_mend}

-- What a face says of itself: its own calls, what it saw of its channel, how many of the channel's calls it has seen, and which
-- is the same face after some calls; whether its channel is on a disk, has its state laid there, and has no old file.
pub record Face (F : Type 0) : Type 1 where
  pub own : F → Opening → List Step → List Own → Type 0
  pub saw : F → List Own → State → Type 0
  pub seen : F → ℕ
  pub kept : F → F → Type 0
  pub on_disk : F → Type 0
  pub laid : F → Type 0
  pub pruned : F → Type 0

abbrev pub face : {F : Type 0} → (F → Opening → List Step → List Own → Type 0) → (F → List Own → State → Type 0) → (F → ℕ)
    → (F → F → Type 0) → (F → Type 0) → (F → Type 0) → (F → Type 0) → Face F
face own saw seen kept on_disk laid pruned = record {
  own = own;
  saw = saw;
  seen = seen;
  kept = kept;
  on_disk = on_disk;
  laid = laid;
  pruned = pruned;
}

module _ {F : Type 0} (face : Face F) where
  -- a checkpoint was asked for and answered so; after Ok it was laid
  pub record Checks (old : F) (reply : Result (Unit {0}) CheckRefused) (new : F) : Type 0 where
    pub later : face.seen old ≤ face.seen new
    pub same : face.kept old new
    pub calls : Gains (face.own old) (face.own new) (λ earlier. IsCheck (face.seen new) reply)
    pub laid : OnOk reply (face.laid new)

  -- old files were to be removed, and it was answered so; after Ok none is left
  pub record Prunes (old : F) (reply : Result ℕ PruneRefused) (new : F) : Type 0 where
    pub later : face.seen old ≤ face.seen new
    pub same : face.kept old new
    pub calls : Gains (face.own old) (face.own new) (λ earlier. IsPrune (face.seen new) reply)
    pub gone : OnOk reply (face.pruned new)

  -- the channel was to be mended, and it was answered so
  pub record Mends (old : F) (result : Result Bool OpenCause) (new : F) : Type 0 where
    pub later : face.seen old ≤ face.seen new
    pub same : face.kept old new
    pub calls : Gains (face.own old) (face.own new) (IsMend (face.on_disk old) (face.saw new) (face.seen new) result)

module _ {P : Type 0} (Checks : P → Result (Unit {0}) CheckRefused → P → Type 0) (Prunes : P → Result ℕ PruneRefused → P → Type 0)
    (Mends : P → Result Bool OpenCause → P → Type 0) where
  -- a checkpoint, and then the removal of old files
  abbrev pub KeepsBy : P → Upkeep → P → Type 0
  KeepsBy old upkeep new = (between : P) × Checks old upkeep.checked between × Prunes between upkeep.pruned new

  -- a mend where one is due
  abbrev pub MendsIf : Bool → P → P → Type 0
  MendsIf true old new = (result : Result Bool OpenCause) × Mends old result new
  MendsIf false old new = new ≡ old

  -- these two, and a mend exactly where one of them met a broken channel or broke it
  abbrev pub RoundBy : P → Upkeep → P → Type 0
  RoundBy old upkeep new = (between : P) × KeepsBy old upkeep between × MendsIf (needs_mend upkeep.checked upkeep.pruned) between new

  -- rounds one after the other
  abbrev pub RoundsBy : List Upkeep → P → P → Type 0
  RoundsBy [] old new = new ≡ old
  RoundsBy (upkeep ∷ upkeeps) old new = (next : P) × RoundBy old upkeep next × RoundsBy upkeeps next new

-- the same of a face

abbrev pub Keeps : {F : Type 0} → Face F → F → Upkeep → F → Type 0
Keeps face = KeepsBy (Checks face) (Prunes face) (Mends face)

abbrev pub Round : {F : Type 0} → Face F → F → Upkeep → F → Type 0
Round face = RoundBy (Checks face) (Prunes face) (Mends face)

abbrev pub Rounds : {F : Type 0} → Face F → List Upkeep → F → F → Type 0
Rounds face = RoundsBy (Checks face) (Prunes face) (Mends face)
