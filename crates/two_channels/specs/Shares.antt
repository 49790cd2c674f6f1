-- A shared channel of either kind.
use Rattle.std.specs.Prelude.{◌≡◌, ℕ, Bool, false, List, [], Result, Ok, OnOk}
use Rattle.atomic_table.specs.Seated.{TableId}
use Rattle.channel_face.specs.History.{Opening, Step}
use Rattle.channel_face.specs.Keeps.{is_spent_check, is_spent_prune}
use Rattle.channel_face.specs.Machine.{State, Checkpoint, Prune}
use Rattle.channel_face.specs.declared.replies.CheckRefused.{CheckRefused}
use Rattle.channel_face.specs.declared.replies.OpenCause.{OpenCause}
use Rattle.channel_face.specs.declared.replies.PruneRefused.{PruneRefused}
use Rattle.shared_channel.specs.Calls.{Answers, Left, Looks, SawOf}
use Rattle.shared_channel.specs.Counting.{StandsAgreeing}
use Rattle.shared_channel.specs.Durables.{Mends}
use Rattle.shared_channel.specs.Passes.{Known}
use Rattle.channel_lock.specs.Views.{View}
use Rattle.two_channels.specs.Ports.{IsOnDisk}
use Rattle.two_channels.specs.declared.port.EitherPort.{EitherPort}
use Rattle.two_channels.specs.declared.shared.EitherShared.{EitherShared}
use Rattle.two_channels.specs.declared.shared.EitherShared.TheVariants as share
use Rattle.two_channels.specs.declared.shared.EitherClosed.{EitherClosed}
use Rattle.two_channels.specs.declared.shared.EitherClosed.TheVariants as closed

module _ {A B : Type 0} where
  abbrev pub table_of : EitherShared A B → TableId
  table_of (share.Disk s) = s.turn.table.shared.table_id
  table_of (share.Memory s) = s.turn.table.shared.table_id

  -- the channel is on a disk
  abbrev pub IsDisk : EitherShared A B → Type 0
  IsDisk (share.Disk s) = Unit {0}
  IsDisk (share.Memory s) = ⊥

  -- the port is of a channel on a disk exactly where the shared channel is one
  abbrev pub IsPortOf : {R : Type 0} → EitherShared A B → EitherPort R A B → Type 0
  IsPortOf s p = (IsDisk s → IsOnDisk p) × (IsOnDisk p → IsDisk s)

  -- the pass that came back
  abbrev pub pass_of : EitherClosed A B → Known
  pass_of (closed.Disk c) = c.pass
  pass_of (closed.Memory c) = c.pass

  -- it is of the same kind, and its channel stands for these calls
  abbrev pub StandsClosed : (A → Opening → List Step → Type 0) → (B → Opening → List Step → Type 0) → EitherShared A B → Opening → List Step → EitherClosed A B → Type 0
  StandsClosed disk memory (share.Disk s) start calls (closed.Disk c) = StandsAgreeing disk c.channel start calls
  StandsClosed disk memory (share.Memory s) start calls (closed.Memory c) = StandsAgreeing memory c.channel start calls
  StandsClosed disk memory s start calls c = ⊥

  -- it is of the same kind, and its pass called nothing, and saw all that its channel then stands for
  abbrev pub LeftIn : (A → Opening → List Step → Type 0) → (A → Bool) → (B → Opening → List Step → Type 0) → (B → Bool) → EitherShared A B → View → EitherClosed A B → Type 0
  LeftIn disk tells memory tells' (share.Disk s) v (closed.Disk c) = Left disk tells v [] c.pass.view c.channel
  LeftIn disk tells memory tells' (share.Memory s) v (closed.Memory c) = Left memory tells' v [] c.pass.view c.channel
  LeftIn disk tells memory tells' s v c = ⊥

  -- it was looked at: nothing was called, and a channel of its kind stands for all that is seen
  abbrev pub LooksIn : (A → Opening → List Step → Type 0) → (A → Bool) → (B → Opening → List Step → Type 0) → (B → Bool) → EitherShared A B → View → View → Type 0
  LooksIn disk tells memory tells' (share.Disk s) v w = Looks disk tells v w
  LooksIn disk tells memory tells' (share.Memory s) v w = Looks memory tells' v w

  -- it was mended, or it is not on a disk, and nothing was called
  abbrev pub MendsIn : (A → Opening → List Step → Type 0) → (A → Bool) → (A → ℕ) → EitherShared A B → View → ℕ → Result Bool OpenCause → View → Type 0
  MendsIn disk tells moment (share.Disk s) v by result w = Mends disk tells moment v by result w
  MendsIn disk tells moment (share.Memory s) v by result w = (w ≡ v) × (result ≡ Ok false)

-- A checkpoint was asked for, and then the removal of old files, under this number, and no other call was made with a number of the pass.
-- After Ok the channel then had a checkpoint of what was seen, and no file that its newest one does not need.
pub record Kept {A : Type 0} (disk : A → Opening → List Step → Type 0) (tells : A → Bool) (moment : A → ℕ) (Laid : A → State → Type 0)
    (Pruned : A → Type 0) (v : View) (by : ℕ) (w : View) : Type 0 where
  pub check : Result (Unit {0}) CheckRefused
  pub prune : Result ℕ PruneRefused
  pub between : View
  pub checks : Answers disk tells moment (is_spent_check check) v by (Checkpoint check) between
  pub prunes : Answers disk tells moment (is_spent_prune prune) between by (Prune prune) w
  pub laid : OnOk check (SawOf disk tells Laid between)
  pub gone : OnOk prune (SawOf disk tells (λ c s. Pruned c) w)

-- it was kept so, or it is not on a disk, and nothing was called
abbrev pub KeepsIn : {A B : Type 0} → (A → Opening → List Step → Type 0) → (A → Bool) → (A → ℕ) → (A → State → Type 0) → (A → Type 0) → EitherShared A B → View → ℕ → View → Type 0
KeepsIn disk tells moment laid pruned (share.Disk s) v by w = Kept disk tells moment laid pruned v by w
KeepsIn disk tells moment laid pruned (share.Memory s) v by w = w ≡ v
