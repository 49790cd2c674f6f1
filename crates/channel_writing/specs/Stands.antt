-- What the calls of a channel on a disk lead to.
use Rattle.std.specs.Prelude.{◌≡◌, ◌≤◌, ℕ, List, [], ◌∷◌, Option, Err, Bool, true, false, ◌||◌, nat_le, if◌then◌else◌}
use Rattle.std.specs.List.{AllByRecursion}
use Rattle.flume_host.specs.Causes.{Rose}
use Rattle.flume_host.specs.Folder.{Files}
use Rattle.flume_host.specs.Told.{EachMoment, Told, WhereTold, moment_of}
use Rattle.event_core.specs.Journal.{Base, IsBase}
use Rattle.channel_face.specs.Counters.{Tally, tally}
use Rattle.channel_face.specs.History.{IsRun, MayLeave, Opening, Step, opening, state_after}
use Rattle.channel_face.specs.Machine.{State, Call, Put, Take, Flush, Checkpoint, Prune, Reopen, is_some_of}
use Rattle.channel_face.specs.declared.replies.PutRefused.TheVariants as PutNo
use Rattle.channel_face.specs.declared.replies.TakeRefused.TheVariants as TakeNo
use Rattle.channel_face.specs.declared.replies.FlushRefused.TheVariants as FlushNo
use Rattle.channel_face.specs.declared.replies.CheckRefused.TheVariants as CheckNo
use Rattle.channel_face.specs.declared.replies.PruneRefused.TheVariants as PruneNo
use Rattle.channel_face.specs.declared.replies.OpenCause.TheVariants as OpenNo
use Rattle.channel_writing.specs.Folders.{OpensTo}
use Rattle.channel_writing.specs.Waiting.{waiting}

-- the calls that had ended by this moment
abbrev pub until : ℕ → List Step → List Step
until m [] = []
until m (step ∷ h) = if nat_le step.moment m then step ∷ until m h else until m h

-- an image opens to something that a crash after these calls may leave
abbrev pub MayFind : Opening → List Step → Files → Type 0
MayFind start h image = (found : Base) × (txn : ℕ) × OpensTo image found txn × MayLeave start h found

-- the call was refused because the disk failed
abbrev pub is_fault : Call → Bool
is_fault (Put token event (Err PutNo.DiskFault)) = true
is_fault (Take token (Err TakeNo.ReadFault)) = true
is_fault (Take token (Err TakeNo.DiskFault)) = true
is_fault (Flush (Err FlushNo.DiskFault)) = true
is_fault (Checkpoint (Err CheckNo.DiskFault)) = true
is_fault (Checkpoint (Err CheckNo.CheckFault)) = true
is_fault (Prune (Err PruneNo.DiskFault)) = true
is_fault (Reopen (Err OpenNo.DiskFault)) = true
is_fault call = false

-- one of the calls was
abbrev pub has_fault : List Step → Bool
has_fault [] = false
has_fault (step ∷ h) = is_fault step.call || has_fault h

-- The opening's numbers rise, and the disk shows its contents as it did then. The calls are a run from there to a state of which IsState
-- is true, with these counts and so many waiting bytes, and none ended later than now. The disk's count of faults is no less than at
-- the opening: it rose where a call was refused for a fault of the disk, and else it stayed. Where the disk shows
-- its contents, whatever a crash leaves at a moment since the opening opens to something that the calls up to that
-- moment may leave.
pub record StandsBy (IsState : State → Type 0) (told : Option Told) (faults : ℕ) (counts : Tally) (waits : ℕ) (start : Opening) (h : List Step) : Type 0 where
  pub base : IsBase start.base
  pub tells : start.tells ≡ is_some_of told
  pub run : IsRun (is_some_of told) (opening start) h
  pub state : IsState (state_after (opening start) h)
  pub tally : tally (opening start) h ≡ counts
  pub waiting : waiting (opening start) 0 h ≡ waits
  pub moments : AllByRecursion (λ step. step.moment ≤ moment_of told) h
  pub later : start.faults ≤ faults
  pub causes : has_fault h ≡ true → Rose start.faults faults
  pub clean : has_fault h ≡ false → faults ≡ start.faults
  pub images : WhereTold told (EachMoment start.from (λ m image. MayFind start (until m h) image))

-- a state of a channel, what is counted, and how many bytes of records wait in its frame
pub record Seen : Type 0 where
  pub state : State
  pub tally : Tally
  pub waiting : ℕ

-- calls lead to just this
abbrev pub StandsIn : Option Told → ℕ → Seen → Opening → List Step → Type 0
StandsIn told faults c start h = StandsBy (λ s. s ≡ c.state) told faults c.tally c.waiting start h
