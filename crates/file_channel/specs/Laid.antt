-- A channel of which a checkpoint may be laid, and one that was.
use Rattle.std.specs.Prelude.{◌≡◌, ◌⊎◌, ◌<◌, ◌≤◌, ◌+◌, ◌-◌, ℕ, List, [], length, IsSome, Ok, Err, Option, None, Some, IfSome, IsSomeAnd, Result, Bool, false, true, if◌then◌else◌}
use Rattle.flume_host.specs.Folder.{Files, IsImage, settle_entry}
use Rattle.flume_host.specs.Told.{Changes, Tells, Told, WhereTold}
use Rattle.flume_host.specs.declared.names.FileName.{FileName}
use Rattle.flume_host.specs.declared.names.FileName.TheVariants.{Check, Log}
use Rattle.channel_log.specs.Writer.{Writer}
use Rattle.channel_face.specs.Machine.{State}
use Rattle.channel_face.specs.declared.replies.CheckRefused.{CheckRefused}
use Rattle.channel_face.specs.declared.replies.CheckRefused.TheVariants as CheckNo
use Rattle.channel_replay.specs.Start.{Start}
use Rattle.channel_writing.specs.Mirrors.{IsStartOf}
use Rattle.channel_writing.specs.Touches.{FillsFiles}
use Rattle.checkpoint.specs.declared.place.Place.{Place}
use Rattle.checkpoint.specs.Newest.{IsNewest, IsPassedFile}
use Rattle.checkpoint.specs.Text.{CheckText}
use Rattle.checkpoint_recovery.specs.Recovers.{IsCheck}
use Rattle.checkpoint_opening.specs.Opening.{IsNamed, number_in}
use Rattle.checkpoint_opening.specs.declared.opening.NewestCheck.{NewestCheck}
use Rattle.channel_laying.specs.Laying.{AreNeeded, AreUnused, IsLaying}
use Rattle.file_channel.specs.Placed.{IsStateOf, Logged}

-- A channel that is not broken stands for this state, of which nothing is staged, and no bytes wait for a flush.
pub record IsBare (told : Option Told) (c : Logged) (s : State) : Type 0 where
  pub is : IsStateOf told c s
  pub whole : s.broken ≡ false
  pub staged : s.staged ≡ []
  pub empty : c.log.bytes ≡ []

-- In an image this checkpoint is the newest, has this place, and stands for a start that has what the state has.
pub record IsNewestOf (image : Files) (number : ℕ) (place : Place) (s : State) : Type 0 where
  pub text : CheckText
  pub start : Start
  pub newest : IsNewest image (Some number)
  pub is : IsCheck image number text start
  pub place_is : text.place ≡ place
  pub of : IsStartOf s start

-- and so it is in whatever a crash leaves
abbrev pub IsLaidOf : Told → ℕ → Place → State → Type 0
IsLaidOf t number place s = (image : Files) → IsImage t.now image → IsNewestOf image number place s

-- in an image its file is passed over, or it is so
abbrev pub MayStand : ℕ → Place → State → Files → Type 0
MayStand number place s image = IsPassedFile (image (Check number)) ⊎ IsNewestOf image number place s

-- where the writer goes on: at the closed commit byte of its file
abbrev pub end_of_log : Writer → Place
end_of_log w = record { file = w.file; at = w.gate }

-- The place is that of the last byte of the last log file, behind which the log goes on.
pub record IsEnd (t : Told) (place : Place) : Type 0 where
  pub bytes : List ℕ
  pub there : t.reads (Log place.file) ≡ Some bytes
  pub at : length bytes ≡ place.at + 1
  pub last : (n : ℕ) → place.file < n → t.reads (Log n) ≡ None

-- A checkpoint of this number is the newest in whatever a crash leaves. Its place is the end of the log, and it has what the state has.
abbrev pub IsLaid : ℕ → State → Told → Type 0
IsLaid number s t = (place : Place) × IsEnd t place × IsLaidOf t number place s

-- so it is of some number
abbrev pub HasLaid : State → Told → Type 0
HasLaid s t = (number : ℕ) × IsLaid number s t

-- One of this number is passed over in whatever a crash leaves, or is so.
abbrev pub MayBeLaid : ℕ → State → Told → Type 0
MayBeLaid number s t = (place : Place) × IsEnd t place × ((image : Files) → IsImage t.now image → MayStand number place s image)

-- the name after which the next checkpoint stands: that of this one, or of the last log file
abbrev pub check_name : Option ℕ → FileName
check_name None = Log 4_294_967_295
check_name (Some number) = Check number

-- the number of the checkpoint after those that are there: one above the greatest, or 1
pub record IsNextCheck (files : Files) (number : ℕ) : Type 0 where
  pub some : 1 ≤ number
  pub none : (n : ℕ) → number ≤ n → files (Check n) ≡ None
  pub last : 1 < number → IsSome (files (Check (number - 1)))

-- no checkpoint has this number or a greater one, and no crash leaves one, where the disk shows its contents
abbrev pub AreFree : Option Told → ℕ → Type 0
AreFree told number = WhereTold told (λ t. AreUnused t number)

-- What a channel knows of its checkpoints: the number of the next one, and the newest of them that it laid or was opened from.
pub record CheckState : Type 0 where
  pub next : ℕ
  pub laid : Option NewestCheck

-- whatever a crash leaves has a newest checkpoint of this number or a greater one, which names log files from the least one on
abbrev pub IsNeeded : Option Told → NewestCheck → Type 0
IsNeeded told laid = WhereTold told (λ t. AreNeeded t laid.least laid.number)

-- Where the disk shows its contents, the next number is free, and the newest checkpoint is needed.
pub record AreChecks (told : Option Told) (c : CheckState) : Type 0 where
  pub free : AreFree told c.next
  pub needed : IfSome c.laid (IsNeeded told)

-- this is the newest checkpoint of a folder, right for it, and the least log file that it names
abbrev pub IsNewestNamed : Files → Option NewestCheck → Type 0
IsNewestNamed files laid = IsNewest files (number_in laid) × IfSome laid (λ named. IsNamed files named)

-- it has this number
abbrev pub IsNamedAs : ℕ → Files → Option NewestCheck → Type 0
IsNamedAs number files laid = IsSomeAnd laid (λ named. (named.number ≡ number) × IsNamed files named)

-- reads give the same checkpoints, and of each a crash leaves what it might have left, or just that
abbrev pub SparesChecks : Told → Told → Type 0
SparesChecks t u = (n : ℕ) → (u.reads (Check n) ≡ t.reads (Check n)) × ((u.now (Check n) ≡ t.now (Check n)) ⊎ (u.now (Check n) ≡ settle_entry (t.reads (Check n))))

-- no checkpoint was made or removed
abbrev pub KeepsChecks : Option Told → Option Told → Type 0
KeepsChecks told told' = Tells told told' SparesChecks

-- a checkpoint was asked of a channel that could lay one: a flush was tried, and then perhaps a checkpoint
abbrev pub is_tried : Result (Unit {0}) CheckRefused → Bool
is_tried (Err CheckNo.Broken) = false
is_tried (Err (CheckNo.Spent counter)) = false
is_tried reply = true

-- the making of a file was called, and its number is used up, even where the call failed
abbrev pub is_made : Result (Unit {0}) CheckRefused → Bool
is_made (Ok done) = true
is_made (Err CheckNo.CheckFault) = true
is_made (Err refused) = false

-- the number of the next checkpoint after a call that was answered so
abbrev pub next_after : Result (Unit {0}) CheckRefused → ℕ → ℕ
next_after reply number = if is_made reply then number + 1 else number

-- Log files were filled by a flush, if something waited for one; and then the checkpoint of this number alone was written, with at most three syncs: at
-- any moment a crash leaves it passed over, or as this text says.
pub record Lays (number max_file waiting : ℕ) (c : CheckText) (t u : Told) : Type 0 where
  pub mid : Told
  pub fills : FillsFiles max_file waiting t mid
  pub nothing : waiting ≡ 0 → mid ≡ t
  pub lays : Changes (Check number) (IsLaying c) 3 mid u
