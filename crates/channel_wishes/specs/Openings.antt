-- How the channels of a run are opened.
use Rattle.std.specs.Prelude.{◌≡◌, ◌⊎◌, ◌≤◌, ◌+◌, ℕ, List, [], ◌∷◌, Option, true, string_bytes}
use Rattle.flume_host.specs.Causes.{Counts, Rose}
use Rattle.flume_host.specs.HostState.{ButDisk, Folders, HostState}
use Rattle.flume_host.specs.Told.{Tells, Told, WhereTold, moment_of}
use Rattle.event_core.specs.Journal.{IsBase}
use Rattle.channel_face.specs.History.{Opening}
use Rattle.channel_face.specs.Machine.{is_some_of}
use Rattle.channel_face.specs.declared.replies.Kind.TheVariants.{File as OnFile, Memory as InMemory}
use Rattle.channel_face.specs.declared.replies.Limits.{Limits}
use Rattle.channel_face.specs.declared.replies.OpenCause.{OpenCause}
use Rattle.channel_face.specs.declared.replies.OpenCause.TheVariants.{DiskFault, NoMemory}
use Rattle.channel_writing.specs.Folders.{FailsToSettle, GainsLog, IsBegun, IsRefused, Opens, OpensFrom, OpensOver}
use Rattle.shared_channel.specs.Passes.{Known, new_passes}
use Rattle.two_channels.specs.Shares.{IsDisk, table_of}
use Rattle.two_channels.specs.declared.shared.EitherShared.{EitherShared}
use Rattle.channel_wishes.specs.declared.wish.ChannelPlace.{ChannelPlace}
use Rattle.channel_wishes.specs.declared.wish.ChannelPlace.TheVariants.{Memory, Folder}
use Rattle.channel_wishes.specs.declared.wish.ChannelWish.{ChannelWish}

-- how an empty channel in memory begins
abbrev pub in_memory : Limits → Opening
in_memory limits = record { rules = record { kind = InMemory; limits = limits }; base = record { items = []; first = 0 }; txn = 1; faults = 0; from = 0; tells = true }

-- How the channel of a folder begins, whose disk told this before: with what the folder opens to, at the moment at which it was settled.
pub record BeginsOnDisk (limits : Limits) (before : Option Told) (start : Opening) : Type 0 where
  pub rules : start.rules ≡ record { kind = OnFile; limits = limits }
  pub base : IsBase start.base
  pub opens : WhereTold before (λ t. Opens t.reads limits.capacity start.base start.txn)
  pub faults : start.faults ≡ 0
  pub from : start.from ≡ moment_of before + 1
  pub tells : start.tells ≡ is_some_of before

-- how a channel that is wanted begins
abbrev pub Begins : Folders → ChannelPlace → Limits → Opening → Type 0
Begins folders Memory limits start = start ≡ in_memory limits
Begins folders (Folder path) limits start = BeginsOnDisk limits (folders.disks (string_bytes path)) start

-- a shared channel is on a disk exactly where that is wanted
abbrev pub IsOfKind : {A B : Type 0} → ChannelPlace → EitherShared A B → Type 0
IsOfKind Memory share = IsDisk share → ⊥
IsOfKind (Folder path) share = IsDisk share

-- One channel has all of these passes, of which none has made a call: one at home, and one for each user.
pub record IsFresh {A B : Type 0} (Starts : Opening → Type 0) (users : ℕ) (share : EitherShared A B) (home : Known) (others : List Known) : Type 0 where
  pub start : Opening
  pub begins : Starts start
  pub passes : home ∷ others ≡ new_passes (table_of share) start (users + 1) (users + 1)

-- what a host shows of itself and of its folders
pub record HostTold : Type 0 where
  pub state : HostState
  pub folders : Folders

-- the disk of the folder is out, and the rest is as before
pub record IsOut (path : List ℕ) (a b : HostTold) : Type 0 where
  pub state : b.state ≡ a.state
  pub others : ButDisk path a.folders b.folders
  pub opened : b.folders.disk_opened path ≡ true

-- the disk of a channel in a folder is out, and all else is as before
abbrev pub TakesDisk : ChannelPlace → HostTold → HostTold → Type 0
TakesDisk Memory a b = b ≡ a
TakesDisk (Folder path) a b = IsOut (string_bytes path) a b

-- The folder was opened, and there was no memory to share the channel: it was closed at once.
pub record ClosesAtOnce (before after : Option Told) (now : ℕ) : Type 0 where
  pub gains : Tells before after (λ t u. GainsLog t.reads IsBegun u.reads)
  pub images : Tells before after OpensOver
  pub settled : Tells before after OpensFrom
  pub well : now ≡ 0

-- The folder was refused.
pub record RefusesFolder (before after : Option Told) (now capacity : ℕ) (cause : OpenCause) : Type 0 where
  pub refused : IsRefused before after 0 now capacity cause
  pub settled : ((cause ≡ DiskFault) × FailsToSettle before after) ⊎ Tells before after OpensFrom

-- what became of a folder whose channel was not opened
abbrev pub Fails : Option Told → Option Told → ℕ → ℕ → OpenCause → Type 0
Fails before after now capacity cause = RefusesFolder before after now capacity cause ⊎ ((cause ≡ NoMemory) × ClosesAtOnce before after now)

-- No disk was handed out.
pub record HandsNone (a b : HostTold) (cause : OpenCause) : Type 0 where
  pub folders : b.folders ≡ a.folders
  pub state : b.state ≡ record a.state { faults = b.state.faults }
  pub later : a.state.faults ≤ b.state.faults
  pub why : ((cause ≡ DiskFault) × Rose a.state.faults b.state.faults) ⊎ (cause ≡ NoMemory)

-- The disk of the folder was handed out and given back.
pub record GivesBack (path : List ℕ) (capacity : ℕ) (a b : HostTold) (cause : OpenCause) : Type 0 where
  pub faults : ℕ
  pub folder : Fails (a.folders.disks path) (b.folders.disks path) faults capacity cause
  pub others : ButDisk path a.folders b.folders
  pub opened : b.folders.disk_opened path ≡ true
  pub state : b.state ≡ record a.state { disk_faults = b.state.disk_faults }
  pub counts : Counts a.state.disk_faults b.state.disk_faults faults

-- why a channel was not opened, and what became of its folder
abbrev pub Refuses : ChannelPlace → ℕ → HostTold → HostTold → OpenCause → Type 0
Refuses Memory capacity a b cause = (cause ≡ NoMemory) × (b ≡ a)
Refuses (Folder path) capacity a b cause = HandsNone a b cause ⊎ GivesBack (string_bytes path) capacity a b cause

-- A channel that was wanted was opened and shared.
pub record IsOpened {A B : Type 0} (a b : HostTold) (wish : ChannelWish) (share : EitherShared A B) (home : Known) (others : List Known) : Type 0 where
  pub kind : IsOfKind wish.place share
  pub fresh : IsFresh (Begins a.folders wish.place wish.limits) wish.users share home others
  pub takes : TakesDisk wish.place a b
