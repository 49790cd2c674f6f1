-- How the closed channels of a run are given back.
use Rattle.std.specs.Prelude.{◌≡◌, ℕ, List, [], ◌∷◌, ◌++◌, Option, bytes_eq, string_bytes, if◌then◌else◌}
use Rattle.std.specs.List.{sum_by}
use Rattle.flume_host.specs.Causes.{Counts}
use Rattle.flume_host.specs.Told.{Told}
use Rattle.file_channel.specs.Stands.{FileState}
use Rattle.two_channels.specs.declared.shared.EitherClosed.{EitherClosed}
use Rattle.two_channels.specs.declared.shared.EitherClosed.TheVariants as closed
use Rattle.channel_wishes.specs.Openings.{HostTold}
use Rattle.channel_wishes.specs.declared.wish.ChannelPlace.{ChannelPlace}
use Rattle.channel_wishes.specs.declared.wish.ChannelPlace.TheVariants.{Memory, Folder}
use Rattle.channel_wishes.specs.declared.wish.ChannelWish.{ChannelWish}

-- A disk that comes back: the path of its folder, what it shows, and how many faults it has counted.
pub record DiskBack : Type 0 where
  pub path : List ℕ
  pub told : Option Told
  pub faults : ℕ

-- What is told of a path once these disks came back, the last of them first: what the first of them with this path shows, or else what
-- was told before.
abbrev pub told_of : List DiskBack → List ℕ → Option Told → Option Told
told_of [] p before = before
told_of (back ∷ backs) p before = if bytes_eq back.path p then back.told else told_of backs p before

abbrev pub faults_of : List DiskBack → ℕ
faults_of backs = sum_by (λ (back : DiskBack). back.faults) backs

-- These disks came back, the last of them first, and nothing else of the host changed. Its count of the faults of disks rose exactly
-- where one of them had counted a fault.
pub record DisksBack (backs : List DiskBack) (a b : HostTold) : Type 0 where
  pub disks : (p : List ℕ) → b.folders.disks p ≡ told_of backs p (a.folders.disks p)
  pub opened : (p : List ℕ) → b.folders.disk_opened p ≡ a.folders.disk_opened p
  pub rolls : b.folders.rolls ≡ a.folders.rolls
  pub rolls_opened : b.folders.roll_opened ≡ a.folders.roll_opened
  pub state : b.state ≡ record a.state { disk_faults = b.state.disk_faults }
  pub counts : Counts a.state.disk_faults b.state.disk_faults (faults_of backs)

-- a disk that shows this and counted so many faults, for the folder that is wanted
abbrev pub disk_back : ChannelPlace → Option Told → ℕ → List DiskBack
disk_back Memory told faults = []
disk_back (Folder path) told faults = record { path = string_bytes path; told = told; faults = faults } ∷ []

module _ {D B : Type 0} (told : D → Option Told) (faults : D → ℕ) where
  -- the disk of a closed channel, if it is on one
  abbrev pub back_of : ChannelPlace → EitherClosed (D × FileState) B → List DiskBack
  back_of place (closed.Disk c) = disk_back place (told c.channel.0) (faults c.channel.0)
  back_of place (closed.Memory c) = []

  -- the disks of closed channels, in order
  abbrev pub backs_of : List ChannelWish → List (EitherClosed (D × FileState) B) → List DiskBack
  backs_of [] cs = []
  backs_of (wish ∷ wishes) [] = []
  backs_of (wish ∷ wishes) (c ∷ cs) = back_of wish.place c ++ backs_of wishes cs
