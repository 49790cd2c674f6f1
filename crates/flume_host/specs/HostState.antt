-- What a host shows of itself.
use Rattle.std.specs.Prelude.{◌≡◌, ◌≢◌, ◌<◌, ◌≤◌, ℕ, Bool, List, length, Option, Some}
use Rattle.flume_host.specs.Causes.{Rose}
use Rattle.flume_host.specs.HandedOut.{HandedOut}
use Rattle.flume_host.specs.Told.{Told}
use Rattle.flume_host.specs.Rolled.{Rolled}
use Rattle.flume_host.specs.declared.names.FileRefused.{FileRefused}
use Rattle.flume_host.specs.declared.names.FileRefused.TheVariants.{Failed, TooLarge, NoMemory}

-- A stream is None where the host does not show it, and while it is handed out.
pub record HostState : Type 0 where
  -- what standard input has left
  pub input : Option (List ℕ)
  -- what standard output took
  pub output : Option (List ℕ)
  -- what standard output has surely handed on
  pub handed : Option (List ℕ)
  -- the bytes of each file that the host shows, by its path; it never changes them
  pub files : List ℕ → Option (List ℕ)
  -- the moments that each clock gives that is handed out, and the numbers of each chance
  pub moments : Option (ℕ → ℕ)
  pub draws : Option (ℕ → ℕ)
  -- its listeners, and its dialers, where it shows them
  pub listeners : Option HandedOut
  pub dialers : Option HandedOut
  -- the host's name and its address, as texts
  pub name : Option (List ℕ)
  pub address : Option (List ℕ)
  -- the host's own faults, and those of the input and the output that were given back
  pub faults : ℕ
  -- the faults of the disks that were given back
  pub disk_faults : ℕ

-- What the folders of a host show, by their paths: None where the host does not show one, and while it is handed out.
pub record Folders : Type 0 where
  -- what the disk of a folder shows, and what a folder of rolled files shows
  pub disks : List ℕ → Option Told
  pub rolls : List ℕ → Option Rolled
  -- one was opened, so it can be given back
  pub disk_opened : List ℕ → Bool
  pub roll_opened : List ℕ → Bool

-- All is as before, but for the disk of this path.
pub record ButDisk (path : List ℕ) (old new : Folders) : Type 0 where
  pub disks : (p : List ℕ) → p ≢ path → new.disks p ≡ old.disks p
  pub opened : (p : List ℕ) → p ≢ path → new.disk_opened p ≡ old.disk_opened p
  pub rolls : new.rolls ≡ old.rolls
  pub rolls_opened : new.roll_opened ≡ old.roll_opened

-- All is as before, but for the rolled files of this path.
pub record ButRoll (path : List ℕ) (old new : Folders) : Type 0 where
  pub rolls : (p : List ℕ) → p ≢ path → new.rolls p ≡ old.rolls p
  pub opened : (p : List ℕ) → p ≢ path → new.roll_opened p ≡ old.roll_opened p
  pub disks : new.disks ≡ old.disks
  pub disks_opened : new.disk_opened ≡ old.disk_opened

-- the most bytes of a file that is read whole
abbrev pub file_limit : ℕ
file_limit = 1048576

-- these are all its bytes, as far as the file is told of, and the host's count of faults did not rise
pub record WasRead (file : Option (List ℕ)) (before now : ℕ) (bytes : List ℕ) : Type 0 where
  pub whole : (told : List ℕ) → file ≡ Some told → bytes ≡ told
  pub few : length bytes ≤ file_limit
  pub well : now ≡ before

-- why a file was not read, and what became of the host's count of faults
abbrev pub NotRead : Option (List ℕ) → ℕ → ℕ → FileRefused → Type 0
NotRead file before now Failed = Rose before now
NotRead file before now (TooLarge size) = (file_limit < size) × ((told : List ℕ) → file ≡ Some told → size ≡ length told) × (now ≡ before)
NotRead file before now NoMemory = now ≡ before
