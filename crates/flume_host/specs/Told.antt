-- What a disk shows, and what each call does to it.
use Rattle.std.specs.Prelude.{◌≤◌, ◌≡◌, ◌⊎◌, ◌+◌, ℕ, List, [], ◌∷◌, ◌++◌, length, get_or, Option, Some, None, Result, OnOk, OnErr, Bool, true, false, not}
use Rattle.flume_host.specs.declared.names.FileName.{FileName}
use Rattle.flume_host.specs.declared.names.Failed.{Failed}
use Rattle.flume_host.specs.Folder.{Files, Folder, Entry, Gone, There, Allows, IsImage, same_name, with_at, over, stable, make_entry, write_entry, sync_entry, settle_entry, remove_entry}

pub record Told : Type 0 where
  -- the files that reads give
  pub reads : Files
  -- what a crash may leave between this call and the next
  pub now : Folder
  -- what a crash might have left at each earlier moment, the call that ended it included
  pub past : List Folder
  -- how many of the calls were syncs
  pub syncs : ℕ

-- A change of one file.
pub data Change : Type 0 where
  Make : Change
  Write : ℕ → List ℕ → Change
  Sync : Change
  Remove : Change

-- A call that changes the disk.
pub data Call : Type 0 where
  On : FileName → Change → Call
  Settle : Call

-- what a crash may leave of the file while the change is under way, or after it failed
abbrev pub entry_under : Change → Entry → Entry
entry_under Make entry = make_entry entry
entry_under (Write at bytes) entry = write_entry at (length bytes) entry
entry_under Sync entry = entry
entry_under Remove entry = remove_entry entry

-- what a crash may leave of it after the change answered Ok
abbrev pub entry_after : Change → Option (List ℕ) → Entry → Entry
entry_after Make file entry = There (stable [])
entry_after (Write at bytes) file entry = write_entry at (length bytes) entry
entry_after Sync file entry = sync_entry file entry
entry_after Remove file entry = Gone

-- what reads give of it then
abbrev pub file_after : Change → Option (List ℕ) → Option (List ℕ)
file_after Make file = Some []
file_after (Write at bytes) None = None
file_after (Write at bytes) (Some was) = Some (over was at bytes)
file_after Sync file = file
file_after Remove file = None

abbrev pub under_way : Call → Folder → Folder
under_way (On name change) folder = with_at folder name (entry_under change (folder name))
under_way Settle folder = folder

abbrev pub left_by : Call → Files → Folder → Folder
left_by (On name change) files folder = with_at folder name (entry_after change (files name) (folder name))
left_by Settle files folder = λ name. settle_entry (files name)

abbrev pub read_by : Call → Files → Files
read_by (On name change) files = with_at files name (file_after change (files name))
read_by Settle files = files

-- the call doesn't change what reads give of this file
abbrev pub spares : Call → FileName → Bool
spares (On name change) n = not (same_name n name)
spares Settle n = true

abbrev pub cost : Change → ℕ
cost Make = 0
cost (Write at bytes) = 0
cost Sync = 1
cost Remove = 0

-- how many syncs a call is
abbrev pub sync_cost : Call → ℕ
sync_cost (On name change) = cost change
sync_cost Settle = 0

abbrev pub done : Call → Told → Told
done call t = record {
  reads = read_by call t.reads;
  now = left_by call t.reads t.now;
  past = t.past ++ under_way call t.now ∷ [];
  syncs = t.syncs + sync_cost call;
}

-- the call failed, and did some part of itself
pub record DidPart (call : Call) (old new : Told) : Type 0 where
  pub now : new.now ≡ under_way call old.now
  pub past : new.past ≡ old.past ++ under_way call old.now ∷ []
  pub syncs : new.syncs ≡ old.syncs + sync_cost call
  pub reads : IsImage new.now new.reads
  pub others : (n : FileName) → spares call n ≡ true → new.reads n ≡ old.reads n

-- at Ok all of the call is done, and at Err nothing or some part of it
pub record Leads {T : Type 0} (call : Call) (result : Result T Failed) (old new : Told) : Type 0 where
  pub ok : OnOk result (new ≡ done call old)
  pub err : OnErr result ((new ≡ old) ⊎ DidPart call old new)

-- P of what a disk shows, where it shows its contents
abbrev pub WhereTold : Option Told → (Told → Type 0) → Type 0
WhereTold told P = (t : Told) → told ≡ Some t → P t

-- What showed its contents goes on showing them, and P leads from the one to the other. What did not does not begin to.
abbrev pub Tells : {T : Type 0} → Option T → Option T → (T → T → Type 0) → Type 0
Tells None None P = Unit {0}
Tells None (Some u) P = ⊥
Tells (Some t) None P = ⊥
Tells (Some t) (Some u) P = P t u

abbrev pub Does : {T : Type 0} → Call → Result T Failed → Option Told → Option Told → Type 0
Does call result old new = Tells old new (Leads call result)

-- the number of moments before this one
abbrev pub clock : Told → ℕ
clock t = length t.past

-- a crash at moment m might leave this image
abbrev pub IsLeftAt : Told → ℕ → Files → Type 0
IsLeftAt t m image = IsImage (get_or t.past m t.now) image

-- From one state to another the past only grew, and a crash at any moment since leaves an image that has P.
pub record LeavesOnly (old new : Told) (P : Files → Type 0) : Type 0 where
  pub more : List Folder
  pub past : new.past ≡ old.past ++ more
  pub each : (m : ℕ) (image : Files) → clock old ≤ m → IsLeftAt new m image → P image

-- An image in which one file has P, and each other file is as the folder may leave it.
pub record OneFile (folder : Folder) (name : FileName) (P : Option (List ℕ) → Type 0) (image : Files) : Type 0 where
  pub file : P (image name)
  pub others : (n : FileName) → same_name n name ≡ false → Allows (folder n) (image n)

-- Calls changed one file alone, with no more syncs than this, and a crash at any moment since leaves it as P.
pub record Changes (name : FileName) (P : Option (List ℕ) → Type 0) (most : ℕ) (old new : Told) : Type 0 where
  pub images : LeavesOnly old new (OneFile old.now name P)
  pub others : (n : FileName) → same_name n name ≡ false → (new.now n ≡ old.now n) × (new.reads n ≡ old.reads n)
  pub syncs : new.syncs ≤ old.syncs + most

-- the moment, for those who note it; 0 without one
abbrev pub moment_of : Option Told → ℕ
moment_of None = 0
moment_of (Some t) = clock t

-- each image of each moment from this one on is as it may be at that moment
abbrev pub EachMoment : ℕ → (ℕ → Files → Type 0) → Told → Type 0
EachMoment from may t = (m : ℕ) (image : Files) → from ≤ m → IsLeftAt t m image → may m image
