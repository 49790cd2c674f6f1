-- The file of a checkpoint that is being read.
use Rattle.std.specs.Prelude.{◌≡◌, ◌<◌, ◌≤◌, ◌+◌, ◌-◌, ◌^◌, ◌++◌, ℕ, List, length, take, drop, Option, IsSome, Bool, true, false, Result, IsErrOf}
use Rattle.flume_host.specs.Causes.{Rose}
use Rattle.flume_host.specs.Told.{Told, WhereTold}
use Rattle.flume_host.specs.declared.names.FileName.TheVariants.{Check, Log}
use Rattle.flume_host.specs.Folder.{Files}
use Rattle.checkpoint_reading.specs.Fields.{Bad, Outcome, check_file}
use Rattle.checkpoint_reading.specs.declared.refused.CheckReadRefused.{CheckReadRefused}
use Rattle.checkpoint_reading.specs.declared.refused.CheckReadRefused.TheVariants as refusals

-- The number and the size of a file, an offset in it, and what was read from there on.
pub record Reader : Type 0 where
  pub number : ℕ
  pub size : ℕ
  pub at : ℕ
  pub held : List ℕ

-- a piece of the file was read, of which so many bytes are used
pub record IsReader (size at place filled : ℕ) (piece : List ℕ) : Type 0 where
  pub whole : length piece ≡ 65_536
  pub some : filled ≤ 65_536
  pub before : place ≤ filled
  pub within : at + (filled - place) ≤ size
  pub small : size < 2 ^ 63

-- what is left of the file from the offset on
abbrev pub rest : Told → Reader → List ℕ
rest t r = drop r.at (check_file t.reads r.number)

-- what was read is what the file has there
pub record IsHeld (t : Told) (r : Reader) : Type 0 where
  pub there : IsSome (t.reads (Check r.number))
  pub size : r.size ≡ length (check_file t.reads r.number)
  pub held : r.held ≡ take (length r.held) (rest t r)

-- as far as the disk shows
abbrev pub Holds : Option Told → Reader → Type 0
Holds told r = WhereTold told (λ t. IsHeld t r)

-- the same file
pub record IsSameFile (old new : Reader) : Type 0 where
  pub number : new.number ≡ old.number
  pub size : new.size ≡ old.size

-- It went on over these bytes, which it had.
pub record IsTaken (old new : Reader) (bytes : List ℕ) : Type 0 where
  pub held : old.held ≡ bytes ++ new.held
  pub at : new.at ≡ old.at + length bytes
  pub same : IsSameFile old new

-- this was read: the rest of the bytes is that, and then what is left
abbrev pub Takes : Option Told → Reader → Reader → List ℕ → Type 0
Takes told old new bytes = WhereTold told (λ t. rest t old ≡ bytes ++ rest t new)

-- fewer bytes than these are left
abbrev pub IsShort : Option Told → Reader → ℕ → Type 0
IsShort told r n = WhereTold told (λ t. length (rest t r) < n)

-- the log file is there
abbrev pub HasLog : Option Told → ℕ → Type 0
HasLog told file = WhereTold told (λ t. IsSome (t.reads (Log file)))

-- P of the file and the offset of a fault
abbrev pub WhereBad : CheckReadRefused → (ℕ → ℕ → Type 0) → Type 0
WhereBad refusals.DiskFault P = Unit {0}
WhereBad (refusals.BadCheck file at) P = P file at
WhereBad refusals.NoMemory P = Unit {0}

abbrev pub IfTrue : Bool → Type 0 → Type 0
IfTrue true P = P
IfTrue false P = Unit {0}

abbrev pub IsPlain : CheckReadRefused → Type 0
IsPlain e = WhereBad e (λ file at. ⊥)

-- The count of faults did not fall: a fault of the disk raised it, and anything else left it.
pub record IsHonest {T : Type 0} (before now : ℕ) (result : Result T CheckReadRefused) : Type 0 where
  pub later : before ≤ now
  pub fault : IsErrOf result refusals.DiskFault → Rose before now
  pub well : (IsErrOf result refusals.DiskFault → ⊥) → now ≡ before

-- What is left after gives what is left before.
abbrev pub Goes : Option Told → Reader → Reader → (Files → Outcome → List ℕ → Type 0) → (Files → Outcome → List ℕ → Type 0) → Type 0
Goes told old new Before Behind = WhereTold told (λ t. (o : Outcome) → Behind t.reads o (rest t new) → Before t.reads o (rest t old))

-- A fault names the file, and the bytes give what is left of it from the fault's offset on.
abbrev pub Faults : Option Told → Reader → (Files → Outcome → List ℕ → Type 0) → CheckReadRefused → Type 0
Faults told old Before e = WhereBad e (λ file at. (file ≡ old.number) × (at ≤ old.size) × WhereTold told (λ t. Before t.reads (Bad (drop at (check_file t.reads old.number))) (rest t old)))
