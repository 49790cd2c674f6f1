-- What is kept of a file, and what it is a piece of.
use Rattle.std.specs.Prelude.{◌≡◌, ◌≤◌, ◌+◌, ℕ, List, [], length, take, drop, Some}
use Rattle.flume_host.specs.Told.{Told}
use Rattle.flume_host.specs.declared.names.FileName.TheVariants.{Log}

-- some bytes of a log file, from an offset on
pub record Kept : Type 0 where
  pub file : ℕ
  pub from : ℕ
  pub bytes : List ℕ

-- nothing is kept
abbrev pub nothing_kept : Kept
nothing_kept = record { file = 0; from = 0; bytes = [] }

-- the greatest number of bytes that are kept: a PUT of the greatest event
abbrev pub most : ℕ
most = 1_048_589

abbrev pub kept_of : ℕ → ℕ → ℕ → List ℕ → Kept
kept_of file from filled block = record { file = file; from = from; bytes = take filled block }

pub record IsWindow (filled : ℕ) (block : List ℕ) : Type 0 where
  pub within : filled ≤ most
  pub whole : length block ≡ most

-- it has all bytes of a range
pub record Covers (k : Kept) (file at want : ℕ) : Type 0 where
  pub same : k.file ≡ file
  pub low : k.from ≤ at
  pub high : at + want ≤ k.from + length k.bytes

-- what is kept stands in that part of its file
abbrev pub IsPieceOf : Kept → (ℕ → List ℕ) → Type 0
IsPieceOf k part = k.bytes ≡ take (length k.bytes) (drop k.from (part k.file))

-- below this end a log file is this part
abbrev pub IsBelow : Told → ℕ → ℕ → List ℕ → Type 0
IsBelow t file end part = (bytes : List ℕ) → t.reads (Log file) ≡ Some bytes → take end bytes ≡ part

-- from this place on it has what the part has from an offset on
pub record HasThere (k : Kept) (place : ℕ) (part : List ℕ) (at want : ℕ) : Type 0 where
  pub long : place + want ≤ length k.bytes
  pub same : take want (drop place k.bytes) ≡ take want (drop at part)
