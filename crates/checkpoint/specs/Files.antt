-- The file of a checkpoint while it is made.
use Rattle.std.specs.Prelude.{◌≡◌, ◌≤◌, ◌+◌, ℕ, List, [], ◌∷◌, ◌++◌, length, Option, Some, None}
use Rattle.std.specs.List.{AllByRecursion}
use Rattle.flume_host.specs.declared.names.FileName.TheVariants.{Check}
use Rattle.flume_host.specs.Folder.{Gone, There, stable}
use Rattle.flume_host.specs.Told.{Told, WhereTold}

-- there is no such file, and no crash leaves one
abbrev pub IsUnused : Option Told → ℕ → Type 0
IsUnused told number = WhereTold told (λ t. (t.reads (Check number) ≡ None) × (t.now (Check number) ≡ Gone))

-- The file has a closed commit byte, which every crash leaves, and this text after it.
pub record IsWritten (t : Told) (number : ℕ) (text : List ℕ) : Type 0 where
  pub touched : List (ℕ × ℕ)
  pub longest : ℕ
  pub behind : AllByRecursion (λ range. 1 ≤ range.0) touched
  pub reads : t.reads (Check number) ≡ Some (0 ∷ text)
  pub left : t.now (Check number) ≡ There (record { kept = 0 ∷ []; touched = touched; longest = longest })

-- The file has these bytes, and no crash leaves others.
pub record IsKept (t : Told) (number : ℕ) (bytes : List ℕ) : Type 0 where
  pub reads : t.reads (Check number) ≡ Some bytes
  pub left : t.now (Check number) ≡ There (stable bytes)

-- Of this text a front is written after the closed commit byte, up to the offset, and the rest waits in a buffer.
pub record IsSoFar (t : Told) (number at : ℕ) (buffer text : List ℕ) : Type 0 where
  pub front : List ℕ
  pub written : IsWritten t number front
  pub at_is : at ≡ length front + 1
  pub text_is : text ≡ front ++ buffer

-- A disk, an offset of a file of it, and a buffer of what comes there.
pub record Spool : Type 0 where
  pub told : Option Told
  pub at : ℕ
  pub buffer : List ℕ

abbrev pub spool : Option Told → ℕ → List ℕ → Spool
spool told at buffer = record { told = told; at = at; buffer = buffer }

-- the text that was spooled up to now
abbrev pub Holds : ℕ → Spool → List ℕ → Type 0
Holds number s text = WhereTold s.told (λ t. IsSoFar t number s.at s.buffer text)

-- something was spooled
abbrev pub IsBegun : ℕ → Spool → Type 0
IsBegun number s = WhereTold s.told (λ t. (text : List ℕ) × IsSoFar t number s.at s.buffer text)

-- these bytes were added to what was spooled
abbrev pub Adds : ℕ → Spool → Spool → List ℕ → Type 0
Adds number old new bytes = (text : List ℕ) → Holds number old text → Holds number new (text ++ bytes)
