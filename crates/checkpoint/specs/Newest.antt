-- Which checkpoint of a folder is its newest.
use Rattle.std.specs.Prelude.{◌≢◌, ◌⊎◌, ◌<◌, ◌≤◌, ℕ, List, length, get_or, Option, Some, None, IfSome, IsSomeAnd}
use Rattle.flume_host.specs.Folder.{Files}
use Rattle.flume_host.specs.declared.names.FileName.TheVariants.{Check}

-- its commit byte is not open, or no byte is after it
abbrev pub IsPassed : List ℕ → Type 0
IsPassed bytes = (length bytes ≤ 1) ⊎ (get_or bytes 0 0 ≢ 1)

-- there is no file, or one that is passed over
abbrev pub IsPassedFile : Option (List ℕ) → Type 0
IsPassedFile file = IfSome file IsPassed

-- each checkpoint above this number is passed over
abbrev pub ArePassedAbove : Files → ℕ → Type 0
ArePassedAbove files number = (n : ℕ) → number < n → IsPassedFile (files (Check n))

-- the greatest number of a checkpoint that is not passed over
abbrev pub IsNewest : Files → Option ℕ → Type 0
IsNewest files None = (n : ℕ) → IsPassedFile (files (Check n))
IsNewest files (Some number) = IsSomeAnd (files (Check number)) (λ bytes. IsPassed bytes → ⊥) × ArePassedAbove files number
