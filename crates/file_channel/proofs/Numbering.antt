-- The checkpoints of a folder, gone through one after another.
use Rattle.std.proofs.Common.{◌≡◌, ◌+◌, ℕ, Option, Some, None}
use Rattle.std.specs.Prelude.{IsSome}
use Rattle.flume_host.specs.Folder.{Files}
use Rattle.flume_host.specs.Told.{Told, WhereTold}
use Rattle.flume_host.specs.declared.names.FileName.TheVariants.{Check}

-- how far their names were gone through
abbrev pub IsCheckThere : Files → Option ℕ → Type 0
IsCheckThere files None = Unit {0}
IsCheckThere files (Some number) = IsSome (files (Check number))

abbrev pub floor_of : Option ℕ → ℕ
floor_of None = 0
floor_of (Some number) = number + 1

-- whether the disk was gone through so far
pub record ChecksOn (was told : Option Told) (before now : ℕ) (last : Option ℕ) : Type 0 where
  pub same : told ≡ was
  pub well : now ≡ before
  pub there : WhereTold was (λ t. IsCheckThere t.reads last)
