-- What a prune of a channel's folder removes.
use Rattle.std.specs.Prelude.{◌≡◌, ◌<◌, ◌+◌, ℕ, Option, None, Some, IfSome}
use Rattle.flume_host.specs.Folder.{Files}
use Rattle.flume_host.specs.Told.{Told}
use Rattle.flume_host.specs.declared.names.FileName.TheVariants.{Check, Log}
use Rattle.checkpoint_opening.specs.declared.opening.NewestCheck.{NewestCheck}
use Rattle.checkpoint_pruning.specs.Pruning.{checks_in, count_below, logs_in}

-- A folder has no checkpoint below this one, and no log file below those that it names.
pub record IsPruned (files : Files) (laid : NewestCheck) : Type 0 where
  pub checks : (n : ℕ) → n < laid.number → files (Check n) ≡ None
  pub logs : (n : ℕ) → n < laid.least → files (Log n) ≡ None

-- how many of these a folder has
abbrev pub pruned_count : Files → Option NewestCheck → ℕ
pruned_count files None = 0
pruned_count files (Some laid) = count_below (checks_in files) laid.number + count_below (logs_in files) laid.least

-- where a newest checkpoint is known, no older file is left
abbrev pub IsPrunedBy : Option NewestCheck → Told → Type 0
IsPrunedBy laid t = IfSome laid (IsPruned t.reads)

-- so many files are older than those that the newest checkpoint needs
abbrev pub HasOld : Option NewestCheck → ℕ → Told → Type 0
HasOld laid count t = count ≡ pruned_count t.reads laid
