-- The files that a prune keeps, and how many others there are.
use Rattle.std.specs.Prelude.{◌≡◌, ◌⊎◌, ◌<◌, ◌≤◌, ◌+◌, ◌-◌, ℕ, zero, suc, List, Option, None, Some, IsSome, is_some, Bool, if◌then◌else◌}
use Rattle.flume_host.specs.declared.names.FileName.{FileName}
use Rattle.flume_host.specs.declared.names.FileName.TheVariants.{Check, Log}
use Rattle.flume_host.specs.Folder.{Allows, Files}
use Rattle.flume_host.specs.Told.{LeavesOnly, Told}

-- a log file of the least number or a greater one, or a checkpoint of that number or a greater one
abbrev pub IsFrom : ℕ → ℕ → FileName → Type 0
IsFrom least laid (Log n) = least ≤ n
IsFrom least laid (Check n) = laid ≤ n

-- Files from these numbers on stayed as they were, and are so in what a crash leaves at any moment.
pub record KeepsFrom (least laid : ℕ) (old new : Told) : Type 0 where
  pub images : LeavesOnly old new (λ image. (name : FileName) → IsFrom least laid name → Allows (old.now name) (image name))
  pub same : (name : FileName) → IsFrom least laid name → (new.now name ≡ old.now name) × (new.reads name ≡ old.reads name)

-- the name before that of a checkpoint of this number: of the last log file there may be, or of the checkpoint before
abbrev pub IsBeforeCheck : FileName → ℕ → Type 0
IsBeforeCheck name low = ((name ≡ Log 4_294_967_295) × (low ≡ 0)) ⊎ ((name ≡ Check (low - 1)) × (1 ≤ low))

-- the name before that of a log file of this number, if there is one
abbrev pub IsBeforeLog : Option FileName → ℕ → Type 0
IsBeforeLog after low = ((after ≡ None) × (low ≡ 0)) ⊎ ((after ≡ Some (Log (low - 1))) × (1 ≤ low))

-- the least number from this one on that has a file, if one has
abbrev pub IsNextOf : (ℕ → Option (List ℕ)) → ℕ → Option ℕ → Type 0
IsNextOf files low None = (n : ℕ) → low ≤ n → files n ≡ None
IsNextOf files low (Some number) = IsSome (files number) × (low ≤ number) × ((n : ℕ) → low ≤ n → n < number → files n ≡ None)

-- whether there is a checkpoint, or a log file, of a number
abbrev pub checks_in : Files → ℕ → Bool
checks_in files n = is_some (files (Check n))

abbrev pub logs_in : Files → ℕ → Bool
logs_in files n = is_some (files (Log n))

-- how many numbers below this one pass
abbrev pub count_below : (ℕ → Bool) → ℕ → ℕ
count_below passes zero = 0
count_below passes (suc n) = (if passes n then 1 else 0) + count_below passes n
