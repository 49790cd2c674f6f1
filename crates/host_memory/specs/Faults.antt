-- What a disk in memory does of a call by the list of those that are to fail.
use Rattle.std.specs.Prelude.{◌≡◌, ◌≢◌, ◌⊎◌, ◌+◌, ◌-◌, ◌^◌, ◌==◌, ℕ, List, min, Result, Ok, Err}
use Rattle.flume_host.specs.declared.names.Failed.{Failed}
use Rattle.flume_host.specs.Told.{Told, Call}
use Rattle.host_memory.specs.declared.mem_disk.MemDisk.{MemDisk}
use Rattle.host_memory.specs.declared.mem_disk.DiskFault.{DiskFault}
use Rattle.host_memory.specs.declared.parts.Part.{Part}
use Rattle.host_memory.specs.declared.parts.Part.TheVariants as Done
use Rattle.host_memory.specs.declared.parts.Outcome.{Outcome}
use Rattle.host_memory.specs.declared.parts.Outcome.TheVariants.{Whole, Partly, Nothing}
use Rattle.host_memory.specs.Look.{look_up}
use Rattle.host_memory.specs.Parts.{step_by}
use Rattle.host_memory.specs.Words.{disk_calls, disk_script}

-- how much is done of a call that has done this before it fails
abbrev pub cut_at : Part → Outcome
cut_at Done.Nothing = Nothing
cut_at (Done.Front n) = Partly n

-- how much is done of the call of this number: the first fault with the number says it, and without one it is whole
abbrev pub outcome_at : List DiskFault → ℕ → Outcome
outcome_at = look_up (λ a b. a == b) (λ fault. fault.call) (λ fault. cut_at fault.part) Whole

-- how much is done of a disk's next call
abbrev pub next_outcome : MemDisk → Outcome
next_outcome d = outcome_at (disk_script d) (disk_calls d)

-- The call was counted, and the list is as it was.
pub record IsCounted (old new : MemDisk) : Type 0 where
  pub calls : disk_calls new ≡ min (disk_calls old + 1) (2 ^ 64 - 1)
  pub script : disk_script new ≡ disk_script old

-- A call that changes the disk is done as far as the list says, and answers Ok where it was done whole. Where there was
-- no memory, or a file was missing or there already, nothing is done.
abbrev pub Follows : Outcome → Call → Told → Told → Result Unit Failed → Type 0
Follows outcome call t u (Ok done) = (outcome ≡ Whole) × (u ≡ step_by Whole call t)
Follows outcome call t u (Err failed) = ((outcome ≢ Whole) × (u ≡ step_by outcome call t)) ⊎ (u ≡ t)
