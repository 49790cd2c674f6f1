-- The least log file that a checkpoint names.
use Rattle.std.specs.Prelude.{◌≤◌, ℕ}
use Rattle.checkpoint.specs.Text.{CheckText}
use Rattle.checkpoint_recovery.specs.Laws.{NamesFrom}

-- A checkpoint names log files from this one on, and from no greater one on.
pub record IsLeastNamed (least : ℕ) (c : CheckText) : Type 0 where
  pub names : NamesFrom least c
  pub most : (other : ℕ) → NamesFrom other c → other ≤ least
