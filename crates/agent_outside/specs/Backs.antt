-- Folders of rolled files that were opened and came back.
use Rattle.std.specs.Prelude.{◌≡◌, ◌||◌, ℕ, Bool, false, List, [], ◌∷◌, map, Option, bytes_eq, if◌then◌else◌}
use Rattle.std.specs.List.{list_any}
use Rattle.flume_host.specs.HostState.{Folders}
use Rattle.flume_host.specs.Rolled.{Rolled, opened}

-- a folder that came back, by its path, and what it told then
pub record RollBack : Type 0 where
  pub path : List ℕ
  pub told : Option Rolled

abbrev pub paths_of : List RollBack → List (List ℕ)
paths_of backs = map (λ (back : RollBack). back.path) backs

-- this path is among these
abbrev pub is_among : List (List ℕ) → List ℕ → Bool
is_among paths p = list_any (λ (path : List ℕ). bytes_eq path p) paths

-- What is told of a path once these folders came back, the last of them first: what the first of them with this path told,
-- or else what was told before.
abbrev pub told_of : List RollBack → List ℕ → Option Rolled → Option Rolled
told_of [] p before = before
told_of (back ∷ backs) p before = if bytes_eq back.path p then back.told else told_of backs p before

-- these folders came back, the last of them first, and nothing else of the folders changed
pub record RollsBack (backs : List RollBack) (old new : Folders) : Type 0 where
  pub rolls : (p : List ℕ) → new.rolls p ≡ told_of backs p (old.rolls p)
  pub opened : (p : List ℕ) → new.roll_opened p ≡ (is_among (paths_of backs) p || old.roll_opened p)
  pub disks : new.disks ≡ old.disks
  pub disks_opened : new.disk_opened ≡ old.disk_opened

-- Folders were opened, which show this now, and nothing else of the folders changed.
pub record RollsOut (backs : List RollBack) (old new : Folders) : Type 0 where
  -- where a path was opened more than once, what was opened first tells what was told before
  pub told : (p : List ℕ) → told_of backs p (opened (old.rolls p)) ≡ opened (old.rolls p)
  pub rolls : (p : List ℕ) → is_among (paths_of backs) p ≡ false → new.rolls p ≡ old.rolls p
  pub opened : (p : List ℕ) → new.roll_opened p ≡ (is_among (paths_of backs) p || old.roll_opened p)
  pub disks : new.disks ≡ old.disks
  pub disks_opened : new.disk_opened ≡ old.disk_opened

-- The folders of these paths were opened and came back unused: each shows what it showed when it was opened. Nothing else of
-- the folders changed.
pub record Reopened (paths : List (List ℕ)) (old new : Folders) : Type 0 where
  pub rolls : (p : List ℕ) → new.rolls p ≡ (if is_among paths p then opened (old.rolls p) else old.rolls p)
  pub opened : (p : List ℕ) → new.roll_opened p ≡ (is_among paths p || old.roll_opened p)
  pub disks : new.disks ≡ old.disks
  pub disks_opened : new.disk_opened ≡ old.disk_opened
