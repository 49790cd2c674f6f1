-- When a work can be acknowledged.
use Rattle.std.specs.Prelude.{ℕ, Option, Some, None, Bool, false, ◌&&◌}
use Rattle.world_laws.specs.World.{Node, Work, live}
use Rattle.world_laws.specs.Steps.{are_settled, is_passed_by}

-- this work passed each channel that has to take some of its events, and is settled there
abbrev pub is_done_work : Node → Option Work → Bool
is_done_work node None = false
is_done_work node (Some work) = is_passed_by node work 0 node.channels && are_settled node work.entries

-- the work of this number did
abbrev pub is_done : ℕ → Node → Bool
is_done number node = is_done_work node (live node.works number)
