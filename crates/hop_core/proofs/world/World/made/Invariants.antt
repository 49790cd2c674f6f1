use Rattle.std.proofs.Common.{◌≡◌, map}
use Rattle.hop_core.specs.Start.{new_node}
use Rattle.hop_core.proofs.world.World.made.Given as goal

abbrev pub invariant-loop-node : goal.invariant-loop-node
invariant-loop-node l = l.made.items ≡ map new_node l.yielded
