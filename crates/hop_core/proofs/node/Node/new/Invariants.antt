use Rattle.std.proofs.Common.{◌≡◌, map}
use Rattle.hop_core.specs.Start.{new_channel}
use Rattle.hop_core.proofs.node.Node.new.Given as goal

abbrev pub invariant-loop-channel : goal.invariant-loop-channel
invariant-loop-channel l = l.made.items ≡ map new_channel l.yielded
