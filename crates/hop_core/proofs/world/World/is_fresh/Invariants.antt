use Rattle.std.proofs.Common.{◌≡◌, drop}
use Rattle.world_laws.specs.Steps.{is_fresh}
use Rattle.hop_core.proofs.world.World.is_fresh.Given as goal

abbrev pub invariant-loop-packet : goal.invariant-loop-packet
invariant-loop-packet l = is_fresh l.tag l.self.sent ≡ is_fresh l.tag (drop l.packet-index l.packet-items)
