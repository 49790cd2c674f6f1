use Rattle.std.proofs.Common.{◌≡◌, drop}
use Rattle.world_laws.specs.Steps.{is_passed_by}
use Rattle.hop_core.proofs.node.Node.is_passed_by.Given as goal

abbrev pub invariant-loop-place : goal.invariant-loop-place
invariant-loop-place l = is_passed_by l.self l.work 0 l.self.channels ≡ is_passed_by l.self l.work l.place (drop l.place l.self.channels)
