use Rattle.std.proofs.Common.{◌≡◌, drop}
use Rattle.world_laws.specs.Steps.{are_settled}
use Rattle.hop_core.proofs.node.Node.are_settled.Given as goal

abbrev pub invariant-loop-entry : goal.invariant-loop-entry
invariant-loop-entry l = are_settled l.self l.entries ≡ are_settled l.self (drop l.entry-index l.entries)
