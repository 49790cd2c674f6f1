use Rattle.std.proofs.Common.{◌≡◌, drop}
use Rattle.world_laws.specs.Steps.{has_from}
use Rattle.hop_core.proofs.work.Work.has_from.Given as goal

abbrev pub invariant-loop-entry : goal.invariant-loop-entry
invariant-loop-entry l = has_from l.channel l.place l.entry-items ≡ has_from l.channel l.place (drop l.entry-index l.entry-items)
