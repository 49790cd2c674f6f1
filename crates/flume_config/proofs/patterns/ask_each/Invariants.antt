use Rattle.std.proofs.Common.{List, ℕ}
use Rattle.plan_judging.specs.Candidates.{seen}
use Rattle.plan_judging.specs.Components.{front_of}
use Rattle.flume_config.proofs.Asking.{AsksOn}
use Rattle.flume_config.proofs.patterns.ask_each.Given as goal

abbrev pub invariant-loop-name : goal.invariant-loop-name
invariant-loop-name g l = AsksOn (λ (name : List ℕ). g.K.AskedKind.asked l.place.properties.now (front_of l.place.front.now g.K.AskedKind.between name)) l.name-index l.names (seen l.fn.found) (seen l.found)
