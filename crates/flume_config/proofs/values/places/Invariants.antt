use Rattle.std.proofs.Common.{◌≡◌, ◌++◌, map, drop}
use Rattle.prop_text.specs.Views.{texts}
use Rattle.agent_plan.specs.Values.{place_of}
use Rattle.flume_config.proofs.values.places.Given as goal

abbrev pub invariant-loop-name : goal.invariant-loop-name
invariant-loop-name l = l.places.items ++ map (place_of (texts l.names.keys)) (texts (drop l.name-index l.chosen)) ≡ map (place_of (texts l.names.keys)) (texts l.chosen)
