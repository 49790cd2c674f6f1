use Rattle.std.proofs.Common.{◌≡◌, ◌++◌, drop, map}
use Rattle.std.specs.List.{flat_map}
use Rattle.prop_text.specs.Views.{texts}
use Rattle.agent_plan.specs.Values.{mapped_at, mapped, seen_pair}
use Rattle.flume_config.proofs.routing.mapped.Given as goal

abbrev pub invariant-loop-at : goal.invariant-loop-at
invariant-loop-at l =
    map seen_pair l.found.items ++ flat_map (mapped_at (texts l.channels.keys) (l.place.front.now ++ l.key)) (drop l.at l.place.properties.now)
    ≡ mapped l.place.properties.now (texts l.channels.keys) (l.place.front.now ++ l.key)
