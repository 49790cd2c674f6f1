use Rattle.std.proofs.Common.{List, ℕ}
use Rattle.prop_text.specs.Views.{texts}
use Rattle.plan_judging.specs.Components.{front_of}
use Rattle.flume_config.proofs.Making.{Makes}
use Rattle.flume_config.proofs.planning.plan_each.Given as goal

abbrev pub invariant-loop-name : goal.invariant-loop-name
invariant-loop-name g l = Makes (λ (name : List ℕ). g.P.ComponentPlan.is_plan l.agent.properties.now (texts l.others.keys) (front_of l.agent.name.now g.P.ComponentPlan.between name) name) l.name-index l.names l.plans.items
