use Rattle.std.proofs.Common.{◌≡◌, map, take}
use Rattle.agent_plan.specs.declared.plan.ChannelPlan.{ChannelPlan}
use Rattle.run_opening.specs.Keepers.{closes}
use Rattle.run_opening.proofs.seats.closes_of.Given as goal

abbrev pub invariant-loop-plan : goal.invariant-loop-plan
invariant-loop-plan l = l.all.items ≡ map (λ (plan : ChannelPlan). closes plan.kind) (take l.plan-index l.plans)
