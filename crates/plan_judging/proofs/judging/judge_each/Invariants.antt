use Rattle.std.proofs.Common.{List, ℕ}
use Rattle.prop_text.specs.Views.{texts}
use Rattle.plan_judging.specs.Candidates.{seen}
use Rattle.plan_judging.specs.Claims.{wishes}
use Rattle.plan_judging.specs.Components.{front_of}
use Rattle.plan_judging.proofs.Joins.{Goes, Gathers}
use Rattle.plan_judging.proofs.judging.judge_each.Given as goal

abbrev pub invariant-loop-name : goal.invariant-loop-name
invariant-loop-name g l = record {
  judged : Goes (λ (name : List ℕ). g.K.ComponentKind.faults l.agent.properties.now l.agent.name.now (texts l.others.keys) (front_of l.agent.name.now g.K.ComponentKind.between name)) l.name-index (texts l.names) (seen l.fn.found) (seen l.found);
  claimed : Gathers (λ (name : List ℕ). g.K.ComponentKind.wishes_at l.agent.properties.now (front_of l.agent.name.now g.K.ComponentKind.between name)) l.name-index l.names (wishes l.fn.claims.items) (wishes l.claims.items);
}
