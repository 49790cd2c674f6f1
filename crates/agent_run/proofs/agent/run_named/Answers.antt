use Rattle.std.proofs.Common.{inr}
use Rattle.std.specs.Prelude.{reverse}
use Rattle.agent_words.specs.Statuses.{status_of}
use Rattle.plan_objects.specs.Asks.{lacking}
use Rattle.agent_run.proofs.Answering.{named, not_planned, of_plan}
use Rattle.agent_run.proofs.agent.run_named.Goals as goal

pub returns-in-Ok-clause-ends : goal.returns-in-Ok-clause-ends
returns-in-Ok-clause-ends g c = named (lacking c.args.handed.now) _ _ _ c.end_plan.ensures.ends

pub returns-in-Ok-clause-ran : goal.returns-in-Ok-clause-ran
returns-in-Ok-clause-ran g c =
    let held = c.args.handed.now in
    let objects = c.in-Ok.field-0.objects in
    of_plan _ (lacking held) held c.plan_agent.new.handed objects.steps.items (reverse objects.sinks.items) (λ i. record { state = c.in-Ok.ensures.planned.1 i; folders = c.plan_agent.ensures.folders i })
    c.in-Ok.ensures.planned.0 c.in-Ok.ensures.objects.steps c.in-Ok.ensures.objects.taken c.end_plan.ensures.ran

pub returns-in-Err-clause-ran : goal.returns-in-Err-clause-ran
returns-in-Err-clause-ran g c =
    inr (not_planned (lacking c.args.handed.now) _ _ c.refused.result.status (status_of c.in-Err.error) _ _ c.refused.ensures.status c.refused.ensures.none c.in-Err.ensures.planned c.plan_agent.ensures.folders)
