use Rattle.std.proofs.Common.{inr, sym}
use Rattle.std.specs.Prelude.{reverse}
use Rattle.agent_end.specs.Statuses.{run_status}
use Rattle.agent_words.specs.Statuses.{status_of}
use Rattle.agent_run.proofs.Answering.{came_with, ended, first_of_six, not_begun, refused}
use Rattle.agent_run.proofs.agent.end_plan.Goals as goal

pub returns-in-Ok-clause-ends : goal.returns-in-Ok-clause-ends
returns-in-Ok-clause-ends g c = ended c.of.result.status (run_status c.in-Ok.done.ends) c.of.ensures.status (first_of_six _ _ _ _ _)

pub returns-in-Ok-clause-ran : goal.returns-in-Ok-clause-ran
returns-in-Ok-clause-ran g c =
    let run = c.in-Ok.done in
    came_with run.ends run.channels c.of.result.channels c.of.ensures.channels (sym c.of.ensures.status)
    (c.steps_are_told.ensures c.args.objects.steps.items (reverse c.args.objects.sinks.items) c.args.plan.now run.ends run.channels.items _ _ c.requires.planned c.in-Ok.ensures.ran)

pub returns-in-Err-clause-ends : goal.returns-in-Err-clause-ends
returns-in-Err-clause-ends g c = refused c.args.plan.now c.refused.result.status (status_of c.in-Err.error) _ _ c.refused.ensures.status c.in-Err.ensures.refused

pub returns-in-Err-clause-ran : goal.returns-in-Err-clause-ran
returns-in-Err-clause-ran g c = inr (not_begun c.args.plan.now c.refused.result.status (status_of c.in-Err.error) _ _ c.requires.planned c.refused.ensures.status c.refused.ensures.none c.in-Err.ensures.refused)
