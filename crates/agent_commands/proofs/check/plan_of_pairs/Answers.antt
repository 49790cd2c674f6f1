use Rattle.std.proofs.Common.{inr}
use Rattle.agent_commands.proofs.check.plan_of_pairs.Goals as goal

pub returns-in-Err-Missing-clause-whole : goal.returns-in-Err-Missing-clause-whole
returns-in-Err-Missing-clause-whole g c = inr (record {
  plan = c.in-Ok.plan;
  planned = c.in-Ok.ensures;
  first = rw c.in-Err-Missing.field-0-is at c.in-Err-Missing.ensures.missing;
})
