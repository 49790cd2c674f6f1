use Rattle.plan_judging.proofs.Joins.{plugin_sink}
use Rattle.plan_judging.proofs.claims.claim_sink.Goals as goal

pub returns : goal.returns
returns c = rw (← plugin_sink _) c.claim_plugin.ensures
