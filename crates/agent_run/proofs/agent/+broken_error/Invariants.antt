use Rattle.std.proofs.Common.{length}
use Rattle.agent_run.proofs.agent.+broken_error.Given as goal

abbrev pub decreases-broken_error : goal.decreases-broken_error
decreases-broken_error l = length l.plans.now
