use Rattle.std.proofs.Common.{length}
use Rattle.plan_objects.proofs.claim.+claim_each.Given as goal

abbrev pub decreases-claim_each : goal.decreases-claim_each
decreases-claim_each g l = length l.plans.now
