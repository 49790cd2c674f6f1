use Rattle.std.proofs.Common.{length}
use Rattle.chain_plan.proofs.build.+build_chain.Given as goal

abbrev pub decreases-build_chain : goal.decreases-build_chain
decreases-build_chain g l = length l.plans.items
