use Rattle.std.proofs.Common.{List, sym, subst}
use Rattle.source_put.specs.declared.chain.ChainLink.{ChainLink}
use Rattle.chain_plan.specs.Builds.{AreBuilt, HasBad}
use Rattle.chain_plan.specs.declared.plan.LinkPlan.{LinkPlan}
use Rattle.chain_plan.proofs.Building.{bad_before, bad_last, built_push}
use Rattle.chain_plan.proofs.build.+build_chain.Goals as goal

pub returns-in-Err-clause-refused : goal.returns-in-Err-clause-refused
returns-in-Err-clause-refused g t c bad =
    subst (λ (l : List (LinkPlan g.row.B.Denot)). HasBad l) (sym c.in-Some.ensures.items) (bad_before c.pop.new.self.items c.in-Some.plan (c.in-Err.ensures.refused bad))

pub returns-in-Err-build_link-clause-refused : goal.returns-in-Err-build_link-clause-refused
returns-in-Err-build_link-clause-refused g t c bad =
    subst (λ (l : List (LinkPlan g.row.B.Denot)). HasBad l) (sym c.in-Some.ensures.items) (bad_last c.pop.new.self.items c.in-Some.plan (c.in-Err-build_link.ensures.refused bad))

pub returns-in-Ok-push-clause-made : goal.returns-in-Ok-push-clause-made
returns-in-Ok-push-clause-made g t c =
    subst (λ (x : List (LinkPlan g.row.B.Denot) × List (ChainLink g.row.B.Denot)). AreBuilt x.0 x.1) (λ i. (sym c.in-Some.ensures.items i, sym c.in-Ok-push.ensures.items i))
    (built_push c.pop.new.self.items c.in-Ok.chain.links.items c.in-Some.plan c.in-Ok-build_link.link c.in-Ok.ensures.made c.in-Ok-build_link.ensures.made)
