use Rattle.std.proofs.Common.{◌≡◌, ◌++◌, List, ap, ◌∙◌, subst}
use Rattle.prop_text.specs.Views.{texts}
use Rattle.plan_judging.specs.declared.claims.Claim.{Claim}
use Rattle.plan_judging.specs.Candidates.{Adds, seen}
use Rattle.plan_judging.specs.Claims.{Wish, wishes, clashes}
use Rattle.plan_judging.specs.Agents.{claims_of}
use Rattle.plan_judging.proofs.Joins.{join}
use Rattle.plan_judging.proofs.judging.judge.Goals as goal

pub returns : goal.returns
returns c =
    let lists = rw (c.as_str.ensures.value, c.in_ok-front.ensures, c.new-found.ensures) at c.in_ok-check_lists.ensures in
    let all = claims_of c.args.agent.now.properties.now c.args.agent.now.name.now (texts c.args.sources.now.keys) (texts c.args.channels.now.keys) (texts c.args.sinks.now.keys) (texts c.args.groups.now.keys) in
    let claimed : wishes c.as_slice.result.now ≡ all = ap wishes c.as_slice.ensures.value ∙ c.in_ok-judge_components.ensures.claimed.is ∙ ap (λ (l : List Claim). wishes l ++ all) c.new-claims.ensures.items in
    join (join lists c.in_ok-judge_components.ensures.judged)
    (subst (λ (l : List Wish). Adds (seen c.judge_components.new.found) (seen c.check_claims.new.found) (clashes l)) claimed c.in_ok-check_claims.ensures)
