use Rattle.std.proofs.Common.{ℕ, List, IfOk, Result, Ok, Err, subst}
use Rattle.std.specs.declared.alloc.AllocError.{AllocError}
use Rattle.prop_text.specs.Views.{texts}
use Rattle.plan_judging.specs.declared.findings.Findings.{Findings}
use Rattle.plan_judging.specs.Candidates.{adds, seen}
use Rattle.agent_plan.specs.Plans.{IsSeen, IsJudged}
use Rattle.flume_config.proofs.agent.judged.Goals as goal

pub returns : goal.returns
unfolding adds
returns c = by c.judge.result c.judge.ensures
  where
    by :
        (r : Result Findings AllocError)
        → IfOk r (λ f. IsSeen c.args.agent.now.properties.now c.args.agent.now.name.now (texts c.args.names.now.sources.keys) (texts c.args.names.now.channels.keys) (texts c.args.names.now.sinks.keys) (texts c.args.names.now.groups.keys) (seen f))
        → IfOk r (λ f. IsJudged c.args.agent.now.properties.now c.args.agent.now.name.now (seen f))
    by (Ok f) all =
        let names = c.requires in
        let S : List (List ℕ) × (List (List ℕ) × (List (List ℕ) × List (List ℕ))) → Type 0 = λ x. IsSeen c.args.agent.now.properties.now c.args.agent.now.name.now x.0 x.1.0 x.1.1.0 x.1.1.1 (seen f) in
        let whole = subst S (λ i. (names.sources i, (names.channels i, (names.sinks i, names.groups i)))) all in
        record { verdicts = whole.verdicts; are = whole.are; is = whole.is }
    by (Err e) all = tt
