use Rattle.std.proofs.Common.{◌∙◌, ◌≤◌, ℕ, drop, length, take, sym, ap, subst}
use Rattle.agent_plan.specs.declared.plan.SourcePlan.{SourcePlan}
use Rattle.plan_objects.specs.Asks.{asks_of_source}
use Rattle.agent_drafts.proofs.Dealing.{many_there}
use Rattle.agent_drafts.proofs.Ordered.{draft_there}
use Rattle.agent_drafts.proofs.drafting.draft_at.Goals as goal

pub draft-requires : goal.draft-requires
draft-requires g c =
    let source = c.index-sources-at.result in
    let many = many_there c.args.sources.now c.args.at source c.requires.sources ∙ ap (λ (s : SourcePlan). length (asks_of_source s)) (sym c.index-sources-at.is) in
    record { enough = subst (λ (n : ℕ). n ≤ length c.args.objects.now.items) many c.requires.enough }

pub returns-clause-draft : goal.returns-clause-draft
returns-clause-draft g c = λ all own.
    let source = c.index-sources-at.result in
    let many = many_there c.args.sources.now c.args.at source c.requires.sources ∙ ap (λ (s : SourcePlan). length (asks_of_source s)) (sym c.index-sources-at.is) in
    let taken = take (length (asks_of_source source)) c.args.objects.now.items in
    draft_there c.args.sources.now all taken c.args.names.now c.args.at source c.index-names-at.result c.in_ok-made.made c.requires.sources c.requires.names
    c.index-sources-at.is c.index-names-at.is (ap (λ (n : ℕ). take n c.args.objects.now.items) (sym many) ∙ own) c.in_ok-made.ensures.source c.in_ok-made.ensures.draft

pub returns-clause-rest : goal.returns-clause-rest
returns-clause-rest g c =
    let source = c.index-sources-at.result in
    let many = many_there c.args.sources.now c.args.at source c.requires.sources ∙ ap (λ (s : SourcePlan). length (asks_of_source s)) (sym c.index-sources-at.is) in
    c.in_ok-made.ensures.rest ∙ ap (λ (n : ℕ). drop n c.args.objects.now.items) (sym many)
