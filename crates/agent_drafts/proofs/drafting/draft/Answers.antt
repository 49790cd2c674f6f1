use Rattle.std.proofs.Common.{◌∙◌}
use Rattle.agent_drafts.proofs.Dealing.{left_of, linked}
use Rattle.agent_drafts.proofs.drafting.draft.Goals as goal

pub returns-clause-draft : goal.returns-clause-draft
returns-clause-draft g c = record {
  channels = c.in_ok-channels.ensures.same ∙ c.as_slice.ensures.value;
  few = c.in_ok-channels.ensures.few;
  links = linked c.args.source.now c.as_slice-2.result.now c.args.objects.now.items c.links.new.objects.items c.in_ok-plan.plan.items c.as_slice-2.ensures.value c.in_ok-plan.ensures;
  selector = c.in_ok-selector.ensures;
  host = c.in_ok-host.ensures;
  rules = c.rules_of-rules.ensures;
}

pub returns-clause-rest : goal.returns-clause-rest
returns-clause-rest g c =
    left_of c.args.source.now c.as_slice-2.result.now c.args.objects.now.items c.links.new.objects.items c.in_ok-plan.plan.items c.as_slice-2.ensures.value c.in_ok-plan.ensures
