use Rattle.agent_drafts.proofs.Lining.{lined}
use Rattle.agent_drafts.proofs.drafting.draft_sources.Goals as goal

pub returns-clause-lined : goal.returns-clause-lined
returns-clause-lined g c = lined c.as_slice.result.now c.args.objects.items c.args.names.now c.in_ok-drafts.drafts.lines.items c.in_ok-drafts.ensures.lines
