use Rattle.std.proofs.Common.{◌≡◌}
use Rattle.agent_outside.specs.Ends.{listeners_of}
use Rattle.agent_drafts.specs.Drafts.{inputs_of}
use Rattle.agent_drafts.proofs.Dealing.{left_at}
use Rattle.agent_drafts.proofs.Ordered.{AreDraftsTo}
use Rattle.agent_drafts.proofs.drafting.draft_all.Given as goal

abbrev pub invariant-loop-at : goal.invariant-loop-at
invariant-loop-at g l = record {
  left : l.left.items ≡ left_at l.sources l.at l.fn.objects.items;
  listeners : AreDraftsTo listeners_of l.sources l.at l.fn.objects.items l.names l.listeners.items;
  lines : AreDraftsTo inputs_of l.sources l.at l.fn.objects.items l.names l.lines.items;
}
