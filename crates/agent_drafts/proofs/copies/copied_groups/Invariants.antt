use Rattle.std.proofs.Common.{◌≡◌, map, take}
use Rattle.agent_drafts.specs.Copies.{seen_group}
use Rattle.agent_drafts.proofs.copies.copied_groups.Given as goal

abbrev pub invariant-loop-group : goal.invariant-loop-group
invariant-loop-group l = map seen_group l.copies.items ≡ map seen_group (take l.group-index l.groups)
