use Rattle.std.proofs.Common.{◌≡◌, map, take}
use Rattle.agent_plan.specs.Values.{seen_pair}
use Rattle.agent_drafts.proofs.copies.copied_mapping.Given as goal

abbrev pub invariant-loop-key : goal.invariant-loop-key
invariant-loop-key l = map seen_pair l.copies.items ≡ map seen_pair (take l.key-index l.pairs)
