use Rattle.std.proofs.Common.{◌∙◌}
use Rattle.agent_plan.specs.Values.{seen_pair}
use Rattle.agent_drafts.proofs.Copying.{seen_more}
use Rattle.agent_drafts.proofs.copies.copied_mapping.Goals as goal

pub loop-key-preserved : goal.loop-key-preserved
loop-key-preserved c =
    seen_more seen_pair c.args.pairs.now c.loop-key.copies.items c.push.new.self.items c.loop-key.key-index c.loop-key-item.result _ c.loop-key-test.true c.loop-key-item.is
    (λ i. (c.in_ok-key.ensures.cases i, (c.in_ok-places.ensures ∙ c.deref.ensures.value) i)) c.in_ok-push.ensures.items c.loop-key.invariant
