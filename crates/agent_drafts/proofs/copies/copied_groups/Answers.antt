use Rattle.agent_drafts.specs.Copies.{seen_group}
use Rattle.agent_drafts.proofs.Copying.{seen_more}
use Rattle.agent_drafts.proofs.copies.copied_groups.Goals as goal

pub loop-group-preserved : goal.loop-group-preserved
loop-group-preserved c =
    seen_more seen_group c.args.groups.now c.loop-group.copies.items c.push.new.self.items c.loop-group.group-index c.group-item.result _ c.loop-group-test.true c.group-item.is
    c.in_ok-copied_group.ensures c.in_ok-push.ensures.items c.loop-group.invariant
