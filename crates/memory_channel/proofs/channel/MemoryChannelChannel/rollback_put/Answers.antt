use Rattle.std.proofs.Common.{subst}
use Rattle.channel_face.specs.History.{AddsOne}
use Rattle.channel_face.specs.Machine.{RollbackPut}
use Rattle.txn_core.specs.Counted.{Counted, StandsAs}
use Rattle.txn_core.proofs.Steps.{adds_made}
use Rattle.memory_channel.proofs.Whole.{stays}
use Rattle.memory_channel.proofs.channel.MemoryChannelChannel.rollback_put.Goals as goal

pub invariant_of-self : goal.invariant_of-self
invariant_of-self c = stays c.self.inside.lists.state (RollbackPut c.args.txn c.rollback_put.result) c.rollback_put.new.self.state c.rollback_put.ensures.moves c.self.invariant

pub returns : goal.returns
returns c =
    subst (λ (v : Counted). AddsOne (StandsAs v) (StandsAs c.rollback_put.new.self) (RollbackPut c.args.txn c.rollback_put.result) 0) c.self.view_is
    (adds_made c.self.inside.lists (RollbackPut c.args.txn c.rollback_put.result) c.rollback_put.new.self c.rollback_put.ensures)
