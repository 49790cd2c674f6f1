use Rattle.std.proofs.Common.{subst}
use Rattle.channel_face.specs.History.{AddsOne}
use Rattle.channel_face.specs.Machine.{RollbackTake}
use Rattle.txn_core.specs.Counted.{Counted, StandsAs}
use Rattle.txn_core.proofs.Steps.{adds_made}
use Rattle.memory_channel.proofs.Whole.{stays}
use Rattle.memory_channel.proofs.channel.MemoryChannelChannel.rollback_take.Goals as goal

pub invariant_of-self : goal.invariant_of-self
invariant_of-self c = stays c.self.inside.lists.state (RollbackTake c.args.txn c.rollback_take.result) c.rollback_take.new.self.state c.rollback_take.ensures.moves c.self.invariant

pub returns : goal.returns
returns c =
    subst (λ (v : Counted). AddsOne (StandsAs v) (StandsAs c.rollback_take.new.self) (RollbackTake c.args.txn c.rollback_take.result) 0) c.self.view_is
    (adds_made c.self.inside.lists (RollbackTake c.args.txn c.rollback_take.result) c.rollback_take.new.self c.rollback_take.ensures)
