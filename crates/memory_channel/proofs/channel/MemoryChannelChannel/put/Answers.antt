use Rattle.std.proofs.Common.{subst}
use Rattle.channel_face.specs.History.{AddsOne}
use Rattle.channel_face.specs.Machine.{Put}
use Rattle.txn_core.specs.Counted.{Counted, StandsAs}
use Rattle.txn_core.proofs.Steps.{adds_made}
use Rattle.memory_channel.proofs.Whole.{stays}
use Rattle.memory_channel.proofs.channel.MemoryChannelChannel.put.Goals as goal

pub invariant_of-self : goal.invariant_of-self
invariant_of-self c = stays c.self.inside.lists.state (Put c.args.txn.now c.args.event.now c.put.result) c.put.new.self.state c.put.ensures.step.moves c.self.invariant

pub returns-clause-step : goal.returns-clause-step
returns-clause-step c =
    subst (λ (v : Counted). AddsOne (StandsAs v) (StandsAs c.put.new.self) (Put c.args.txn.now c.args.event.now c.put.result) 0) c.self.view_is
    (adds_made c.self.inside.lists (Put c.args.txn.now c.args.event.now c.put.result) c.put.new.self c.put.ensures.step)
