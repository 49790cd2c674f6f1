use Rattle.std.proofs.Common.{subst}
use Rattle.channel_face.specs.History.{AddsOne}
use Rattle.channel_face.specs.Machine.{Flush}
use Rattle.txn_core.specs.Counted.{Counted, StandsAs}
use Rattle.txn_core.proofs.Steps.{adds_made}
use Rattle.memory_channel.proofs.Whole.{stays}
use Rattle.memory_channel.proofs.channel.MemoryChannelChannel.flush.Goals as goal

pub invariant_of-self : goal.invariant_of-self
invariant_of-self c = stays c.self.inside.lists.state (Flush c.flush.result) c.flush.new.self.state c.flush.ensures.step.moves c.self.invariant

pub returns-clause-step : goal.returns-clause-step
returns-clause-step c =
    subst (λ (v : Counted). AddsOne (StandsAs v) (StandsAs c.flush.new.self) (Flush c.flush.result) 0) c.self.view_is
    (adds_made c.self.inside.lists (Flush c.flush.result) c.flush.new.self c.flush.ensures.step)
