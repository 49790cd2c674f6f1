use Rattle.std.proofs.Common.{subst}
use Rattle.channel_face.specs.History.{AddsOne}
use Rattle.channel_face.specs.Machine.{BeginPut}
use Rattle.txn_core.specs.Counted.{Counted, StandsAs}
use Rattle.txn_core.proofs.Steps.{adds_made}
use Rattle.memory_channel.proofs.Whole.{stays}
use Rattle.memory_channel.proofs.channel.MemoryChannelChannel.begin_put.Goals as goal

pub invariant_of-self : goal.invariant_of-self
invariant_of-self c = stays c.self.inside.lists.state (BeginPut c.begin_put.result) c.begin_put.new.self.state c.begin_put.ensures.moves c.self.invariant

pub returns-clause-step : goal.returns-clause-step
returns-clause-step c =
    subst (λ (v : Counted). AddsOne (StandsAs v) (StandsAs c.begin_put.new.self) (BeginPut c.begin_put.result) 0) c.self.view_is
    (adds_made c.self.inside.lists (BeginPut c.begin_put.result) c.begin_put.new.self c.begin_put.ensures)
