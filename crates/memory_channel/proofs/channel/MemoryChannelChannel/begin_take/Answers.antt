use Rattle.std.proofs.Common.{subst}
use Rattle.channel_face.specs.History.{AddsOne}
use Rattle.channel_face.specs.Machine.{BeginTake}
use Rattle.txn_core.specs.Counted.{Counted, StandsAs}
use Rattle.txn_core.proofs.Steps.{adds_made}
use Rattle.memory_channel.proofs.Whole.{stays}
use Rattle.memory_channel.proofs.channel.MemoryChannelChannel.begin_take.Goals as goal

pub invariant_of-self : goal.invariant_of-self
invariant_of-self c = stays c.self.inside.lists.state (BeginTake c.begin_take.result) c.begin_take.new.self.state c.begin_take.ensures.moves c.self.invariant

pub returns-clause-step : goal.returns-clause-step
returns-clause-step c =
    subst (λ (v : Counted). AddsOne (StandsAs v) (StandsAs c.begin_take.new.self) (BeginTake c.begin_take.result) 0) c.self.view_is
    (adds_made c.self.inside.lists (BeginTake c.begin_take.result) c.begin_take.new.self c.begin_take.ensures)
