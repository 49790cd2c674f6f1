use Rattle.std.proofs.Common.{subst}
use Rattle.channel_face.specs.Calls.{cause_of}
use Rattle.channel_face.specs.History.{AddsOne}
use Rattle.channel_face.specs.Machine.{StagePut}
use Rattle.txn_core.specs.Counted.{Counted, StandsAs}
use Rattle.txn_core.proofs.Steps.{adds_made}
use Rattle.memory_channel.proofs.Whole.{stays}
use Rattle.memory_channel.proofs.channel.MemoryChannelChannel.stage_put.Goals as goal

pub invariant_of-self : goal.invariant_of-self
invariant_of-self c = stays c.self.inside.lists.state (StagePut c.args.txn (cause_of c.stage_put.result)) c.stage_put.new.self.state c.stage_put.ensures.step.moves c.self.invariant

pub returns-clause-step : goal.returns-clause-step
returns-clause-step c =
    subst (λ (v : Counted). AddsOne (StandsAs v) (StandsAs c.stage_put.new.self) (StagePut c.args.txn (cause_of c.stage_put.result)) 0) c.self.view_is
    (adds_made c.self.inside.lists (StagePut c.args.txn (cause_of c.stage_put.result)) c.stage_put.new.self c.stage_put.ensures.step)
