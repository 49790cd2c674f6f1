use Rattle.std.proofs.Common.{rules, ap}
use Rattle.channel_face.specs.Machine.{State}
use Rattle.hop_core.proofs.channel.NodeChannel.new.Goals as goal

pub invariant_of-result : goal.invariant_of-result
invariant_of-result c = ap (λ (s : State). s.rules.kind) (c.in_ok-new.ensures.state 0 0)

pub returns : goal.returns
returns c = let start = c.in_ok-new.ensures.state 0 0 in search rules
