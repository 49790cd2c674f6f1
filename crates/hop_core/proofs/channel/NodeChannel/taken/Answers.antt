use Rattle.std.proofs.Common.{rules}
use Rattle.hop_core.proofs.Machines.{take_rules}
use Rattle.hop_core.proofs.channel.NodeChannel.taken.Goals as goal

pub with-requires : goal.with-requires
with-requires c =
    let kept = take_rules _ _ _ _ c.in-Ok.ensures.step.makes.moves in
    let copied = c.in_ok-machine.ensures in
    search rules
