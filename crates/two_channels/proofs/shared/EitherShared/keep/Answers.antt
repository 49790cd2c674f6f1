use Rattle.channel_face.specs.Keeps.{is_spent_check, is_spent_prune}
use Rattle.channel_face.specs.Machine.{Checkpoint, Prune}
use Rattle.shared_channel.specs.Ports.{later_none, later_then}
use Rattle.two_channels.proofs.Passes.{answered_later}
use Rattle.two_channels.proofs.shared.EitherShared.keep.Goals as goal

pub returns-in-Disk-clause-kept : goal.returns-in-Disk-clause-kept
returns-in-Disk-clause-kept g c =
    let check = c.checkpoint-checked in
    let prune = c.prune-pruned in
    let stands = g.A.Channel.stands in
    let tells = g.A.Channel.tells in
    let moment = g.A.Channel.moment in
    later_then c.args.pass.now check.new.pass prune.new.pass
    (answered_later stands tells moment (is_spent_check check.result) (Checkpoint check.result) c.args.pass.now check.new.pass check.ensures.same check.ensures.call)
    (answered_later stands tells moment (is_spent_prune prune.result) (Prune prune.result) check.new.pass prune.new.pass prune.ensures.same prune.ensures.call)

pub returns-in-Memory-clause-kept : goal.returns-in-Memory-clause-kept
returns-in-Memory-clause-kept g c = later_none c.args.pass.now
