use Rattle.channel_laws.proofs.Until.{counted_calls_leave}
use Rattle.channel_laws.proofs.images.close_channel.Goals as goal

pub returns-clause-images : goal.returns-clause-images
returns-clause-images g c =
    let closed = c.close.result in
    let agrees = c.close.ensures.channel in
    counted_calls_leave (g.D.Disk.told closed.channel.0) (g.D.Disk.faults closed.channel.0) closed.channel.1 c.args.pass.view.base closed.pass.view.seen (agrees.0, agrees.1, agrees.2)

pub returns-clause-owners : goal.returns-clause-owners
returns-clause-owners g c = c.close.ensures.left.made.4
