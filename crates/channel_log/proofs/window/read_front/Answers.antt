use Rattle.std.proofs.Common.{drop}
use Rattle.channel_log.proofs.Keeping.{front_read}
use Rattle.channel_log.proofs.window.read_front.Goals as goal

pub returns-clause-bytes : goal.returns-clause-bytes
returns-clause-bytes g c = λ t is.
    let r = c.in_ok-n.ensures.bytes t is in
    let f = front_read c.args.block.now _ (drop c.args.at r.0) c.args.size c.in_ok-n.n _ c.requires.room r.2 r.3 in
    (r.0, r.1, f.0, f.1)
