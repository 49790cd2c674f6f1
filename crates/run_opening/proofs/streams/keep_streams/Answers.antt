use Rattle.run_opening.proofs.Streaming.{drains_rest, kept_then, talks_rest}
use Rattle.run_opening.proofs.streams.keep_streams.Goals as goal

pub returns-clause-rest : goal.returns-clause-rest
returns-clause-rest g c =
    let old = g.H.Host.state c.args.host.now in
    let mid = g.H.Host.state c.keep_drains.new.host in
    let new = g.H.Host.state c.keep_talks.new.host in
    let left = g.H.Source.Source.left in
    let read_faults = g.H.Source.Source.faults in
    kept_then old mid new (drains_rest left read_faults c.args.drains.items old mid c.keep_drains.ensures.kept)
    (talks_rest left read_faults g.H.Sink.Sink.took g.H.Sink.Sink.handed g.H.Sink.Sink.faults c.args.lines.items mid new c.keep_talks.ensures.kept)
