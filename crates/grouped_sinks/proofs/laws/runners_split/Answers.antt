use Rattle.grouped_sinks.proofs.Splitting.{runner_split}
use Rattle.grouped_sinks.proofs.laws.runners_split.Goals as goal

pub returns : goal.returns
returns g c = runner_split g.S.EventSink.delivers g.N.Random.draws
