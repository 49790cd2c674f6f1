use Rattle.sink_groups.proofs.Taken.{sink_deliveries}
use Rattle.sink_groups.proofs.laws.each_batch_of_a_sink_is_taken_once.Goals as goal

pub returns : goal.returns
returns g c = sink_deliveries g.S.EventSink.delivers
