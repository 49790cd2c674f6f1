use Rattle.sink_groups.proofs.Taken.{deliveries}
use Rattle.sink_groups.proofs.laws.each_batch_is_taken_once.Goals as goal

pub returns : goal.returns
returns c = λ start. deliveries c.S.EventSink.delivers
