use Rattle.avro_binary.specs.Event.{IsBatch, BatchFault}
use Rattle.avro_hop.proofs.Whole.{trailing, batch_refused}
use Rattle.avro_hop.proofs.call.whole_batch.Goals as goal

pub returns-then-end-bytes : goal.returns-then-end-bytes
returns-then-end-bytes c = trailing IsBatch BatchFault c.args.bytes.now c.args.at c.in-Ok.end c.in-Ok.batch c.in-Ok.ensures.0 c.if-end-bytes.true c.in-Ok.ensures.1

pub returns-in-Err : goal.returns-in-Err
returns-in-Err c = rw c.behind_value.ensures (batch_refused c.args.bytes.now c.args.at c.in-Err.e c.in-Err.ensures)
