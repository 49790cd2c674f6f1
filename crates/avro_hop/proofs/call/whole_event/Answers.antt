use Rattle.avro_binary.specs.Event.{IsEvent, EventFault}
use Rattle.avro_hop.proofs.Whole.{trailing, event_refused}
use Rattle.avro_hop.proofs.call.whole_event.Goals as goal

pub returns-then-end-bytes : goal.returns-then-end-bytes
returns-then-end-bytes c = trailing IsEvent EventFault c.args.bytes.now c.args.at c.in-Ok.end c.in-Ok.event c.in-Ok.ensures.0 c.if-end-bytes.true c.in-Ok.ensures.1

pub returns-in-Err : goal.returns-in-Err
returns-in-Err c = rw c.behind_value.ensures (event_refused c.args.bytes.now c.args.at c.in-Err.e c.in-Err.ensures)
