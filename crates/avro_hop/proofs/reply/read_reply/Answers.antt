use Rattle.avro_hop.specs.Replies.{SpelledFault}
use Rattle.avro_hop.proofs.Greeting.{placed}
use Rattle.avro_hop.proofs.Replying.{reply_trails, reply_whole, reply_refused}
use Rattle.avro_hop.proofs.reply.read_reply.Goals as goal

pub place_of-requires : goal.place_of-requires
place_of-requires c = placed (SpelledFault c.args.first) c.args.bytes.now 0 c.in-Err.e c.in-Err.ensures

pub returns-then-end-bytes : goal.returns-then-end-bytes
returns-then-end-bytes c = reply_trails c.args.first c.args.bytes.now c.in-Ok.end c.in-Ok.status c.in-Ok.ensures.0 c.if-end-bytes.true c.in-Ok.ensures.1

pub returns-else-end-bytes : goal.returns-else-end-bytes
returns-else-end-bytes c = reply_whole c.args.first c.args.bytes.now c.in-Ok.end c.in-Ok.status c.if-end-bytes.false c.in-Ok.ensures.1

pub returns-in-Err : goal.returns-in-Err
returns-in-Err c = reply_refused c.args.first c.args.bytes.now c.place_of.result c.in-Err.e c.in-Err.ensures c.place_of.ensures
