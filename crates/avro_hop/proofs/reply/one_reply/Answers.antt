use Rattle.avro_hop.proofs.OneReply.{one_reply_lem, replies_are_read}
use Rattle.avro_hop.proofs.reply.one_reply.Goals as goal

pub returns-clause-one : goal.returns-clause-one
returns-clause-one c = one_reply_lem

pub returns-clause-own : goal.returns-clause-own
returns-clause-own c = replies_are_read
