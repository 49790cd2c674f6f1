use Rattle.avro_binary.proofs.Blocks.{reads_count}
use Rattle.avro_binary.proofs.items.next_item.Goals as goal

pub returns : goal.returns
returns c = reads_count c.args.left c.args.bytes.now c.args.at c.count_at.result c.if-left-gt0.false c.count_at.ensures
