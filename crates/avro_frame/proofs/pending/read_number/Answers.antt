use Rattle.avro_frame.proofs.Walk.{ends}
use Rattle.avro_frame.proofs.pending.read_number.Goals as goal

pub returns-in-End : goal.returns-in-End
returns-in-End c = ends c.args.held.now c.args.cursor.now.need c.args.cursor.now.sum (rw c.in-End.is at c.requires.here) c.requires.due
