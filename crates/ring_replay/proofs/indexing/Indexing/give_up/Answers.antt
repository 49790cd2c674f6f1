use Rattle.ring_replay.proofs.Ending.{gives_up_puts, takes_live}
use Rattle.ring_replay.proofs.indexing.Indexing.give_up.Goals as goal

pub free_all-requires : goal.free_all-requires
free_all-requires c = rw c.deref.ensures.value (takes_live c.args.self.now c.args.txn c.in-Takes.numbers.items c.requires.kept c.in-Takes.ensures.ended).0

pub returns-in_default : goal.returns-in_default
returns-in_default c = gives_up_puts c.args.self.now c.args.txn c.in_default.field-0.items c.end.new.self c.in_default.ensures.ended c.end.ensures.rest c.end.ensures.count
