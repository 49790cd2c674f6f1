use Rattle.std.proofs.Common.{◌∙◌}
use Rattle.checkpoint_reading.proofs.Taking.{next_took}
use Rattle.checkpoint_reading.proofs.reader.CheckReader.next_pointer.Goals as goal

pub returns-clause-held : goal.returns-clause-held
returns-clause-held g c = (next_took _ c.args.self.now c.has.new.self c.take_pointer-pointer.new.self _ c.in_ok-has.ensures.held c.has.ensures.file c.has.ensures.place c.take_pointer-pointer.ensures.taken).1

pub returns-clause-taken : goal.returns-clause-taken
returns-clause-taken g c = λ t is. (next_took _ c.args.self.now c.has.new.self c.take_pointer-pointer.new.self _ c.in_ok-has.ensures.held c.has.ensures.file c.has.ensures.place c.take_pointer-pointer.ensures.taken).0 t (c.has.ensures.same ∙ is)
