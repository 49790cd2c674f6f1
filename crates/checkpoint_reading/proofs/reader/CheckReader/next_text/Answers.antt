use Rattle.std.proofs.Common.{◌∙◌}
use Rattle.checkpoint_reading.proofs.Taking.{text_took}
use Rattle.checkpoint_reading.proofs.reader.CheckReader.next_text.Goals as goal

pub returns-clause-held : goal.returns-clause-held
returns-clause-held g c = (text_took _ c.args.self.now c.has.new.self c.take_text.new.self c.args.text.now c.take_text.result c.in_ok-has.ensures.held c.has.ensures.file c.has.ensures.place (c.in_ok-has.ensures.enough c.if-not-branch.false) c.told-text c.take_text.ensures.taken c.take_text.ensures.other).0

pub returns-clause-taken : goal.returns-clause-taken
returns-clause-taken g c = λ yes t is. (text_took _ c.args.self.now c.has.new.self c.take_text.new.self c.args.text.now c.take_text.result c.in_ok-has.ensures.held c.has.ensures.file c.has.ensures.place (c.in_ok-has.ensures.enough c.if-not-branch.false) c.told-text c.take_text.ensures.taken c.take_text.ensures.other).1 yes t (c.has.ensures.same ∙ is)

pub returns-clause-other : goal.returns-clause-other
returns-clause-other g c = λ no t is. (text_took _ c.args.self.now c.has.new.self c.take_text.new.self c.args.text.now c.take_text.result c.in_ok-has.ensures.held c.has.ensures.file c.has.ensures.place (c.in_ok-has.ensures.enough c.if-not-branch.false) c.told-text c.take_text.ensures.taken c.take_text.ensures.other).2 no t (c.has.ensures.same ∙ is)
