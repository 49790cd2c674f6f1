use Rattle.std.proofs.Common.{refl}
use Rattle.checkpoint_reading.proofs.Taking.{piece_taken, text_front, text_other}
use Rattle.checkpoint_reading.proofs.reader.CheckReader.take_text.Goals as goal

pub returns-clause-taken : goal.returns-clause-taken
returns-clause-taken c = piece_taken c.args.self.now _ _ _ _ _ 8 _ _ _ c.self.view_is c.self.invariant.whole c.self.invariant.some c.self.invariant.before c.deref.ensures.value c.requires c.told-text (text_front _ _ (c.begins.ensures.0 c.if-not-begins.false))

pub returns-then-not-begins-clause-other : goal.returns-then-not-begins-clause-other
returns-then-not-begins-clause-other c = λ no. (text_other c.args.self.now _ _ _ _ _ _ _ _ c.begins.result c.self.view_is c.deref.ensures.value c.begins.ensures c.if-not-begins.true, refl)
