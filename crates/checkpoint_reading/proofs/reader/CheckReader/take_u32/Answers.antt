use Rattle.event_core.proofs.Sizes.{length-u32_bytes}
use Rattle.checkpoint_reading.proofs.Taking.{piece_taken, taken_length}
use Rattle.checkpoint_reading.proofs.reader.CheckReader.take_u32.Goals as goal

pub returns-clause-taken : goal.returns-clause-taken
returns-clause-taken c = piece_taken c.args.self.now _ _ _ _ _ 4 _ _ _ c.self.view_is c.self.invariant.whole c.self.invariant.some c.self.invariant.before c.deref.ensures.value c.requires (length-u32_bytes c.u32_in-number.result) c.u32_in-number.ensures

pub returns-clause-len : goal.returns-clause-len
returns-clause-len c = taken_length c.args.self.now _ _ 4 (piece_taken c.args.self.now _ _ _ _ _ 4 _ _ _ c.self.view_is c.self.invariant.whole c.self.invariant.some c.self.invariant.before c.deref.ensures.value c.requires (length-u32_bytes c.u32_in-number.result) c.u32_in-number.ensures) (length-u32_bytes c.u32_in-number.result)
