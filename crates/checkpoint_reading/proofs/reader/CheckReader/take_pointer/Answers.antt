use Rattle.checkpoint_reading.proofs.Taking.{taken_more}
use Rattle.checkpoint_reading.proofs.reader.CheckReader.take_pointer.Goals as goal

pub returns-clause-taken : goal.returns-clause-taken
returns-clause-taken c = taken_more _ _ _ _ _ c.take_u32-file.ensures.taken (taken_more _ _ _ _ _ c.take_u64-at.ensures.taken c.take_u32-length.ensures.taken)
