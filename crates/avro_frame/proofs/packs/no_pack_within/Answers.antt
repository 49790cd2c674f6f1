use Rattle.avro_frame.proofs.Laws.{no_part, no_count, no_size}
use Rattle.avro_frame.proofs.packs.no_pack_within.Goals as goal

pub returns-clause-part : goal.returns-clause-part
returns-clause-part c = no_part

pub returns-clause-large : goal.returns-clause-large
returns-clause-large c a x m n p i = (no_count a x m n p i, no_size a x m n p i)
