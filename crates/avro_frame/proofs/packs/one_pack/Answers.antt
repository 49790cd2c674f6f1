use Rattle.avro_frame.proofs.Laws.{one_pack_lem}
use Rattle.avro_frame.proofs.packs.one_pack.Goals as goal

pub returns : goal.returns
returns c = one_pack_lem
