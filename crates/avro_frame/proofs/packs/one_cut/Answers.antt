use Rattle.avro_frame.proofs.Stream.{feeding_cuts, one_cut_lem, written_is_pack}
use Rattle.avro_frame.proofs.packs.one_cut.Goals as goal

pub returns-clause-pieces : goal.returns-clause-pieces
returns-clause-pieces c = feeding_cuts

pub returns-clause-one : goal.returns-clause-one
returns-clause-one c = one_cut_lem

pub returns-clause-written : goal.returns-clause-written
returns-clause-written c = written_is_pack
