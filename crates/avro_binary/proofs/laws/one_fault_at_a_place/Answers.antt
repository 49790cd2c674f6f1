use Rattle.avro_binary.proofs.OneFault.{one_int, one_long, one_boolean, one_bytes, one_text, one_fixed, one_meta, one_event, one_batch}
use Rattle.avro_binary.proofs.laws.one_fault_at_a_place.Goals as goal

pub returns-clause-ints : goal.returns-clause-ints
returns-clause-ints c = one_int

pub returns-clause-longs : goal.returns-clause-longs
returns-clause-longs c = one_long

pub returns-clause-booleans : goal.returns-clause-booleans
returns-clause-booleans c = one_boolean

pub returns-clause-bytes : goal.returns-clause-bytes
returns-clause-bytes c = one_bytes

pub returns-clause-texts : goal.returns-clause-texts
returns-clause-texts c = one_text

pub returns-clause-fixed : goal.returns-clause-fixed
returns-clause-fixed c = one_fixed

pub returns-clause-metas : goal.returns-clause-metas
returns-clause-metas c = one_meta

pub returns-clause-events : goal.returns-clause-events
returns-clause-events c = one_event

pub returns-clause-batches : goal.returns-clause-batches
returns-clause-batches c = one_batch
