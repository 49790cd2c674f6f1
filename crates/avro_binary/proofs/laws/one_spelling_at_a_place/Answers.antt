use Rattle.avro_binary.proofs.PrefixFree.{same_int, same_long, same_boolean, same_bytes, same_text, same_fixed, same_meta, same_event, same_batch}
use Rattle.avro_binary.proofs.laws.one_spelling_at_a_place.Goals as goal

pub returns-clause-ints : goal.returns-clause-ints
returns-clause-ints c = same_int

pub returns-clause-longs : goal.returns-clause-longs
returns-clause-longs c = same_long

pub returns-clause-booleans : goal.returns-clause-booleans
returns-clause-booleans c = same_boolean

pub returns-clause-bytes : goal.returns-clause-bytes
returns-clause-bytes c = same_bytes

pub returns-clause-texts : goal.returns-clause-texts
returns-clause-texts c = same_text

pub returns-clause-fixed : goal.returns-clause-fixed
returns-clause-fixed c = same_fixed

pub returns-clause-metas : goal.returns-clause-metas
returns-clause-metas c = same_meta

pub returns-clause-events : goal.returns-clause-events
returns-clause-events c = same_event

pub returns-clause-batches : goal.returns-clause-batches
returns-clause-batches c = same_batch
