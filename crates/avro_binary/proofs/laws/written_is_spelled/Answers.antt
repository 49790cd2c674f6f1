use Rattle.avro_binary.proofs.Spelled.{ints_spelled, longs_spelled, booleans_spelled, bytes_spelled, texts_spelled, events_spelled, batches_spelled}
use Rattle.avro_binary.proofs.laws.written_is_spelled.Goals as goal

pub returns-clause-ints : goal.returns-clause-ints
returns-clause-ints c = ints_spelled

pub returns-clause-longs : goal.returns-clause-longs
returns-clause-longs c = longs_spelled

pub returns-clause-booleans : goal.returns-clause-booleans
returns-clause-booleans c = booleans_spelled

pub returns-clause-bytes : goal.returns-clause-bytes
returns-clause-bytes c = bytes_spelled

pub returns-clause-texts : goal.returns-clause-texts
returns-clause-texts c = texts_spelled

pub returns-clause-events : goal.returns-clause-events
returns-clause-events c = events_spelled

pub returns-clause-batches : goal.returns-clause-batches
returns-clause-batches c = batches_spelled
