use Rattle.avro_binary.proofs.Shortest.{shortest_int, shortest_long, shortest_boolean, shortest_bytes, shortest_text, shortest_fixed, shortest_event, shortest_batch}
use Rattle.avro_binary.proofs.laws.shortest_is_written.Goals as goal

pub returns-clause-ints : goal.returns-clause-ints
returns-clause-ints c = shortest_int

pub returns-clause-longs : goal.returns-clause-longs
returns-clause-longs c = shortest_long

pub returns-clause-booleans : goal.returns-clause-booleans
returns-clause-booleans c = shortest_boolean

pub returns-clause-bytes : goal.returns-clause-bytes
returns-clause-bytes c = shortest_bytes

pub returns-clause-texts : goal.returns-clause-texts
returns-clause-texts c = shortest_text

pub returns-clause-fixed : goal.returns-clause-fixed
returns-clause-fixed c = shortest_fixed

pub returns-clause-events : goal.returns-clause-events
returns-clause-events c = shortest_event

pub returns-clause-batches : goal.returns-clause-batches
returns-clause-batches c = shortest_batch
