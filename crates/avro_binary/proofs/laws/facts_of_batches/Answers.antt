use Rattle.avro_binary.proofs.Collect.{none_large, small_events}
use Rattle.avro_binary.proofs.Shortest.{batch_bytes}
use Rattle.avro_binary.proofs.laws.facts_of_batches.Goals as goal

pub returns-clause-take_bytes : goal.returns-clause-take_bytes
returns-clause-take_bytes c = λ bytes events i. batch_bytes 0 bytes events i

pub returns-clause-none_large : goal.returns-clause-none_large
returns-clause-none_large c = λ events. (none_large events, small_events events)
