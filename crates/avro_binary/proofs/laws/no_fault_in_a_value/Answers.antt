use Rattle.avro_binary.proofs.NoFault.{int_whole, long_whole, boolean_whole, bytes_whole, text_whole, fixed_whole, meta_whole, event_whole, batch_whole}
use Rattle.avro_binary.proofs.laws.no_fault_in_a_value.Goals as goal

pub returns-clause-ints : goal.returns-clause-ints
returns-clause-ints c = int_whole

pub returns-clause-longs : goal.returns-clause-longs
returns-clause-longs c = long_whole

pub returns-clause-booleans : goal.returns-clause-booleans
returns-clause-booleans c = boolean_whole

pub returns-clause-bytes : goal.returns-clause-bytes
returns-clause-bytes c = bytes_whole

pub returns-clause-texts : goal.returns-clause-texts
returns-clause-texts c = text_whole

pub returns-clause-fixed : goal.returns-clause-fixed
returns-clause-fixed c = fixed_whole

pub returns-clause-metas : goal.returns-clause-metas
returns-clause-metas c = meta_whole

pub returns-clause-events : goal.returns-clause-events
returns-clause-events c = event_whole

pub returns-clause-batches : goal.returns-clause-batches
returns-clause-batches c = batch_whole
