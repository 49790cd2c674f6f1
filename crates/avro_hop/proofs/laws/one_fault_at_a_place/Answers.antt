use Rattle.avro_hop.proofs.OneFault.{one_request_fault, one_call_fault, one_match}
use Rattle.avro_hop.proofs.laws.one_fault_at_a_place.Goals as goal

pub returns-clause-requests : goal.returns-clause-requests
returns-clause-requests c = one_request_fault

pub returns-clause-calls : goal.returns-clause-calls
returns-clause-calls c = one_call_fault

pub returns-clause-matches : goal.returns-clause-matches
returns-clause-matches c = one_match
