use Rattle.avro_hop.proofs.OneReading.{one_request, no_request_fault, one_call_lem, no_call_fault}
use Rattle.avro_hop.proofs.laws.one_reading.Goals as goal

pub returns-clause-requests : goal.returns-clause-requests
returns-clause-requests c = one_request

pub returns-clause-no_request_fault : goal.returns-clause-no_request_fault
returns-clause-no_request_fault c = no_request_fault

pub returns-clause-calls : goal.returns-clause-calls
returns-clause-calls c = one_call_lem

pub returns-clause-no_call_fault : goal.returns-clause-no_call_fault
returns-clause-no_call_fault c = no_call_fault
