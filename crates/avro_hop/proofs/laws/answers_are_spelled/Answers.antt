use Rattle.avro_hop.proofs.Responses.{greetings_are_spelled, responses_are_spelled, unknown_is_spelled, one_greeting, one_response}
use Rattle.avro_hop.proofs.laws.answers_are_spelled.Goals as goal

pub returns-clause-greetings : goal.returns-clause-greetings
returns-clause-greetings c = greetings_are_spelled

pub returns-clause-responses : goal.returns-clause-responses
returns-clause-responses c = responses_are_spelled

pub returns-clause-unknown : goal.returns-clause-unknown
returns-clause-unknown c = unknown_is_spelled

pub returns-clause-one_greeting : goal.returns-clause-one_greeting
returns-clause-one_greeting c = one_greeting

pub returns-clause-one_response : goal.returns-clause-one_response
returns-clause-one_response c = one_response
