use Rattle.avro_hop.proofs.OneAnswer.{one_answer_lem}
use Rattle.avro_hop.proofs.laws.one_answer.Goals as goal

pub returns : goal.returns
returns c = one_answer_lem
