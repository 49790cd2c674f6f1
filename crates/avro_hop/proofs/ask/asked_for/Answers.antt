use Rattle.avro_hop.proofs.Asking.{is_asked_for}
use Rattle.avro_hop.proofs.ask.asked_for.Goals as goal

pub returns : goal.returns
returns c = is_asked_for
