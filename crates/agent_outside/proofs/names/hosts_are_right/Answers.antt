use Rattle.agent_outside.proofs.Telling.{each_right}
use Rattle.agent_outside.proofs.names.hosts_are_right.Goals as goal

pub returns : goal.returns
returns c = λ own_name own_address source names told. each_right own_name own_address source names told
