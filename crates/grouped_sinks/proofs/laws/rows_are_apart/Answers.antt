use Rattle.grouped_sinks.proofs.Placing.{rows_apart}
use Rattle.grouped_sinks.proofs.laws.rows_are_apart.Goals as goal

pub returns : goal.returns
returns c = rows_apart
