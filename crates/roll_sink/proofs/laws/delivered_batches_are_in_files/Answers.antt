use Rattle.roll_sink.proofs.Filling.{runs_fill}
use Rattle.roll_sink.proofs.laws.delivered_batches_are_in_files.Goals as goal

pub returns : goal.returns
returns c = runs_fill
