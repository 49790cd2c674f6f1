use Rattle.checkpoint_recovery.proofs.Readings.{one_reading}
use Rattle.checkpoint_recovery.proofs.laws.one_reading.Goals as goal

pub returns : goal.returns
returns c = one_reading
