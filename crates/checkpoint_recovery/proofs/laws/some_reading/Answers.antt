use Rattle.checkpoint_recovery.proofs.SomeReading.{some_reading}
use Rattle.checkpoint_recovery.proofs.laws.some_reading.Goals as goal

pub returns : goal.returns
returns c = some_reading
