use Rattle.checkpoint_recovery.proofs.Readings.{reads_on}
use Rattle.checkpoint_recovery.proofs.laws.a_folder_reads_on.Goals as goal

pub returns : goal.returns
returns c = reads_on
