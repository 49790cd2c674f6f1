use Rattle.std.proofs.Common.{refl}
use Rattle.shared_channel.proofs.Sparing.{take_stage_spares}
use Rattle.shared_channel.proofs.shared.OfTakesKindOfTxn.stage.Goals as goal

pub returns-clause-counts : goal.returns-clause-counts
returns-clause-counts g c = (refl, λ tells s may. take_stage_spares tells s _ _ may)
