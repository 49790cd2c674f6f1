use Rattle.std.proofs.Common.{refl}
use Rattle.shared_channel.proofs.Sparing.{begin_put_spares}
use Rattle.shared_channel.proofs.shared.OfPutsKindOfTxn.begin.Goals as goal

pub returns-clause-counts : goal.returns-clause-counts
returns-clause-counts g c = (refl, λ tells s may. begin_put_spares tells s _ may)
