use Rattle.netcat_source.proofs.OneCut as cuts
use Rattle.netcat_source.proofs.laws.one_cut.Goals as goal

pub returns : goal.returns
returns c = cuts.one_cut
