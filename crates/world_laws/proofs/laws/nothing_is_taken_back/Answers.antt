use Rattle.world_laws.proofs.Lasting.{run_goes_on}
use Rattle.world_laws.proofs.laws.nothing_is_taken_back.Goals as goal

pub returns : goal.returns
returns c = run_goes_on
