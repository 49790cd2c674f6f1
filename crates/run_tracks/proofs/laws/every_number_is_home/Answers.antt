use Rattle.run_tracks.proofs.Telling.{number_home}
use Rattle.run_tracks.proofs.laws.every_number_is_home.Goals as goal

pub returns : goal.returns
returns c = number_home
