use Rattle.channel_face.specs.History.{opening}
use Rattle.channel_face.proofs.LawLemmas.{sound_opening, commits_formed}
use Rattle.channel_face.proofs.laws.commits_are_well_formed.Goals as goal

pub returns : goal.returns
returns c tells o h is run none = commits_formed tells (opening o) h (sound_opening o is) run none
