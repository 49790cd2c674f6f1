use Rattle.channel_face.specs.Machine.{base_of}
use Rattle.channel_face.specs.History.{opening, state_after}
use Rattle.channel_face.proofs.Numbers.{base_rising}
use Rattle.channel_face.proofs.Sound.{sound_run}
use Rattle.channel_face.proofs.LawLemmas.{sound_opening}
use Rattle.channel_face.proofs.laws.numbers_rise.Goals as goal

pub returns : goal.returns
returns c tells o h is run = base_rising (base_of (state_after (opening o) h)) (sound_run tells (opening o) h (sound_opening o is) run).rising
