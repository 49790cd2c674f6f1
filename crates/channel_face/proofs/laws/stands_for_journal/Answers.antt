use Rattle.channel_face.specs.History.{opening}
use Rattle.channel_face.proofs.LawLemmas.{sound_opening, stands_for}
use Rattle.channel_face.proofs.laws.stands_for_journal.Goals as goal

pub returns : goal.returns
returns c tells o h is run none = stands_for tells (opening o) h (sound_opening o is) run none
