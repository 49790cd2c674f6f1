use Rattle.sound_lines.proofs.Linked.{links_are_sound}
use Rattle.sound_lines.proofs.laws.links_are_sound.Goals as goal

pub returns : goal.returns
returns g c = links_are_sound g.K.Interceptor.intercepts
