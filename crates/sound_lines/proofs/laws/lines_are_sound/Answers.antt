use Rattle.sound_lines.proofs.Lines.{lines_are_sound}
use Rattle.sound_lines.proofs.laws.lines_are_sound.Goals as goal

pub returns : goal.returns
returns g c = lines_are_sound g.K.Interceptor.intercepts
