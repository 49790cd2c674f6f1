use Rattle.sound_lines.proofs.Lines.{line_is_sound}
use Rattle.sound_lines.proofs.laws.line_is_sound.Goals as goal

pub returns : goal.returns
returns g c = line_is_sound g.K.Interceptor.intercepts
