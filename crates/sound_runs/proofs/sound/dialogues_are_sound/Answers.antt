use Rattle.sound_runs.proofs.Soundly.{dialogues_are_sound}
use Rattle.sound_runs.proofs.sound.dialogues_are_sound.Goals as goal

pub returns : goal.returns
returns g c = dialogues_are_sound _ _ _ _ g.K.Interceptor.intercepts g.C.Clock.moments c.lines_are_sound.ensures
