use Rattle.sound_runs.proofs.Soundly.{listeners_are_sound}
use Rattle.sound_runs.proofs.sound.listeners_are_sound.Goals as goal

pub returns : goal.returns
returns g c = listeners_are_sound _ _ g.K.Interceptor.intercepts g.C.Clock.moments _
