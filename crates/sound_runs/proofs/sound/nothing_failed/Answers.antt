use Rattle.sound_runs.proofs.Undisturbed.{nothing_failed}
use Rattle.sound_runs.proofs.sound.nothing_failed.Goals as goal

pub returns : goal.returns
returns g c = nothing_failed _ g.K.Interceptor.intercepts g.C.Clock.moments _ _ g.D.Disk.told g.D.Disk.faults _ _ _ _ _ _
