use Rattle.std.proofs.Common.{◌∙◌, ap}
use Rattle.flume_host.specs.HostState.{HostState}
use Rattle.sound_runs.proofs.Sounding.{run_sound, run_undisturbed, run_well}
use Rattle.sound_runs.proofs.sound.runs_are_sound.Goals as goal

pub returns-clause-undisturbed : goal.returns-clause-undisturbed
returns-clause-undisturbed g c = λ given objects plan ends channels a b planned did.
    run_undisturbed _ _ _ _ _ _ _ _ _ _ g.H.Disk.Disk.told g.H.Disk.Disk.faults _ _ _ _ _ _ _ _ plan planned _ _ _
    (λ rows prepared old new out is. ap (λ (s : HostState). s.disk_faults) is.opened.opened.out.state ∙ ap (λ (s : HostState). s.disk_faults) is.opened.dials.out.state)
    c.nothing_failed.ensures c.dialogues_are_sound.ensures g.B.EventSink.delivers objects ends channels a b did

pub returns-clause-well : goal.returns-clause-well
returns-clause-well g c = λ given objects plan ends channels a b planned did.
    run_well _ _ _ _ _ _ _ _ _ _ g.H.Disk.Disk.told g.H.Disk.Disk.faults _ _ _ _ _ _ _ _ plan planned _ _ _
    (λ rows prepared old new out is. ap (λ (s : HostState). s.disk_faults) is.opened.opened.out.state ∙ ap (λ (s : HostState). s.disk_faults) is.opened.dials.out.state)
    c.nothing_failed.ensures c.dialogues_are_sound.ensures g.B.EventSink.delivers objects ends channels a b did

pub returns-clause-sound : goal.returns-clause-sound
returns-clause-sound g c = λ given objects plan ends channels a b planned did.
    run_sound _ _ _ _ _ _ _ _ _ _ g.H.Disk.Disk.told g.H.Disk.Disk.faults _ _ _ _ _ _ _ _ plan planned _ _ _
    (λ rows prepared old new out is. ap (λ (s : HostState). s.disk_faults) is.opened.opened.out.state ∙ ap (λ (s : HostState). s.disk_faults) is.opened.dials.out.state)
    c.nothing_failed.ensures c.dialogues_are_sound.ensures g.B.EventSink.delivers objects ends channels a b did
