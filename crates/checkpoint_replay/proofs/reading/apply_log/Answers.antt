use Rattle.channel_replay.proofs.Replaying.{err_log_maps, ok_maps}
use Rattle.channel_replay.specs.Recover.{lines}
use Rattle.ring_replay.specs.Indexing.{GoesThrough}
use Rattle.ring_replay.specs.Folder.{StopsIn}
use Rattle.checkpoint_replay.specs.Reading.{WhereBehind, WhereLines}
use Rattle.checkpoint_replay.proofs.Places.{all_few, all_go, behind_bad, in_log, own_bad, own_few}
use Rattle.checkpoint_replay.proofs.reading.apply_log.Goals as goal

pub apply_file-requires : goal.apply_file-requires
apply_file-requires g c = record { there = in_log _ c.args.place c.requires.place; kept = c.requires.kept }

pub returns-in-Ok-clause-ok : goal.returns-in-Ok-clause-ok
returns-in-Ok-clause-ok g c =
    ok_maps c.apply_behind.result (WhereBehind (g.D.Disk.told c.apply_file.new.disk) c.args.place.file (λ logs. GoesThrough (lines logs) c.apply_file.new.index c.apply_behind.new.index)) _
    (λ rest. all_go _ c.args.place c.args.index.now c.apply_file.new.index c.apply_behind.new.index c.in-Ok.ensures.ok (rw c.in-Ok.ensures.same at rest)) c.apply_behind.ensures.ok

pub returns-in-Ok-clause-bad : goal.returns-in-Ok-clause-bad
returns-in-Ok-clause-bad g c =
    err_log_maps c.apply_behind.result (λ f a. WhereBehind (g.D.Disk.told c.apply_file.new.disk) c.args.place.file (λ logs. StopsIn (lines logs) c.apply_file.new.index f a))
    (λ f a. WhereLines (g.D.Disk.told c.args.disk.now) c.args.place (λ found. StopsIn found c.args.index.now f a))
    (λ f a stops. behind_bad _ c.args.place c.args.index.now c.apply_file.new.index f a c.in-Ok.ensures.ok (rw c.in-Ok.ensures.same at stops)) c.apply_behind.ensures.bad

pub returns-in-Ok-clause-ticks : goal.returns-in-Ok-clause-ticks
returns-in-Ok-clause-ticks g c = all_few _ c.args.place c.args.steps.now c.apply_file.new.steps c.apply_behind.new.steps c.in-Ok.ensures.ticks (rw c.in-Ok.ensures.same at c.apply_behind.ensures.ticks)

pub returns-in-Err-clause-bad : goal.returns-in-Err-clause-bad
returns-in-Err-clause-bad g c = own_bad _ c.args.place c.args.index.now c.in-Err.refused c.in-Err.ensures.bad

pub returns-in-Err-clause-ticks : goal.returns-in-Err-clause-ticks
returns-in-Err-clause-ticks g c = own_few _ c.args.place c.args.steps.now c.apply_file.new.steps c.in-Err.ensures.ticks
