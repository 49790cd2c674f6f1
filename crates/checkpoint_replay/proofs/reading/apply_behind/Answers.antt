use Rattle.std.proofs.Common.{◌∙◌, refl}
use Rattle.channel_replay.proofs.Folders.{no_log, no_name}
use Rattle.checkpoint_replay.proofs.Folders.{folders_all, folders_bad, folders_few, folders_more, folders_none, folders_ticks}
use Rattle.checkpoint_replay.proofs.reading.apply_behind.Goals as goal

pub loop-next-init : goal.loop-next-init
loop-next-init g c = folders_none _ _ c.args.file c.args.index.now c.args.steps.now c.requires

pub loop-next-preserved : goal.loop-next-preserved
loop-next-preserved g c =
    folders_more _ _ _ _ _ _ c.args.file c.loop-next.after c.in-Ok-Some-Log.next c.args.index.now c.loop-next.index c.apply_file.new.index c.args.steps.now c.loop-next.steps c.apply_file.new.steps c.loop-next.invariant
    (rw (c.in-Ok-Some-Log.field-0-is, c.in-Ok-Some-Log.field-0-0-is) at c.in-Ok-Some-Log.ensures.next) c.in-Ok.ensures.number (rw c.in-Ok-Some-Log.ensures.same at c.in-Ok.ensures.ok) (rw c.in-Ok-Some-Log.ensures.same at c.in-Ok.ensures.ticks)
    (c.in-Ok.ensures.same ∙ c.in-Ok-Some-Log.ensures.same) (c.in-Ok.ensures.well (λ no. cc) ∙ c.in-Ok-Some-Log.ensures.cause.well) c.in-Ok.ensures.kept

pub returns-in-Err-apply_file-clause-bad : goal.returns-in-Err-apply_file-clause-bad
returns-in-Err-apply_file-clause-bad g c =
    folders_bad _ _ _ _ c.args.file c.loop-next.after c.in-Ok-Some-Log.next c.args.index.now c.loop-next.index c.args.steps.now c.loop-next.steps c.in-Err-apply_file.refused c.loop-next.invariant
    (rw (c.in-Ok-Some-Log.field-0-is, c.in-Ok-Some-Log.field-0-0-is) at c.in-Ok-Some-Log.ensures.next) c.in-Err-apply_file.ensures.number (rw c.in-Ok-Some-Log.ensures.same at c.in-Err-apply_file.ensures.bad)

pub returns-in-Err-apply_file-clause-ticks : goal.returns-in-Err-apply_file-clause-ticks
returns-in-Err-apply_file-clause-ticks g c =
    folders_few _ _ _ _ c.args.file c.loop-next.after c.in-Ok-Some-Log.next c.args.index.now c.loop-next.index c.args.steps.now c.loop-next.steps c.apply_file.new.steps c.loop-next.invariant
    (rw (c.in-Ok-Some-Log.field-0-is, c.in-Ok-Some-Log.field-0-0-is) at c.in-Ok-Some-Log.ensures.next) c.in-Err-apply_file.ensures.number (rw c.in-Ok-Some-Log.ensures.same at c.in-Err-apply_file.ensures.ticks)

pub returns-in-Ok-Some-Check-clause-ok : goal.returns-in-Ok-Some-Check-clause-ok
returns-in-Ok-Some-Check-clause-ok g c =
    let next = rw (c.in-Ok-Some-Check.field-0-is, c.in-Ok-Some-Check.field-0-0-is) at c.in-Ok-Some-Check.ensures.next in
    folders_all _ _ _ _ c.args.file c.loop-next.after c.args.index.now c.loop-next.index c.args.steps.now c.loop-next.steps c.loop-next.invariant (λ t is. no_log t.reads c.loop-next.after _ (next t is))

pub returns-in-Ok-Some-Check-clause-ticks : goal.returns-in-Ok-Some-Check-clause-ticks
returns-in-Ok-Some-Check-clause-ticks g c = folders_ticks _ _ _ _ _ _ c.args.index.now c.loop-next.index c.args.steps.now c.loop-next.steps c.loop-next.steps c.loop-next.invariant refl

pub returns-in-Ok-None-clause-ok : goal.returns-in-Ok-None-clause-ok
returns-in-Ok-None-clause-ok g c =
    let next = rw c.in-Ok-None.field-0-is at c.in-Ok-None.ensures.next in
    folders_all _ _ _ _ c.args.file c.loop-next.after c.args.index.now c.loop-next.index c.args.steps.now c.loop-next.steps c.loop-next.invariant (λ t is. no_name t.reads c.loop-next.after (next t is))

pub returns-in-Ok-None-clause-ticks : goal.returns-in-Ok-None-clause-ticks
returns-in-Ok-None-clause-ticks g c = folders_ticks _ _ _ _ _ _ c.args.index.now c.loop-next.index c.args.steps.now c.loop-next.steps c.loop-next.steps c.loop-next.invariant refl

pub returns-in-Err-clause-ticks : goal.returns-in-Err-clause-ticks
returns-in-Err-clause-ticks g c = folders_ticks _ _ _ _ _ _ c.args.index.now c.loop-next.index c.args.steps.now c.loop-next.steps c.loop-next.steps c.loop-next.invariant refl
