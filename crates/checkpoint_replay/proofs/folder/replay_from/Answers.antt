use Rattle.std.proofs.Common.{◌<◌, ℕ, Some}
use Rattle.ring_replay.specs.declared.folder.Replayed.{Replayed}
use Rattle.ring_replay.specs.Folder.{IsReady}
use Rattle.ring_replay.proofs.Ends.{replayed_ready, within_ok, within_over}
use Rattle.checkpoint_replay.specs.Replayed.{IsReplayedFrom, LeavesFrom, StandElsewhere, WhereStarts}
use Rattle.checkpoint_replay.proofs.Ends.{bad_from, begun_kept, count_from, elsewhere_from, few_from, replayed_from}
use Rattle.checkpoint_replay.proofs.folder.replay_from.Goals as goal

pub apply_log-requires-clause-kept : goal.apply_log-requires-clause-kept
apply_log-requires-clause-kept g c = begun_kept c.args.check c.in_ok-index.index c.requires.kept c.in_ok-index.ensures.ok

pub returns-in-Ok-clause-ok : goal.returns-in-Ok-clause-ok
returns-in-Ok-clause-ok g c =
    within_ok c.within.result c.drop_open.new.self c.args.capacity (λ (r : Replayed). WhereStarts (g.D.Disk.told c.args.disk.now) (Some c.args.check) (λ files start found. IsReplayedFrom files start found r))
    (λ x ring next few. replayed_from _ c.args.check c.in_ok-index.index c.apply_log.new.index c.drop_open.new.self c.in_ok-index.ensures.ok c.in-Ok.ensures.ok c.drop_open.ensures.dropped c.args.capacity x ring next) c.within.ensures.ok

pub returns-in-Ok-clause-elsewhere : goal.returns-in-Ok-clause-elsewhere
returns-in-Ok-clause-elsewhere g c =
    within_ok c.within.result c.drop_open.new.self c.args.capacity (λ (r : Replayed). WhereStarts (g.D.Disk.told c.args.disk.now) (Some c.args.check) (λ files start found. StandElsewhere (Some c.args.check) start found r))
    (λ x ring next few. elsewhere_from _ c.args.check c.in_ok-index.index c.apply_log.new.index c.drop_open.new.self c.in_ok-index.ensures.ok c.in-Ok.ensures.ok c.drop_open.ensures.dropped c.args.capacity x ring) c.within.ensures.ok

pub returns-in-Ok-clause-ready : goal.returns-in-Ok-clause-ready
returns-in-Ok-clause-ready g c =
    within_ok c.within.result c.drop_open.new.self c.args.capacity (λ (r : Replayed). IsReady c.args.capacity r)
    (λ x ring next few. replayed_ready c.apply_log.new.index c.drop_open.new.self c.args.capacity x c.in-Ok.ensures.kept c.drop_open.ensures.dropped ring next few) c.within.ensures.ok

pub returns-in-Ok-clause-over : goal.returns-in-Ok-clause-over
returns-in-Ok-clause-over g c =
    within_over c.within.result c.drop_open.new.self c.args.capacity (λ (count : ℕ). (c.args.capacity < count) × WhereStarts (g.D.Disk.told c.args.disk.now) (Some c.args.check) (λ files start found. LeavesFrom start found count))
    (λ count same more. (more, count_from _ c.args.check c.in_ok-index.index c.apply_log.new.index c.drop_open.new.self c.in_ok-index.ensures.ok c.in-Ok.ensures.ok c.drop_open.ensures.dropped count same)) c.within.ensures.over

pub returns-in-Ok-clause-ticks : goal.returns-in-Ok-clause-ticks
returns-in-Ok-clause-ticks g c = few_from _ c.args.check c.args.steps.now c.apply_log.new.steps c.in-Ok.ensures.ticks

pub returns-in-Err-clause-bad : goal.returns-in-Err-clause-bad
returns-in-Err-clause-bad g c = bad_from _ c.args.check c.in_ok-index.index c.in-Err.refused c.in_ok-index.ensures.ok c.in-Err.ensures.bad

pub returns-in-Err-clause-ticks : goal.returns-in-Err-clause-ticks
returns-in-Err-clause-ticks g c = few_from _ c.args.check c.args.steps.now c.apply_log.new.steps c.in-Err.ensures.ticks
