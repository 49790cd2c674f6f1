use Rattle.std.proofs.Common.{◌<◌, ℕ}
use Rattle.flume_host.specs.Told.{WhereTold}
use Rattle.channel_replay.specs.Recover.{WhereLogs}
use Rattle.channel_replay.specs.Replay.{LeavesCount}
use Rattle.ring_replay.specs.declared.folder.Replayed.{Replayed}
use Rattle.ring_replay.specs.Folder.{AreReplayed, IsReady}
use Rattle.ring_replay.proofs.Ends.{replayed_all, replayed_count, replayed_ready, within_ok, within_over}
use Rattle.ring_replay.proofs.folder.replay.Goals as goal

pub returns-in-Ok-clause-ok : goal.returns-in-Ok-clause-ok
returns-in-Ok-clause-ok g c =
    within_ok c.within.result c.drop_open.new.self c.args.capacity (λ (r : Replayed). WhereTold _ (λ t. WhereLogs t.reads (λ logs. AreReplayed logs r)))
    (λ x ring next few. λ t is logs are. replayed_all logs c.apply_files.new.index c.drop_open.new.self c.args.capacity x (c.in-Ok.ensures.ok t is logs are) c.drop_open.ensures.dropped ring next) c.within.ensures.ok

pub returns-in-Ok-clause-ready : goal.returns-in-Ok-clause-ready
returns-in-Ok-clause-ready g c =
    within_ok c.within.result c.drop_open.new.self c.args.capacity (λ (r : Replayed). IsReady c.args.capacity r)
    (λ x ring next few. replayed_ready c.apply_files.new.index c.drop_open.new.self c.args.capacity x c.in-Ok.ensures.kept c.drop_open.ensures.dropped ring next few) c.within.ensures.ok

pub returns-in-Ok-clause-over : goal.returns-in-Ok-clause-over
returns-in-Ok-clause-over g c =
    within_over c.within.result c.drop_open.new.self c.args.capacity (λ (count : ℕ). (c.args.capacity < count) × WhereTold _ (λ t. WhereLogs t.reads (λ logs. LeavesCount logs count)))
    (λ count same more. (more, λ t is logs are. replayed_count logs c.apply_files.new.index c.drop_open.new.self count (c.in-Ok.ensures.ok t is logs are) c.drop_open.ensures.dropped same)) c.within.ensures.over
