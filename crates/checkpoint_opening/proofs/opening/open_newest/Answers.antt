use Rattle.std.proofs.Common.{Option, subst, sym}
use Rattle.flume_host.specs.Told.{Told, WhereTold}
use Rattle.checkpoint_reading.specs.Newest.{IsNewestOf}
use Rattle.checkpoint_opening.proofs.Starting.{check_of, is_bad, leaves, log_of, newest_is_right, opens, over_of, some_events, steps_of}
use Rattle.checkpoint_opening.proofs.opening.open_newest.Goals as goal

pub returns-in-Err-clause-bad_check : goal.returns-in-Err-clause-bad_check
returns-in-Err-clause-bad_check g c = check_of c.in-Err.refused c.not_read.result _ c.not_read.ensures c.in-Err.ensures.bad

pub replay-requires-clause-kept : goal.replay-requires-clause-kept
replay-requires-clause-kept g c = some_events c.in-Ok.check c.in-Ok.ensures.read

pub replay-requires-clause-right : goal.replay-requires-clause-right
replay-requires-clause-right g c =
    let newest = subst (λ (v : Option Told). WhereTold v (λ t. IsNewestOf t.reads c.in-Ok.check)) (sym c.in-Ok.ensures.same) c.in-Ok.ensures.newest in
    λ t told. newest_is_right t.reads c.in-Ok.check (newest t told)

pub returns-in-Ok-replay-clause-opened : goal.returns-in-Ok-replay-clause-opened
returns-in-Ok-replay-clause-opened g c =
    opens (g.D.Disk.told c.args.disk.now) (g.D.Disk.told c.newest.new.disk) c.in-Ok.check c.named-newest.result c.in-Ok-replay.replayed c.in-Ok.ensures.same c.named-newest.ensures c.in-Ok.ensures.newest c.in-Ok-replay.ensures.ok c.in-Ok-replay.ensures.elsewhere

pub returns-in-Ok-replay-clause-ticks : goal.returns-in-Ok-replay-clause-ticks
returns-in-Ok-replay-clause-ticks g c =
    steps_of (g.D.Disk.told c.args.disk.now) (g.D.Disk.told c.newest.new.disk) c.in-Ok.check c.args.steps.now c.replay.new.steps c.in-Ok.ensures.same c.in-Ok.ensures.newest c.replay.ensures.ticks

pub returns-in-Err-replay-clause-bad_log : goal.returns-in-Err-replay-clause-bad_log
returns-in-Err-replay-clause-bad_log g c =
    let was = g.D.Disk.told c.args.disk.now in
    let later = g.D.Disk.told c.newest.new.disk in
    log_of c.in-Err-replay.refused c.not_replayed.result _ _ c.not_replayed.ensures (λ file at bad. is_bad was later c.in-Ok.check file at c.in-Ok.ensures.same c.in-Ok.ensures.newest bad) c.in-Err-replay.ensures.bad

pub returns-in-Err-replay-clause-over : goal.returns-in-Err-replay-clause-over
returns-in-Err-replay-clause-over g c =
    let was = g.D.Disk.told c.args.disk.now in
    let later = g.D.Disk.told c.newest.new.disk in
    over_of c.in-Err-replay.refused c.not_replayed.result _ _ c.not_replayed.ensures (λ count over. (over.0, leaves was later c.in-Ok.check count c.in-Ok.ensures.same c.in-Ok.ensures.newest over.1)) c.in-Err-replay.ensures.over

pub returns-in-Err-replay-clause-ticks : goal.returns-in-Err-replay-clause-ticks
returns-in-Err-replay-clause-ticks g c =
    steps_of (g.D.Disk.told c.args.disk.now) (g.D.Disk.told c.newest.new.disk) c.in-Ok.check c.args.steps.now c.replay.new.steps c.in-Ok.ensures.same c.in-Ok.ensures.newest c.replay.ensures.ticks
