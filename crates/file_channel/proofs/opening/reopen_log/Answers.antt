use Rattle.std.proofs.Common.{rules, ◌<◌, ◌≤◌, ◌-◌, ◌^◌, length, ap}
use Rattle.channel_log.specs.Writer.{Writer}
use Rattle.channel_writing.proofs.Opening.{begun_over, begun_stays, is_unused}
use Rattle.file_channel.proofs.Begun.{begun_as, begun_gains, refused_begin}
use Rattle.file_channel.proofs.Free.{keeps_changes, keeps_then, needed_spared, some_needed}
use Rattle.file_channel.proofs.Newest.{found_named}
use Rattle.file_channel.proofs.opening.reopen_log.Goals as goal

pub begin_log-requires : goal.begin_log-requires
begin_log-requires g c = is_unused (g.D.Disk.told c.args.disk.now) (g.D.Disk.told c.settle_folder.new.disk) c.in-Ok.found.log c.in-Ok.ensures.settles c.in-Ok.ensures.next

pub returns-in-Ok-begin_log-clause-begun : goal.returns-in-Ok-begin_log-clause-begun
returns-in-Ok-begin_log-clause-begun g c =
    let found = c.in-Ok.found in
    let fits : found.replayed.next.txn ≤ 2 ^ 64 - 1 = search rules in
    let low : found.replayed.next.number < 2 ^ 64 = search rules in
    begun_as (g.D.Disk.told c.args.disk.now) (g.D.Disk.told c.settle_folder.new.disk) (g.D.Disk.told c.begin_log.new.disk) found.newest found.replayed c.in-Ok-begin_log.log found.log c.args.capacity c.args.max_file c.in-Ok.ensures.settles c.in-Ok.ensures.replays c.in-Ok.ensures.ready fits low c.in-Ok.ensures.next c.in-Ok-begin_log.ensures.any_moment c.in-Ok-begin_log.ensures.begun c.in-Ok-begin_log.ensures.writer

pub returns-in-Ok-begin_log-clause-waits : goal.returns-in-Ok-begin_log-clause-waits
returns-in-Ok-begin_log-clause-waits g c = ap (λ (w : Writer). length w.bytes) c.in-Ok-begin_log.ensures.writer

pub returns-in-Ok-begin_log-clause-gains : goal.returns-in-Ok-begin_log-clause-gains
returns-in-Ok-begin_log-clause-gains g c = begun_gains (g.D.Disk.told c.args.disk.now) (g.D.Disk.told c.settle_folder.new.disk) (g.D.Disk.told c.begin_log.new.disk) c.in-Ok.found.log c.in-Ok.ensures.settles c.in-Ok.ensures.next c.in-Ok-begin_log.ensures.any_moment c.in-Ok-begin_log.ensures.begun

pub returns-in-Ok-begin_log-clause-stays : goal.returns-in-Ok-begin_log-clause-stays
returns-in-Ok-begin_log-clause-stays g c = begun_stays (g.D.Disk.told c.args.disk.now) (g.D.Disk.told c.settle_folder.new.disk) (g.D.Disk.told c.begin_log.new.disk) c.in-Ok.found.log (g.met.D.Disk.reads_are_left c.begin_log.new.disk) c.in-Ok.ensures.settles c.in-Ok.ensures.next c.in-Ok-begin_log.ensures.any_moment

pub returns-in-Ok-begin_log-clause-any_moment : goal.returns-in-Ok-begin_log-clause-any_moment
returns-in-Ok-begin_log-clause-any_moment g c = begun_over (g.D.Disk.told c.args.disk.now) (g.D.Disk.told c.settle_folder.new.disk) (g.D.Disk.told c.begin_log.new.disk) c.in-Ok.found.log (g.met.D.Disk.reads_are_left c.args.disk.now) c.in-Ok.ensures.settles c.in-Ok.ensures.next c.in-Ok-begin_log.ensures.any_moment

pub returns-in-Err-begin_log-clause-refused : goal.returns-in-Err-begin_log-clause-refused
returns-in-Err-begin_log-clause-refused g c =
    let was = g.D.Disk.told c.args.disk.now in
    let mid = g.D.Disk.told c.settle_folder.new.disk in
    let now = g.D.Disk.told c.begin_log.new.disk in
    let e = c.in-Err-begin_log.ensures in
    refused_begin was mid now (g.D.Disk.faults c.args.disk.now) (g.D.Disk.faults c.settle_folder.new.disk) (g.D.Disk.faults c.begin_log.new.disk) c.args.capacity c.in-Ok.found.log c.in-Err-begin_log.cause (g.met.D.Disk.reads_are_left c.args.disk.now) (g.met.D.Disk.reads_are_left c.begin_log.new.disk) c.in-Ok.ensures.settles c.in-Ok.ensures.next e.any_moment e.causes c.in-Ok.ensures.well e.later
    (λ is. e.fault (let _is = is in cc)) (λ isnt. e.well (λ is. isnt (let _is = is in cc)))

pub returns-in-Ok-begin_log-clause-keeps : goal.returns-in-Ok-begin_log-clause-keeps
returns-in-Ok-begin_log-clause-keeps g c =
    let mid = g.D.Disk.told c.settle_folder.new.disk in
    let now = g.D.Disk.told c.begin_log.new.disk in
    keeps_then (g.D.Disk.told c.args.disk.now) mid now c.in-Ok.ensures.keeps (keeps_changes mid now c.in-Ok.found.log 1 _ c.in-Ok-begin_log.ensures.any_moment)

pub returns-in-Err-begin_log-clause-keeps : goal.returns-in-Err-begin_log-clause-keeps
returns-in-Err-begin_log-clause-keeps g c =
    let mid = g.D.Disk.told c.settle_folder.new.disk in
    let now = g.D.Disk.told c.begin_log.new.disk in
    keeps_then (g.D.Disk.told c.args.disk.now) mid now c.in-Ok.ensures.keeps (keeps_changes mid now c.in-Ok.found.log 1 _ c.in-Err-begin_log.ensures.any_moment)

pub returns-in-Ok-begin_log-clause-newest : goal.returns-in-Ok-begin_log-clause-newest
returns-in-Ok-begin_log-clause-newest g c = λ t told.
    let found = c.in-Ok.found in
    found_named t.reads found.newest found.replayed (c.in-Ok.ensures.replays t told).opened

pub returns-in-Ok-begin_log-clause-needed : goal.returns-in-Ok-begin_log-clause-needed
returns-in-Ok-begin_log-clause-needed g c =
    let mid = g.D.Disk.told c.settle_folder.new.disk in
    let now = g.D.Disk.told c.begin_log.new.disk in
    some_needed mid now c.in-Ok.found.newest (λ l. needed_spared mid now l (g.met.D.Disk.reads_are_left c.settle_folder.new.disk) (keeps_changes mid now c.in-Ok.found.log 1 _ c.in-Ok-begin_log.ensures.any_moment)) c.in-Ok.ensures.unused.needed
