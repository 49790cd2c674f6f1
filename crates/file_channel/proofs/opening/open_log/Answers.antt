use Rattle.std.proofs.Common.{rules, ◌<◌, ◌≤◌, ◌-◌, ◌^◌, ℕ, inr, length, refl, sym, ap, subst, arith}
use Rattle.channel_log.specs.Writer.{Writer}
use Rattle.channel_writing.proofs.Opening.{begun_from, begun_over, is_unused, refused_from}
use Rattle.file_channel.specs.Laid.{AreChecks, CheckState, IsNewestNamed, IsNextCheck}
use Rattle.file_channel.proofs.Begun.{begun_as, begun_gains, opens_with, refused_begin, refused_read}
use Rattle.file_channel.proofs.Free.{checks_spared, keeps_changes}
use Rattle.file_channel.proofs.Newest.{found_named}
use Rattle.file_channel.proofs.opening.open_log.Goals as goal

pub begin_log-requires : goal.begin_log-requires
begin_log-requires g c = is_unused (g.D.Disk.told c.args.disk.now) (g.D.Disk.told c.settle_folder.new.disk) c.in-Ok.found.log c.in-Ok.ensures.settles c.in-Ok.ensures.next

pub returns-in-Err-held_of-clause-refused : goal.returns-in-Err-held_of-clause-refused
returns-in-Err-held_of-clause-refused g c =
    let was = g.D.Disk.told c.args.disk.now in
    let now = g.D.Disk.told c.settle_folder.new.disk in
    refused_read was now now (g.D.Disk.faults c.args.disk.now) (g.D.Disk.faults c.settle_folder.new.disk) (g.D.Disk.faults c.settle_folder.new.disk) c.args.limits.capacity _ (g.met.D.Disk.reads_are_left c.args.disk.now) c.in-Ok.ensures.settles refl c.in-Ok.ensures.well (omega arith) (λ is. absurd (cc)) (λ _. refl) (λ t told. tt) tt

pub returns-in-Err-held_of-clause-settled_or : goal.returns-in-Err-held_of-clause-settled_or
returns-in-Err-held_of-clause-settled_or g c = inr (refused_from (g.D.Disk.told c.args.disk.now) (g.D.Disk.told c.settle_folder.new.disk) c.in-Ok.ensures.settles)

pub returns-in-Err-from-clause-refused : goal.returns-in-Err-from-clause-refused
returns-in-Err-from-clause-refused g c =
    let was = g.D.Disk.told c.args.disk.now in
    let now = g.D.Disk.told c.settle_folder.new.disk in
    refused_read was now now (g.D.Disk.faults c.args.disk.now) (g.D.Disk.faults c.settle_folder.new.disk) (g.D.Disk.faults c.settle_folder.new.disk) c.args.limits.capacity _ (g.met.D.Disk.reads_are_left c.args.disk.now) c.in-Ok.ensures.settles refl c.in-Ok.ensures.well (omega arith) (λ is. absurd (cc)) (λ _. refl) (λ t told. tt) tt

pub returns-in-Err-from-clause-settled_or : goal.returns-in-Err-from-clause-settled_or
returns-in-Err-from-clause-settled_or g c = inr (refused_from (g.D.Disk.told c.args.disk.now) (g.D.Disk.told c.settle_folder.new.disk) c.in-Ok.ensures.settles)

pub returns-in-Ok-begin_log-clause-opens : goal.returns-in-Ok-begin_log-clause-opens
returns-in-Ok-begin_log-clause-opens g c =
    let was = g.D.Disk.told c.args.disk.now in
    let mid = g.D.Disk.told c.settle_folder.new.disk in
    let now = g.D.Disk.told c.begin_log.new.disk in
    let found = c.in-Ok.found in
    let fits : found.replayed.next.txn ≤ 2 ^ 64 - 1 = search rules in
    let low : found.replayed.next.number < 2 ^ 64 = search rules in
    opens_with was now c.args.limits found.replayed c.in-Ok-held_of.held c.in-Ok-begin_log.log (begun_as was mid now found.newest found.replayed c.in-Ok-begin_log.log found.log c.args.limits.capacity c.args.limits.max_file c.in-Ok.ensures.settles c.in-Ok.ensures.replays c.in-Ok.ensures.ready fits low c.in-Ok.ensures.next c.in-Ok-begin_log.ensures.any_moment c.in-Ok-begin_log.ensures.begun c.in-Ok-begin_log.ensures.writer) c.in-Ok-held_of.ensures.looks c.in-Ok-held_of.ensures.opened

pub returns-in-Ok-begin_log-clause-waits : goal.returns-in-Ok-begin_log-clause-waits
returns-in-Ok-begin_log-clause-waits g c = ap (λ (w : Writer). length w.bytes) c.in-Ok-begin_log.ensures.writer

pub returns-in-Ok-begin_log-clause-gains : goal.returns-in-Ok-begin_log-clause-gains
returns-in-Ok-begin_log-clause-gains g c = begun_gains (g.D.Disk.told c.args.disk.now) (g.D.Disk.told c.settle_folder.new.disk) (g.D.Disk.told c.begin_log.new.disk) c.in-Ok.found.log c.in-Ok.ensures.settles c.in-Ok.ensures.next c.in-Ok-begin_log.ensures.any_moment c.in-Ok-begin_log.ensures.begun

pub returns-in-Ok-begin_log-clause-any_moment : goal.returns-in-Ok-begin_log-clause-any_moment
returns-in-Ok-begin_log-clause-any_moment g c = begun_over (g.D.Disk.told c.args.disk.now) (g.D.Disk.told c.settle_folder.new.disk) (g.D.Disk.told c.begin_log.new.disk) c.in-Ok.found.log (g.met.D.Disk.reads_are_left c.args.disk.now) c.in-Ok.ensures.settles c.in-Ok.ensures.next c.in-Ok-begin_log.ensures.any_moment

pub returns-in-Ok-begin_log-clause-settled : goal.returns-in-Ok-begin_log-clause-settled
returns-in-Ok-begin_log-clause-settled g c = begun_from (g.D.Disk.told c.args.disk.now) (g.D.Disk.told c.settle_folder.new.disk) (g.D.Disk.told c.begin_log.new.disk) c.in-Ok.found.log c.in-Ok.ensures.settles c.in-Ok.ensures.next c.in-Ok-begin_log.ensures.any_moment

pub returns-in-Err-begin_log-clause-refused : goal.returns-in-Err-begin_log-clause-refused
returns-in-Err-begin_log-clause-refused g c =
    let was = g.D.Disk.told c.args.disk.now in
    let mid = g.D.Disk.told c.settle_folder.new.disk in
    let now = g.D.Disk.told c.begin_log.new.disk in
    let e = c.in-Err-begin_log.ensures in
    refused_begin was mid now (g.D.Disk.faults c.args.disk.now) (g.D.Disk.faults c.settle_folder.new.disk) (g.D.Disk.faults c.begin_log.new.disk) c.args.limits.capacity c.in-Ok.found.log c.in-Err-begin_log.cause (g.met.D.Disk.reads_are_left c.args.disk.now) (g.met.D.Disk.reads_are_left c.begin_log.new.disk) c.in-Ok.ensures.settles c.in-Ok.ensures.next e.any_moment e.causes c.in-Ok.ensures.well e.later
    (λ is. e.fault (let _is = is in cc)) (λ isnt. e.well (λ is. isnt (let _is = is in cc)))

pub returns-in-Err-begin_log-clause-settled_or : goal.returns-in-Err-begin_log-clause-settled_or
returns-in-Err-begin_log-clause-settled_or g c = inr (begun_from (g.D.Disk.told c.args.disk.now) (g.D.Disk.told c.settle_folder.new.disk) (g.D.Disk.told c.begin_log.new.disk) c.in-Ok.found.log c.in-Ok.ensures.settles c.in-Ok.ensures.next c.in-Err-begin_log.ensures.any_moment)

pub returns-in-Ok-begin_log-clause-check : goal.returns-in-Ok-begin_log-clause-check
returns-in-Ok-begin_log-clause-check g c = λ t told. subst (λ (n : ℕ). IsNextCheck t.reads n) (sym (ap (λ (s : CheckState). s.next) c.in-Ok-from.ensures)) (c.in-Ok.ensures.check t told)

pub returns-in-Ok-begin_log-clause-newest : goal.returns-in-Ok-begin_log-clause-newest
returns-in-Ok-begin_log-clause-newest g c = λ t told.
    let found = c.in-Ok.found in
    subst (λ (s : CheckState). IsNewestNamed t.reads s.laid) (sym c.in-Ok-from.ensures) (found_named t.reads found.newest found.replayed (c.in-Ok.ensures.replays t told).opened)

pub returns-in-Ok-begin_log-clause-unused : goal.returns-in-Ok-begin_log-clause-unused
returns-in-Ok-begin_log-clause-unused g c =
    let now = g.D.Disk.told c.begin_log.new.disk in
    let mid = g.D.Disk.told c.settle_folder.new.disk in
    subst (λ (s : CheckState). AreChecks now s) (sym c.in-Ok-from.ensures)
    (checks_spared mid now _ (g.met.D.Disk.reads_are_left c.settle_folder.new.disk) (keeps_changes mid now c.in-Ok.found.log 1 _ c.in-Ok-begin_log.ensures.any_moment) c.in-Ok.ensures.unused)
