use Rattle.std.proofs.Common.{◌≤◌, ◌-◌, length, arith}
use Rattle.event_core.specs.declared.journal.Entry.TheVariants.{Puts}
use Rattle.record_form.specs.declared.record.Rec.TheVariants.{CommitPut}
use Rattle.channel_writing.proofs.Writes.{is_busy, longer, puts_done, commit_put_logged}
use Rattle.channel_writing.proofs.writing.Writing.add_commit_put.Goals as goal

pub append-requires-clause-room : goal.append-requires-clause-room
append-requires-clause-room g c =
    let told = g.D.Disk.told c.args.self.now.disk in
    let r = c.requires.logged in
    let many : 1 ≤ length r.1 = omega (arith, c.requires.some, r.4) in
    let some : 1 ≤ c.args.self.now.busy = is_busy told c.args.self.now.log c.args.self.now.busy r.0 c.args.txn (Puts r.1) r.2 r.3 (puts_done r.1 many) in
    omega (arith, some, r.2.room)

pub overflow_sub-self : goal.overflow_sub-self
overflow_sub-self g c =
    let told = g.D.Disk.told c.args.self.now.disk in
    let r = c.requires.logged in
    let many : 1 ≤ length r.1 = omega (arith, c.requires.some, r.4) in
    is_busy told c.args.self.now.log c.args.self.now.busy r.0 c.args.txn (Puts r.1) r.2 r.3 (puts_done r.1 many)

pub returns-clause-logged : goal.returns-clause-logged
returns-clause-logged g c = λ s events log is counted first fits.
    let told = g.D.Disk.told c.args.self.now.disk in
    let many : 1 ≤ length events = omega (arith, c.requires.some, counted) in
    let some : 1 ≤ c.args.self.now.busy = is_busy told c.args.self.now.log c.args.self.now.busy s c.args.txn (Puts events) log is (puts_done events many) in
    commit_put_logged told c.args.self.now.log c.append.new.self c.args.self.now.busy (c.args.self.now.busy - 1) s c.args.txn c.args.first c.args.count events log is c.requires.some counted first fits c.append.ensures (omega (arith, some))

pub returns-clause-waits : goal.returns-clause-waits
returns-clause-waits g c = longer c.args.self.now.log c.append.new.self (CommitPut c.args.txn c.args.first c.args.count) c.append.ensures
