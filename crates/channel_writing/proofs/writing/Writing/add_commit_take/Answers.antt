use Rattle.std.proofs.Common.{◌≤◌, ◌-◌, length, arith}
use Rattle.event_core.specs.declared.journal.Entry.TheVariants.{Takes}
use Rattle.record_form.specs.declared.record.Rec.TheVariants.{CommitTake}
use Rattle.channel_writing.proofs.Writes.{is_busy, longer, takes_done, commit_take_logged}
use Rattle.channel_writing.proofs.writing.Writing.add_commit_take.Goals as goal

pub append-requires-clause-room : goal.append-requires-clause-room
append-requires-clause-room g c =
    let told = g.D.Disk.told c.args.self.now.disk in
    let r = c.requires.logged in
    let many : 1 ≤ length r.1 = omega (arith, c.requires.some, r.4) in
    let some : 1 ≤ c.args.self.now.busy = is_busy told c.args.self.now.log c.args.self.now.busy r.0 c.args.txn (Takes r.1) r.2 r.3 (takes_done r.1 many) in
    omega (arith, some, r.2.room)

pub overflow_sub-self : goal.overflow_sub-self
overflow_sub-self g c =
    let told = g.D.Disk.told c.args.self.now.disk in
    let r = c.requires.logged in
    let many : 1 ≤ length r.1 = omega (arith, c.requires.some, r.4) in
    is_busy told c.args.self.now.log c.args.self.now.busy r.0 c.args.txn (Takes r.1) r.2 r.3 (takes_done r.1 many)

pub returns-clause-logged : goal.returns-clause-logged
returns-clause-logged g c = λ s numbers log is counted.
    let told = g.D.Disk.told c.args.self.now.disk in
    let many : 1 ≤ length numbers = omega (arith, c.requires.some, counted) in
    let some : 1 ≤ c.args.self.now.busy = is_busy told c.args.self.now.log c.args.self.now.busy s c.args.txn (Takes numbers) log is (takes_done numbers many) in
    commit_take_logged told c.args.self.now.log c.append.new.self c.args.self.now.busy (c.args.self.now.busy - 1) s c.args.txn c.args.count numbers log is c.requires.some counted c.append.ensures (omega (arith, some))

pub returns-clause-waits : goal.returns-clause-waits
returns-clause-waits g c = longer c.args.self.now.log c.append.new.self (CommitTake c.args.txn c.args.count) c.append.ensures
