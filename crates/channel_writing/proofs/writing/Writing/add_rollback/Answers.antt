use Rattle.std.proofs.Common.{◌≤◌, ◌-◌, arith}
use Rattle.record_form.specs.declared.record.Rec.TheVariants.{Rollback}
use Rattle.channel_writing.proofs.Writes.{is_busy, longer, rollback_logged}
use Rattle.channel_writing.proofs.writing.Writing.add_rollback.Goals as goal

pub append-requires-clause-room : goal.append-requires-clause-room
append-requires-clause-room g c =
    let told = g.D.Disk.told c.args.self.now.disk in
    let some : 1 ≤ c.args.self.now.busy = is_busy told c.args.self.now.log c.args.self.now.busy c.requires.0 c.args.txn c.requires.1 c.requires.2 c.requires.3 c.requires.4 in
    omega (arith, some, c.requires.2.room)

pub overflow_sub-self : goal.overflow_sub-self
overflow_sub-self g c = is_busy (g.D.Disk.told c.args.self.now.disk) c.args.self.now.log c.args.self.now.busy c.requires.0 c.args.txn c.requires.1 c.requires.2 c.requires.3 c.requires.4

pub returns-clause-logged : goal.returns-clause-logged
returns-clause-logged g c = λ s entry log is busy_one.
    let told = g.D.Disk.told c.args.self.now.disk in
    let some : 1 ≤ c.args.self.now.busy = is_busy told c.args.self.now.log c.args.self.now.busy s c.args.txn entry log is busy_one in
    rollback_logged told c.args.self.now.log c.append.new.self c.args.self.now.busy (c.args.self.now.busy - 1) s c.args.txn entry log is busy_one c.append.ensures (omega (arith, some))

pub returns-clause-waits : goal.returns-clause-waits
returns-clause-waits g c = longer c.args.self.now.log c.append.new.self (Rollback c.args.txn) c.append.ensures
