use Rattle.std.proofs.Common.{◌+◌, refl, arith}
use Rattle.record_form.specs.declared.record.Rec.TheVariants.{Put}
use Rattle.channel_writing.proofs.Writes.{longer, put_logged}
use Rattle.channel_writing.proofs.writing.Writing.add_put.Goals as goal

pub returns-then-first-clause-logged : goal.returns-then-first-clause-logged
returns-then-first-clause-logged g c = λ s events log is is_first.
    put_logged (g.D.Disk.told c.args.self.now.disk) c.args.self.now.log c.append_put.new.self c.args.self.now.busy (c.args.self.now.busy + 1) s c.args.txn events c.args.event.now c.args.first log is is_first c.append_put.ensures (rw c.if-first.true refl) c.requires.room

pub returns-else-first-clause-logged : goal.returns-else-first-clause-logged
returns-else-first-clause-logged g c = λ s events log is is_first.
    put_logged (g.D.Disk.told c.args.self.now.disk) c.args.self.now.log c.append_put.new.self c.args.self.now.busy c.args.self.now.busy s c.args.txn events c.args.event.now c.args.first log is is_first c.append_put.ensures (rw c.if-first.false (omega arith)) c.requires.room

pub returns-then-first-clause-waits : goal.returns-then-first-clause-waits
returns-then-first-clause-waits g c = longer c.args.self.now.log c.append_put.new.self (Put c.args.txn c.args.event.now) c.append_put.ensures

pub returns-else-first-clause-waits : goal.returns-else-first-clause-waits
returns-else-first-clause-waits g c = longer c.args.self.now.log c.append_put.new.self (Put c.args.txn c.args.event.now) c.append_put.ensures
