use Rattle.std.proofs.Common.{[], ℕ, ap, subst}
use Rattle.channel_log.specs.Writer.{IsReady, Writer}
use Rattle.channel_writing.proofs.Rolling.{roll_moments, roll_unused, rolled_logged}
use Rattle.channel_writing.proofs.writing.Writing.roll.Goals as goal

pub roll-requires : goal.roll-requires
roll-requires g c = λ low.
    let given = c.requires.logged in
    roll_unused (g.D.Disk.told c.args.self.now.disk) c.args.self.now.log given.0 (given.1.waits given.2)

pub returns-in-Ok-clause-any_moment : goal.returns-in-Ok-clause-any_moment
returns-in-Ok-clause-any_moment g c = λ s log whole.
    roll_moments (g.D.Disk.told c.args.self.now.disk) (g.D.Disk.told c.roll.new.disk) c.args.self.now.log s (log.waits whole) c.requires.follows (c.roll.ensures.any_moment c.requires.follows)

pub returns-in-Ok-clause-logged : goal.returns-in-Ok-clause-logged
returns-in-Ok-clause-logged g c = λ s log.
    let told' = g.D.Disk.told c.roll.new.disk in
    let ready = subst (λ (n : ℕ). IsReady told' 2 n 16 []) (ap (λ (w : Writer). w.file) c.in-Ok.ensures.writer) c.in-Ok.ensures.begun in
    rolled_logged (g.D.Disk.told c.args.self.now.disk) told' c.args.self.now.log c.roll.new.self c.args.self.now.busy s log c.requires.framed c.requires.follows (c.roll.ensures.any_moment c.requires.follows) ready
    c.in-Ok.ensures.writer

pub returns-in-Err-DiskFault-clause-any_moment : goal.returns-in-Err-DiskFault-clause-any_moment
returns-in-Err-DiskFault-clause-any_moment g c = λ s log whole.
    roll_moments (g.D.Disk.told c.args.self.now.disk) (g.D.Disk.told c.roll.new.disk) c.args.self.now.log s (log.waits whole) c.requires.follows (c.roll.ensures.any_moment c.requires.follows)
