use Rattle.channel_writing.proofs.Whole.{staged_below}
use Rattle.file_channel.specs.Placed.{Logged}
use Rattle.file_channel.proofs.Adding.{failed_state, flush_file, flush_grows, settle_fits}
use Rattle.file_channel.proofs.logged.settle_here.Goals as goal

pub flush-requires : goal.flush-requires
flush-requires g c = (c.requires.0, c.requires.1.whole.logged c.requires.2, c.requires.2)

pub returns-in-Ok-clause-fits : goal.returns-in-Ok-clause-fits
returns-in-Ok-clause-fits g c = λ s is still.
    let told = g.D.Disk.told c.args.writing.now.disk in
    let told' = g.D.Disk.told c.flush.new.self.disk in
    let old : Logged = record { places = c.args.held.now; log = c.args.writing.now.log; busy = c.args.writing.now.busy } in
    let new : Logged = record { places = c.settle.new.self; log = c.flush.new.self.log; busy = c.flush.new.self.busy } in
    let log = is.whole.logged still in
    settle_fits told told' old new s is still
    (flush_grows told told' old.log new.log s (log.waits still) (λ birth frames waits. c.flush.ensures.changes birth frames waits) (λ birth frames waits. c.in-Ok.ensures.flushed birth frames waits) c.in-Ok.ensures.moved c.in-Ok.ensures.same) (flush_file told told' old.log new.log c.in-Ok.ensures.moved c.in-Ok.ensures.same)
    (λ known looks. c.settle.ensures.step known s looks) c.settle.ensures.opened c.in-Ok.ensures.empty (c.in-Ok.ensures.logged s log still (staged_below s is.whole.sound))

pub returns-in-Err-clause-failed : goal.returns-in-Err-clause-failed
returns-in-Err-clause-failed g c = λ s is still.
    let told = g.D.Disk.told c.args.writing.now.disk in
    let told' = g.D.Disk.told c.flush.new.self.disk in
    let old : Logged = record { places = c.args.held.now; log = c.args.writing.now.log; busy = c.args.writing.now.busy } in
    let new : Logged = record { places = c.set_broken.new.self; log = c.flush.new.self.log; busy = c.flush.new.self.busy } in
    failed_state told told' old new s is (c.flush.ensures.any_moment s (is.whole.logged still) still) (λ settled known looks. c.set_broken.ensures.looks settled known s looks)

pub returns-in-Ok-clause-any_moment : goal.returns-in-Ok-clause-any_moment
returns-in-Ok-clause-any_moment g c = λ s is still. c.flush.ensures.any_moment s (is.whole.logged still) still

pub returns-in-Err-clause-any_moment : goal.returns-in-Err-clause-any_moment
returns-in-Err-clause-any_moment g c = λ s is still. c.flush.ensures.any_moment s (is.whole.logged still) still

pub returns-in-Ok-clause-writes : goal.returns-in-Ok-clause-writes
returns-in-Ok-clause-writes g c = c.flush.ensures.writes c.requires.0 (c.requires.1.whole.logged c.requires.2) c.requires.2

pub returns-in-Err-clause-writes : goal.returns-in-Err-clause-writes
returns-in-Err-clause-writes g c = c.flush.ensures.writes c.requires.0 (c.requires.1.whole.logged c.requires.2) c.requires.2
