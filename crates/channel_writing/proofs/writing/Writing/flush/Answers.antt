use Rattle.std.proofs.Common.{is_ok, refl, sym, ◌∙◌, ap}
use Rattle.channel_writing.proofs.Flushing.{ready_frames, moments, logged_after, no_ok, none_waits, nothing_left, writes_of}
use Rattle.channel_writing.proofs.writing.Writing.flush.Goals as goal

pub flush-requires : goal.flush-requires
flush-requires g c =
    let told = g.D.Disk.told c.args.self.now.disk in
    let waits = c.requires.1.waits c.requires.2 in
    let ready = ready_frames told c.args.self.now.log c.requires.0 waits in
    (ready.0, ready.1, waits.records, ready.2, waits.pending)

pub returns-in-Ok-clause-any_moment : goal.returns-in-Ok-clause-any_moment
returns-in-Ok-clause-any_moment g c = λ s log whole.
    let waits = log.waits whole in
    moments (g.D.Disk.told c.args.self.now.disk) (g.D.Disk.told c.flush.new.disk) c.args.self.now.log s waits
    (λ birth frames ready some. c.flush.ensures.any_moment birth frames waits.records ready waits.pending some) (λ none. (c.flush.ensures.empty none).2)

pub returns-in-Err-clause-any_moment : goal.returns-in-Err-clause-any_moment
returns-in-Err-clause-any_moment g c = λ s log whole.
    let waits = log.waits whole in
    moments (g.D.Disk.told c.args.self.now.disk) (g.D.Disk.told c.flush.new.disk) c.args.self.now.log s waits
    (λ birth frames ready some. c.flush.ensures.any_moment birth frames waits.records ready waits.pending some) (λ none. (c.flush.ensures.empty none).2)

pub returns-in-Ok-clause-logged : goal.returns-in-Ok-clause-logged
returns-in-Ok-clause-logged g c = λ s log whole earlier.
    let waits = log.waits whole in
    logged_after (g.D.Disk.told c.args.self.now.disk) (g.D.Disk.told c.flush.new.disk) c.args.self.now.log c.flush.new.self c.args.self.now.busy s log whole earlier
    (λ birth frames ready some. c.flush.ensures.any_moment birth frames waits.records ready waits.pending some)
    (λ birth frames ready some. c.in-Ok.ensures.flushed birth frames waits.records ready waits.pending some)
    c.in-Ok.ensures.writer (λ none. ((c.flush.ensures.empty none).1, (c.flush.ensures.empty none).2))

pub returns-in-Ok-clause-empty : goal.returns-in-Ok-clause-empty
returns-in-Ok-clause-empty g c =
    let waits = c.requires.1.waits c.requires.2 in
    nothing_left (g.D.Disk.told c.args.self.now.disk) c.args.self.now.log c.flush.new.self c.requires.0 waits c.in-Ok.ensures.writer (λ none. (c.flush.ensures.empty none).1)

pub returns-in-Ok-clause-writes : goal.returns-in-Ok-clause-writes
returns-in-Ok-clause-writes g c = λ s log whole.
    let waits = log.waits whole in
    writes_of (g.D.Disk.told c.args.self.now.disk) (g.D.Disk.told c.flush.new.disk) c.args.self.now.log s waits
    (λ birth frames ready some. c.flush.ensures.any_moment birth frames waits.records ready waits.pending some) (λ none. (c.flush.ensures.empty none).2)

pub returns-in-Err-clause-writes : goal.returns-in-Err-clause-writes
returns-in-Err-clause-writes g c = λ s log whole.
    let waits = log.waits whole in
    writes_of (g.D.Disk.told c.args.self.now.disk) (g.D.Disk.told c.flush.new.disk) c.args.self.now.log s waits
    (λ birth frames ready some. c.flush.ensures.any_moment birth frames waits.records ready waits.pending some) (λ none. (c.flush.ensures.empty none).2)

pub returns-in-Ok-clause-nothing : goal.returns-in-Ok-clause-nothing
returns-in-Ok-clause-nothing g c = λ none.
    let empty = c.flush.ensures.empty (none_waits (g.D.Disk.told c.args.self.now.disk) c.args.self.now.log c.requires.0 (c.requires.1.waits c.requires.2) none) in
    (refl, empty.2)

pub returns-in-Err-clause-nothing : goal.returns-in-Err-clause-nothing
returns-in-Err-clause-nothing g c = λ none.
    let empty = c.flush.ensures.empty (none_waits (g.D.Disk.told c.args.self.now.disk) c.args.self.now.log c.requires.0 (c.requires.1.waits c.requires.2) none) in
    no_ok (sym (ap (λ r. is_ok r) c.in-Err.is) ∙ empty.0)

pub returns-in-Ok-clause-flushed : goal.returns-in-Ok-clause-flushed
returns-in-Ok-clause-flushed g c = λ birth frames waits ready pending some. c.in-Ok.ensures.flushed birth frames waits ready pending some
