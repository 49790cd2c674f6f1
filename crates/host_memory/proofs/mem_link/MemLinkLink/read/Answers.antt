use Rattle.host_memory.proofs.Reading.{follows_note}
use Rattle.host_memory.proofs.mem_link.MemLinkLink.read.Goals as goal

pub returns-in-Ok-clause-follows : goal.returns-in-Ok-clause-follows
returns-in-Ok-clause-follows c = follows_note c.args.self.now c.note.new.self c.due-due.new.into c.in-Ok.read c.note.result
    (rw c.in-Ok.is at c.due-due.ensures.fits) (rw (c.note.ensures.same.1, ← c.in-Ok.is) c.due-due.ensures.due) c.note.ensures.ok c.note.ensures.err
