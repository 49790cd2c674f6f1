use Rattle.file_channel.proofs.Placing.{file_there, placed_reads, reads_as}
use Rattle.file_channel.proofs.reading.read_event.Goals as goal

pub read_at-requires : goal.read_at-requires
read_at-requires g c = record { there = λ t is. file_there t c.args.writing.now.log c.args.pointer.now c.requires.known.2 (c.requires.own t is) (c.requires.known.3.there t is c.args.pointer.now c.requires.known.2 c.requires.known.4) }

pub returns-clause-gives : goal.returns-clause-gives
returns-clause-gives g c = λ settled known event are in_known.
    reads_as (g.D.Disk.told c.args.writing.now.disk) c.args.writing.now.log c.args.pointer.now event settled known c.read_at.result are in_known c.read_at.ensures.length c.read_at.ensures.waiting c.read_at.ensures.found

pub returns-clause-placed : goal.returns-clause-placed
returns-clause-placed g c = λ settled known event are in_known.
    placed_reads (g.D.Disk.told c.args.writing.now.disk) (g.D.Disk.told c.read_at.new.disk) c.args.writing.now.log c.read_at.new.self c.args.pointer.now event settled known in_known c.read_at.ensures.same c.read_at.ensures.writer c.read_at.ensures.kept are
