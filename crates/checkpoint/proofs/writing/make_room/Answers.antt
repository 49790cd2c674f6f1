use Rattle.checkpoint.proofs.Laying.{rests}
use Rattle.checkpoint.proofs.writing.make_room.Goals as goal

pub returns-then-size-capacity-clause-any_moment : goal.returns-then-size-capacity-clause-any_moment
returns-then-size-capacity-clause-any_moment g c =
    let law = g.met.D.Disk.reads_are_left in
    rests c.args.number _ (λ t is. law c.args.disk.now t is) c.requires.begun
