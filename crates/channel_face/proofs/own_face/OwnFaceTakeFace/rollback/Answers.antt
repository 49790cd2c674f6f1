use Rattle.channel_face.specs.Faces.{IsTakeRolledBack}
use Rattle.channel_face.specs.OwnCalls.{Was}
use Rattle.channel_face.proofs.Going.{gains}
use Rattle.channel_face.proofs.own_face.OwnFaceTakeFace.rollback.Goals as goal

pub returns-clause-calls : goal.returns-clause-calls
returns-clause-calls g c =
    let b = g.C.Channel.stands c.roll_back_take.new.channel in
    gains (g.C.Channel.stands c.args.self.now.channel) b (IsTakeRolledBack (Was b) c.args.txn) c.roll_back_take.ensures.goes
