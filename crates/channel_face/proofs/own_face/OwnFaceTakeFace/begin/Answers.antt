use Rattle.std.proofs.Common.{Ok, Err, refl}
use Rattle.channel_face.specs.declared.replies.FaceRefused.TheVariants as Face
use Rattle.channel_face.proofs.Going.{continues_one}
use Rattle.channel_face.proofs.Grammar.{take_begun}
use Rattle.channel_face.proofs.own_face.OwnFaceTakeFace.begin.Goals as goal

pub returns-in-Ok-clause-calls : goal.returns-in-Ok-clause-calls
returns-in-Ok-clause-calls g c =
    take_begun (g.C.Channel.tells c.begin_take.new.self) (g.C.Channel.stands c.args.self.now.channel) (g.C.Channel.stands c.begin_take.new.self) (Ok c.in-Ok.txn) (Ok c.in-Ok.txn) (g.C.Channel.moment c.begin_take.new.self) c.in-Ok.ensures (g.met.C.Channel.is_run c.begin_take.new.self) refl

pub returns-in-Err-clause-calls : goal.returns-in-Err-clause-calls
returns-in-Err-clause-calls g c =
    take_begun (g.C.Channel.tells c.begin_take.new.self) (g.C.Channel.stands c.args.self.now.channel) (g.C.Channel.stands c.begin_take.new.self) (Err c.in-Err.refused) (Err (Face.Begin c.in-Err.refused)) (g.C.Channel.moment c.begin_take.new.self) c.in-Err.ensures (g.met.C.Channel.is_run c.begin_take.new.self) refl

pub returns-in-Ok-clause-kept : goal.returns-in-Ok-clause-kept
returns-in-Ok-clause-kept g c = continues_one (g.C.Channel.stands c.args.self.now.channel) (g.C.Channel.stands c.begin_take.new.self) _ _ c.in-Ok.ensures

pub returns-in-Err-clause-kept : goal.returns-in-Err-clause-kept
returns-in-Err-clause-kept g c = continues_one (g.C.Channel.stands c.args.self.now.channel) (g.C.Channel.stands c.begin_take.new.self) _ _ c.in-Err.ensures
