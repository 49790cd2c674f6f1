use Rattle.std.proofs.Common.{Ok, Err, refl}
use Rattle.channel_face.specs.declared.replies.FaceRefused.TheVariants as Face
use Rattle.channel_face.proofs.Going.{continues_one}
use Rattle.channel_face.proofs.Grammar.{taken}
use Rattle.channel_face.proofs.own_face.OwnFaceTakeFace.take.Goals as goal

pub returns-in-Ok-clause-calls : goal.returns-in-Ok-clause-calls
returns-in-Ok-clause-calls g c =
    taken (g.C.Channel.tells c.take.new.self) (g.C.Channel.stands c.args.self.now.channel) (g.C.Channel.stands c.take.new.self) c.args.txn.now (Ok c.in-Ok.taken) (Ok c.in-Ok.taken.event) (g.C.Channel.moment c.take.new.self) c.in-Ok.ensures.step (g.met.C.Channel.is_run c.take.new.self) refl

pub returns-in-Err-clause-calls : goal.returns-in-Err-clause-calls
returns-in-Err-clause-calls g c =
    taken (g.C.Channel.tells c.take.new.self) (g.C.Channel.stands c.args.self.now.channel) (g.C.Channel.stands c.take.new.self) c.args.txn.now (Err c.in-Err.refused) (Err (Face.Take c.in-Err.refused)) (g.C.Channel.moment c.take.new.self) c.in-Err.ensures.step (g.met.C.Channel.is_run c.take.new.self) refl

pub returns-in-Ok-clause-kept : goal.returns-in-Ok-clause-kept
returns-in-Ok-clause-kept g c = continues_one (g.C.Channel.stands c.args.self.now.channel) (g.C.Channel.stands c.take.new.self) _ _ c.in-Ok.ensures.step

pub returns-in-Err-clause-kept : goal.returns-in-Err-clause-kept
returns-in-Err-clause-kept g c = continues_one (g.C.Channel.stands c.args.self.now.channel) (g.C.Channel.stands c.take.new.self) _ _ c.in-Err.ensures.step
