use Rattle.std.proofs.Common.{Ok, Err, refl}
use Rattle.channel_face.specs.declared.replies.FaceRefused.TheVariants as Face
use Rattle.channel_face.specs.Faces.{is_spent_take}
use Rattle.channel_face.specs.Machine.{Take}
use Rattle.shared_channel.proofs.Porting.{all_seen, taken}
use Rattle.shared_channel.proofs.port.PortTakeFace.take.Goals as goal

pub returns-in-Ok : goal.returns-in-Ok
returns-in-Ok g c =
    let t = taken g.C.Channel.stands g.C.Channel.tells g.C.Channel.moment c.args.self.now.pass c.take.new.pass c.args.txn.now (Ok c.in-Ok.taken) (Ok c.in-Ok.taken.event) c.in-Ok.ensures.same c.in-Ok.ensures.call refl in
    let all = all_seen g.C.Channel.stands g.C.Channel.tells g.C.Channel.moment (is_spent_take (Ok c.in-Ok.taken)) _ _ _ (Take c.args.txn.now (Ok c.in-Ok.taken)) c.in-Ok.ensures.call in
    record { seen = t.0; calls = t.1; kept = t.2; token = c.in-Ok.ensures.token; all = all }

pub returns-in-Err : goal.returns-in-Err
returns-in-Err g c =
    let t = taken g.C.Channel.stands g.C.Channel.tells g.C.Channel.moment c.args.self.now.pass c.take.new.pass c.args.txn.now (Err c.in-Err.refused) (Err (Face.Take c.in-Err.refused)) c.in-Err.ensures.same c.in-Err.ensures.call refl in
    let all = all_seen g.C.Channel.stands g.C.Channel.tells g.C.Channel.moment (is_spent_take (Err c.in-Err.refused)) _ _ _ (Take c.args.txn.now (Err c.in-Err.refused)) c.in-Err.ensures.call in
    record { seen = t.0; calls = t.1; kept = t.2; token = c.in-Err.ensures.token; all = all }
