use Rattle.std.proofs.Common.{Ok, Err, refl}
use Rattle.channel_face.specs.declared.replies.FaceRefused.TheVariants as Face
use Rattle.channel_face.specs.Faces.{is_spent_begin}
use Rattle.channel_face.specs.Machine.{BeginTake}
use Rattle.shared_channel.proofs.Porting.{all_seen, take_begun}
use Rattle.shared_channel.proofs.port.PortTakeFace.begin.Goals as goal

pub returns-in-Ok : goal.returns-in-Ok
returns-in-Ok g c =
    let t = take_begun g.C.Channel.stands g.C.Channel.tells g.C.Channel.moment c.args.self.now.pass c.begin_take.new.pass (Ok c.in-Ok.txn) (Ok c.in-Ok.txn) c.in-Ok.ensures.same c.in-Ok.ensures.call refl in
    let all = all_seen g.C.Channel.stands g.C.Channel.tells g.C.Channel.moment (is_spent_begin (Ok c.in-Ok.txn)) _ _ _ (BeginTake (Ok c.in-Ok.txn)) c.in-Ok.ensures.call in
    record { seen = t.0; calls = t.1; kept = t.2; all = all }

pub returns-in-Err : goal.returns-in-Err
returns-in-Err g c =
    let t = take_begun g.C.Channel.stands g.C.Channel.tells g.C.Channel.moment c.args.self.now.pass c.begin_take.new.pass (Err c.in-Err.refused) (Err (Face.Begin c.in-Err.refused)) c.in-Err.ensures.same c.in-Err.ensures.call refl in
    let all = all_seen g.C.Channel.stands g.C.Channel.tells g.C.Channel.moment (is_spent_begin (Err c.in-Err.refused)) _ _ _ (BeginTake (Err c.in-Err.refused)) c.in-Err.ensures.call in
    record { seen = t.0; calls = t.1; kept = t.2; all = all }
