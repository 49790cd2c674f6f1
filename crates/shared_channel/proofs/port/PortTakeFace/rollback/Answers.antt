use Rattle.std.proofs.Common.{◌≡◌, None}
use Rattle.channel_face.specs.Machine.{RollbackTake, takes_of}
use Rattle.channel_face.specs.Faces.{IsTakeRolledBack}
use Rattle.shared_channel.specs.Ports.{Saw}
use Rattle.shared_channel.proofs.Porting.{all_seen_back, rolls, told}
use Rattle.shared_channel.proofs.port.PortTakeFace.rollback.Goals as goal

pub returns : goal.returns
returns g c =
    let p = c.args.self.now.pass in
    let q = c.rollback_take.new.pass in
    let t = told p q (IsTakeRolledBack (Saw g.C.Channel.stands q.view) c.args.txn) c.rollback_take.ensures.same (rolls g.C.Channel.stands g.C.Channel.tells g.C.Channel.moment c.rollback_take.result p.view q.view p.number (RollbackTake c.args.txn) (λ s. takes_of s c.args.txn ≡ None) c.rollback_take.ensures.call) in
    record { seen = t.0; calls = t.1; kept = t.2; all = all_seen_back g.C.Channel.stands g.C.Channel.tells g.C.Channel.moment c.rollback_take.result p.view q.view p.number _ _ c.rollback_take.ensures.call }
