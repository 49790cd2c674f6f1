use Rattle.shared_channel.proofs.Mending.{mend_told}
use Rattle.shared_channel.proofs.keeper.PortMendFace.mend.Goals as goal

pub returns : goal.returns
returns g c =
    let t = mend_told g.C.Channel.stands g.C.Channel.tells g.C.Channel.moment c.args.self.now.pass c.mend.new.pass c.mend.ensures.same c.mend.result c.mend.ensures.call in
    record { seen = t.0; calls = t.1; kept = t.2 }
