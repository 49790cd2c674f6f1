use Rattle.shared_channel.proofs.Mending.{check_told}
use Rattle.shared_channel.proofs.keeper.PortKeepFace.checkpoint.Goals as goal

pub returns : goal.returns
returns g c =
    let t = check_told g.C.Channel.stands g.C.Channel.tells g.C.Channel.moment c.args.self.now.pass c.checkpoint.new.pass c.checkpoint.ensures.same c.checkpoint.result c.checkpoint.ensures.call in
    record { seen = t.0; calls = t.1; kept = t.2; laid = c.checkpoint.ensures.laid }
