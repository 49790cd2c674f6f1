use Rattle.shared_channel.proofs.Mending.{prune_told}
use Rattle.shared_channel.proofs.keeper.PortKeepFace.prune.Goals as goal

pub returns : goal.returns
returns g c =
    let t = prune_told g.C.Channel.stands g.C.Channel.tells g.C.Channel.moment c.args.self.now.pass c.prune.new.pass c.prune.ensures.same c.prune.result c.prune.ensures.call in
    record { seen = t.0; calls = t.1; kept = t.2; gone = c.prune.ensures.gone }
