use Rattle.std.proofs.Common.{◌≡◌, length}
use Rattle.shared_channel.proofs.Mending.{look_told}
use Rattle.shared_channel.proofs.port.Port.events_left.Goals as goal

pub returns : goal.returns
returns g c =
    let t = look_told g.C.Channel.stands g.C.Channel.tells g.C.Channel.moment c.args.self.now.pass c.size.new.pass c.size.ensures.same (λ s. c.size.result ≡ length s.items) c.size.ensures.look c.size.ensures.answer in
    record { seen = t.0; calls = t.1; kept = t.2 }
