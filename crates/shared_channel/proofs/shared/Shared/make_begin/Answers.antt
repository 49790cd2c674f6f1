use Rattle.std.proofs.Common.{rules, refl}
use Rattle.shared_channel.specs.Calls.{state_seen}
use Rattle.shared_channel.proofs.Turning.{tries_one}
use Rattle.shared_channel.proofs.shared.Shared.make_begin.Goals as goal

pub returns : goal.returns
returns g c =
    let h = c.args.holder.now in
    let r = c.begin-reply.result in
    tries_one g.C.Channel.stands g.C.Channel.tells _ g.C.Channel.moment g.met.C.Channel.is_run (g.K.KindOfTxn.begins r) _ _ h _ c.requires c.begin-reply.ensures.call c.begin-reply.ensures.counts.0 (λ may. c.begin-reply.ensures.counts.1 _ (state_seen h.seat.me.0) may) (search rules) c.count.ensures.same.0 refl refl refl (c.count.ensures.call, c.count.ensures.making)
