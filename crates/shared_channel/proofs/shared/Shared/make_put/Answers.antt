use Rattle.std.proofs.Common.{rules, refl, ap}
use Rattle.channel_face.specs.Token.{Token}
use Rattle.channel_face.specs.Machine.{Put, puts_of}
use Rattle.channel_face.proofs.Spent.{put_spares}
use Rattle.shared_channel.specs.Calls.{state_seen, step}
use Rattle.shared_channel.proofs.Turning.{tries_one}
use Rattle.shared_channel.proofs.shared.Shared.make_put.Goals as goal

pub returns-clause-tries : goal.returns-clause-tries
returns-clause-tries g c =
    let h = c.args.holder.now in
    let s = state_seen h.seat.me.0 in
    let t = c.args.txn.now in
    let r = c.put-reply.result in
    tries_one g.C.Channel.stands g.C.Channel.tells _ g.C.Channel.moment g.met.C.Channel.is_run (Put t c.args.event.now r) _ _ h _ c.requires c.put-reply.ensures.step refl (λ may. put_spares s (puts_of s t) c.args.event.now r may) (search rules) c.count.ensures.same.0 refl refl
    (ap (λ (u : Token). step h.by (Put u c.args.event.now r) (g.C.Channel.moment c.put-reply.new.self)) c.put-reply.ensures.same) (c.count.ensures.call, c.count.ensures.making)
