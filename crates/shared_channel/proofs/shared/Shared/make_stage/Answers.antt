use Rattle.std.proofs.Common.{rules, refl}
use Rattle.channel_face.specs.Calls.{cause_of}
use Rattle.shared_channel.specs.Calls.{state_seen, step}
use Rattle.shared_channel.proofs.Turning.{tries_one}
use Rattle.shared_channel.proofs.shared.Shared.make_stage.Goals as goal

pub returns-clause-tries : goal.returns-clause-tries
returns-clause-tries g c =
    let h = c.args.holder.now in
    let s = state_seen h.seat.me.0 in
    let t = c.args.txn in
    let r = cause_of c.stage-reply.result in
    tries_one g.C.Channel.stands g.C.Channel.tells _ g.C.Channel.moment g.met.C.Channel.is_run (g.K.KindOfTxn.stages t r) _ _ h _ c.requires c.stage-reply.ensures.step c.stage-reply.ensures.counts.0 (λ may. c.stage-reply.ensures.counts.1 _ s may) (search rules) c.count.ensures.same.0 refl refl
    (λ i. step h.by (g.K.KindOfTxn.stages (record { life = c.life-life.ensures i; number = c.number-number.ensures i }) r) (g.C.Channel.moment c.stage-reply.new.channel)) (c.count.ensures.call, c.count.ensures.making)
