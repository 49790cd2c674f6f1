use Rattle.std.proofs.Common.{rules, refl}
use Rattle.channel_face.specs.Machine.{Prune}
use Rattle.shared_channel.proofs.Durables.{prune_spares}
use Rattle.shared_channel.specs.Calls.{state_seen}
use Rattle.shared_channel.proofs.Turning.{tries_one}
use Rattle.shared_channel.proofs.shared.Shared.make_prune.Goals as goal

pub returns-clause-tries : goal.returns-clause-tries
returns-clause-tries g c =
    let h = c.args.holder.now in
    let r = c.prune-reply.result in
    tries_one g.C.Channel.stands g.C.Channel.tells _ g.C.Channel.moment g.met.C.Channel.is_run (Prune r) _ _ h _ c.requires c.prune-reply.ensures.step refl (λ may. prune_spares (state_seen h.seat.me.0) r may.0) (search rules) c.count.ensures.same.0 refl refl refl (c.count.ensures.call, c.count.ensures.making)
