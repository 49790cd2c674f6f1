use Rattle.std.proofs.Common.{rules, refl, ap}
use Rattle.channel_face.specs.Machine.{Checkpoint}
use Rattle.shared_channel.proofs.Durables.{check_spares, laid_seen}
use Rattle.shared_channel.specs.Calls.{state_seen}
use Rattle.shared_channel.proofs.Turning.{tries_one}
use Rattle.shared_channel.proofs.shared.Shared.make_checkpoint.Goals as goal

pub returns-clause-tries : goal.returns-clause-tries
returns-clause-tries g c =
    let h = c.args.holder.now in
    let r = c.checkpoint-reply.result in
    tries_one g.C.Channel.stands g.C.Channel.tells _ g.C.Channel.moment g.met.C.Channel.is_run (Checkpoint r) _ _ h _ c.requires c.checkpoint-reply.ensures.step refl (λ may. check_spares (state_seen h.seat.me.0) r may.0) (search rules) c.count.ensures.same.0 refl refl refl (c.count.ensures.call, c.count.ensures.making)

pub returns-clause-laid : goal.returns-clause-laid
returns-clause-laid g c =
    let h = c.args.holder.now in
    let r = c.checkpoint-reply.result in
    laid_seen g.C.Channel.stands g.C.Channel.tells _ (g.C.Durable.is_laid c.checkpoint-reply.new.self) r _ h _ c.requires (ap (λ m. m.0) c.count.ensures.call) refl c.checkpoint-reply.ensures.laid
