use Rattle.shared_channel.proofs.Turning.{answers, pass_kept}
use Rattle.shared_channel.proofs.shared.Shared.stage_take.Goals as goal

pub invariant_of-pass : goal.invariant_of-pass
invariant_of-pass g c = pass_kept g.C.Channel.stands g.C.Channel.tells _ _ _ c.pass.inside.badge.views _ _ c.pass.view_is c.pass.invariant.0.3 _ _ c.hold-holder.ensures.by c.hold-holder.ensures.making _ c.release-pass-inside.ensures.released _ _ _ c.pass.invariant c.make_stage-reply.ensures.tries.0

pub returns-clause-call : goal.returns-clause-call
returns-clause-call g c = answers g.C.Channel.stands g.C.Channel.tells _ _ _ c.pass.inside.badge.views _ _ c.pass.view_is c.pass.invariant.0.3 _ _ c.hold-holder.ensures.by c.hold-holder.ensures.making _ c.release-pass-inside.ensures.released g.C.Channel.moment _ _ c.make_stage-reply.ensures.tries
