use Rattle.shared_channel.proofs.Porting.{settles}
use Rattle.shared_channel.proofs.Turning.{gone, pass_kept}
use Rattle.shared_channel.proofs.shared.Shared.settle.Goals as goal

pub invariant_of-pass : goal.invariant_of-pass
invariant_of-pass g c = pass_kept g.C.Channel.stands g.C.Channel.tells _ _ _ c.pass.inside.badge.views _ _ c.pass.view_is c.pass.invariant.0.3 _ _ c.hold-holder.ensures.by c.hold-holder.ensures.making _ c.release-pass-inside.ensures.released _ _ _ c.pass.invariant c.make_settled-sure.ensures.1

pub returns-clause-settles : goal.returns-clause-settles
returns-clause-settles g c = settles g.C.Channel.stands g.C.Channel.tells _ _ _ c.pass.inside.badge.views _ _ c.pass.view_is c.pass.invariant.0.3 _ _ c.hold-holder.ensures.by c.hold-holder.ensures.making _ c.release-pass-inside.ensures.released c.hold-holder.ensures.holds g.C.Channel.moment c.args.ticket.now c.make_settled-sure.result c.make_settled-sure.ensures

pub returns-clause-all : goal.returns-clause-all
returns-clause-all g c = (_, (gone g.C.Channel.stands g.C.Channel.tells _ _ _ c.pass.inside.badge.views _ _ c.pass.view_is c.pass.invariant.0.3 _ _ c.hold-holder.ensures.by c.hold-holder.ensures.making _ c.release-pass-inside.ensures.released _ c.make_settled-sure.ensures.1).seen)
