use Rattle.std.proofs.Common.{◌∙◌, List, subst}
use Rattle.channel_face.specs.History.{Opening, Step}
use Rattle.two_channels.specs.Shares.{StandsClosed, table_of}
use Rattle.agent_channels.proofs.Joining.{new_by_home, took_all}
use Rattle.agent_channels.proofs.unused.unshare.Goals as goal

pub join_others-pass-requires : goal.join_others-pass-requires
join_others-pass-requires g c = new_by_home (table_of c.args.channel.share) c.args.channel.home c.args.channel.others.items c.requires

pub close-requires : goal.close-requires
close-requires g c = c.join_others-pass.ensures.table_id

pub returns : goal.returns
returns g c =
    let is = c.args.channel in
    let took = c.join_others-pass.ensures in
    let seen = c.close.ensures.whole (took_all (table_of is.share) is.home is.others.items c.join_others-pass.result c.requires took) ∙ took.seen in
    subst (λ (x : Opening × List Step). StandsClosed g.A.Channel.stands g.B.Channel.stands is.share x.0 x.1 c.close.result) (λ i. (took.base i, seen i)) c.close.ensures.channel
