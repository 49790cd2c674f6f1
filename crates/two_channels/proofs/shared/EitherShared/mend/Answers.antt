use Rattle.two_channels.proofs.Passes.{mend_later}
use Rattle.two_channels.proofs.shared.EitherShared.mend.Goals as goal

pub returns-clause-kept : goal.returns-clause-kept
returns-clause-kept g c = mend_later g.A.Channel.stands g.A.Channel.tells g.A.Channel.moment c.args.self.now c.args.pass.now c.mend_by.new.pass c.mend_by.result c.mend_by.ensures.same c.mend_by.ensures.mends
