use Rattle.agent_channels.proofs.InOrder.{closed_fit, left_fits}
use Rattle.agent_channels.proofs.laws.closed_channels_fit.Goals as goal

pub returns-clause-left : goal.returns-clause-left
returns-clause-left g c = left_fits g.A.Channel.stands g.A.Channel.tells g.B.Channel.stands g.B.Channel.tells

pub returns-clause-fit : goal.returns-clause-fit
returns-clause-fit g c = closed_fit
