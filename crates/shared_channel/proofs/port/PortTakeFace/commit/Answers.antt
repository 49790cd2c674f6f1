use Rattle.shared_channel.proofs.Porting.{went_later}
use Rattle.shared_channel.proofs.port.PortTakeFace.commit.Goals as goal

pub returns-clause-kept : goal.returns-clause-kept
returns-clause-kept g c = went_later c.args.self.now.pass c.finish_takes.new.pass _ c.finish_takes.ensures.same c.finish_takes.ensures.calls.1
