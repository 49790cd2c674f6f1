use Rattle.shared_channel.proofs.Porting.{went_later}
use Rattle.shared_channel.proofs.port.PortPutFace.put_batch.Goals as goal

pub returns-clause-kept : goal.returns-clause-kept
returns-clause-kept g c = went_later c.args.self.now.pass c.put_batch.new.pass _ c.put_batch.ensures.same c.put_batch.ensures.calls.1
