use Rattle.std.proofs.Common.{refl}
use Rattle.host_memory.proofs.Handing.{gone_out}
use Rattle.host_memory.proofs.ends.Ends.hand_out.Goals as goal

pub returns-clause-out : goal.returns-clause-out
returns-clause-out g c = λ told waits faults.
    gone_out told waits faults c.args.host.now c.args.port c.args.self.now.out.items c.push.new.self.items c.args.self.now.back.items c.reserve.new.self.items
    (record { host = c.in_ok-host.host; port = c.args.port }) c.in_ok-host.ensures.ok refl c.in_ok-push.ensures.items c.reserve.ensures.items
