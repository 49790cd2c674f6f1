use Rattle.agent_commands.proofs.Outcomes.{refused}
use Rattle.agent_commands.proofs.pipe.pipe_on.Goals as goal

pub pipe_through-requires-clause-stands : goal.pipe_through-requires-clause-stands
pipe_through-requires-clause-stands g c κs within = rw c.of-before.ensures c.in-Ok.ensures.stands

pub pipe_through-requires-clause-begins : goal.pipe_through-requires-clause-begins
pipe_through-requires-clause-begins g c κs within = rw c.of-before.ensures c.in-Ok.ensures.begins

pub returns-in-Err-clause-piped : goal.returns-in-Err-clause-piped
returns-in-Err-clause-piped g c =
    rw c.unopened.ensures (refused (g.H.Host.state c.args.host.now) (g.H.Disk.Disk.told c.args.disk) (g.H.Disk.Disk.told c.in-Err.field-0.disk) (g.H.Disk.Disk.faults c.args.disk) (g.H.Disk.Disk.faults c.in-Err.field-0.disk) c.in-Err.field-0.cause c.in-Err.ensures.refused c.in-Err.ensures.settled)
