use Rattle.std.proofs.Common.{refl}
use Rattle.channel_face.specs.History.{Opening}
use Rattle.file_channel.specs.Stands.{opened_as}
use Rattle.agent_commands.proofs.Beginning.{began, tells_as}
use Rattle.agent_commands.proofs.Trails.{traced_at_first}
use Rattle.agent_commands.proofs.traced.open_by.Goals as goal

pub returns-in-Ok-clause-stands : goal.returns-in-Ok-clause-stands
returns-in-Ok-clause-stands g c =
    let e = rw c.default_limits.ensures at c.in-Ok.ensures in
    let is = c.in-Ok.channel in
    let told = g.D.Disk.told in
    let faults = g.D.Disk.faults in
    let start : Opening = opened_as (told c.args.disk) (faults c.args.disk) (told is.0) is.1 in
    traced_at_first (told is.0) (faults is.0) is.1 start e.stands (began (told c.args.disk) (told is.0) (faults is.0) is.1 start e.stands c.rests.ensures refl e.settled)

pub returns-in-Ok-clause-begins : goal.returns-in-Ok-clause-begins
returns-in-Ok-clause-begins g c =
    let e = rw c.default_limits.ensures at c.in-Ok.ensures in
    record { rules = e.rules; opens = e.opens; from = refl; tells = tells_as _ _ _ e.settled }
