use Rattle.std.proofs.Common.{[], length, refl}
use Rattle.file_channel.specs.Stands.{FileState, opened_as}
use Rattle.file_channel.proofs.Begun.{opened_opens, opened_rules, opened_stands}
use Rattle.file_channel.proofs.channel.open_channel.Goals as goal

pub returns-in-Ok-clause-stands : goal.returns-in-Ok-clause-stands
returns-in-Ok-clause-stands g c =
    let l = c.in-Ok.logged in
    let now : FileState = record { logged = l.1; tally = record { put_attempts = 0; put_successes = 0; take_attempts = 0; take_successes = 0 }; waiting = length l.1.log.bytes; checks = c.in-Ok.checks } in
    opened_stands (g.D.Disk.told c.args.disk) (g.D.Disk.told l.0) (g.D.Disk.faults c.args.disk) (g.D.Disk.faults l.0) c.args.limits now c.in-Ok.ensures.opens refl c.in-Ok.ensures.waits c.in-Ok.ensures.well c.in-Ok.ensures.settled

pub returns-in-Ok-clause-rules : goal.returns-in-Ok-clause-rules
returns-in-Ok-clause-rules g c =
    let l = c.in-Ok.logged in
    let now : FileState = record { logged = l.1; tally = record { put_attempts = 0; put_successes = 0; take_attempts = 0; take_successes = 0 }; waiting = length l.1.log.bytes; checks = c.in-Ok.checks } in
    opened_rules (g.D.Disk.told c.args.disk) (g.D.Disk.told l.0) (g.D.Disk.faults c.args.disk) (g.D.Disk.faults l.0) c.args.limits now c.in-Ok.ensures.opens

pub returns-in-Ok-clause-opens : goal.returns-in-Ok-clause-opens
returns-in-Ok-clause-opens g c =
    let l = c.in-Ok.logged in
    let now : FileState = record { logged = l.1; tally = record { put_attempts = 0; put_successes = 0; take_attempts = 0; take_successes = 0 }; waiting = length l.1.log.bytes; checks = c.in-Ok.checks } in
    opened_opens (g.D.Disk.told c.args.disk) (g.D.Disk.told l.0) (g.D.Disk.faults c.args.disk) (g.D.Disk.faults l.0) c.args.limits now c.in-Ok.ensures.opens

pub invariant_of-result : goal.invariant_of-result
invariant_of-result g c =
    let l = c.in-Ok.logged in
    let now : FileState = record { logged = l.1; tally = record { put_attempts = 0; put_successes = 0; take_attempts = 0; take_successes = 0 }; waiting = length l.1.log.bytes; checks = c.in-Ok.checks } in
    ((opened_as (g.D.Disk.told c.args.disk) (g.D.Disk.faults c.args.disk) (g.D.Disk.told l.0) now, [], opened_stands (g.D.Disk.told c.args.disk) (g.D.Disk.told l.0) (g.D.Disk.faults c.args.disk) (g.D.Disk.faults l.0) c.args.limits now c.in-Ok.ensures.opens refl c.in-Ok.ensures.waits c.in-Ok.ensures.well c.in-Ok.ensures.settled), c.in-Ok.ensures.unused)
