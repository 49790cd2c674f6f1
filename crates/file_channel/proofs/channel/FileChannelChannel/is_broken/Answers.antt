use Rattle.std.proofs.Common.{◌≡◌, length}
use Rattle.txn_core.specs.Counted.{tally_of}
use Rattle.file_channel.specs.Stands.{FileState}
use Rattle.file_channel.proofs.Standing.{shows_each}
use Rattle.file_channel.proofs.channel.FileChannelChannel.is_broken.Goals as goal

pub returns : goal.returns
returns g c =
    let m = c.self.inside in
    let old : FileState = record { logged = m.logged.1; tally = tally_of m.counts; waiting = length m.logged.1.log.bytes; checks = m.checks } in
    rw (← c.self.view_is) (shows_each (g.D.Disk.told m.logged.0) (g.D.Disk.faults m.logged.0) old (λ s. c.is_broken.result ≡ s.broken) c.is_broken.ensures)
