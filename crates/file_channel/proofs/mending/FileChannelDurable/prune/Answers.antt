use Rattle.std.proofs.Common.{ap}
use Rattle.file_channel.specs.Laid.{CheckState}
use Rattle.file_channel.proofs.Kept.{pruned_by}
use Rattle.file_channel.proofs.mending.FileChannelDurable.prune.Goals as goal

pub returns-clause-gone : goal.returns-clause-gone
returns-clause-gone g c =
    let before = c.args.self.now.1.checks in
    let after = c.prune.new.self.1.checks in
    pruned_by (g.D.Disk.told c.prune.new.self.0) c.prune.result before.laid after.laid (ap (λ (k : CheckState). k.laid) c.prune.ensures.checks) c.prune.ensures.gone
