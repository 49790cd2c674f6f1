use Rattle.channel_laying.proofs.Pruned.{pruned_logged, pruned_moments}
use Rattle.channel_laying.proofs.pruning.prune_log.Goals as goal

pub returns-clause-any_moment : goal.returns-clause-any_moment
returns-clause-any_moment g c = λ s log still.
    pruned_moments (g.D.Disk.told c.args.writing.now.disk) (g.D.Disk.told c.prune.new.disk) c.args.writing.now.log c.args.writing.now.busy s c.args.least c.args.laid (g.met.D.Disk.reads_are_left c.args.writing.now.disk) c.prune.ensures.kept c.requires.low c.requires.needs log still

pub returns-clause-logged : goal.returns-clause-logged
returns-clause-logged g c = λ s log.
    pruned_logged (g.D.Disk.told c.args.writing.now.disk) (g.D.Disk.told c.prune.new.disk) c.args.writing.now.log c.args.writing.now.busy s c.args.least c.args.laid (g.met.D.Disk.reads_are_left c.args.writing.now.disk) c.prune.ensures.kept c.requires.low c.requires.needs log
