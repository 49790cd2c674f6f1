use Rattle.file_channel.proofs.Kept.{has_laid}
use Rattle.file_channel.proofs.mending.FileChannelDurable.checkpoint.Goals as goal

pub returns-clause-laid : goal.returns-clause-laid
returns-clause-laid g c = λ start h stands. has_laid (g.D.Disk.told c.checkpoint.new.self.0) c.args.self.now.1.checks.next c.checkpoint.result _ (c.checkpoint.ensures.laid start h stands)
