use Rattle.channel_log.proofs.Opening.{unopened}
use Rattle.channel_log.proofs.writer.LogWriter.begin.Goals as goal

pub returns-in_default-clause-any_moment : goal.returns-in_default-clause-any_moment
returns-in_default-clause-any_moment g c = unopened c.args.number _ c.requires.unused
