use Rattle.channel_log.proofs.Every.{some_content}
use Rattle.channel_log.proofs.laws.some_content.Goals as goal

pub returns : goal.returns
returns c = some_content
