use Rattle.channel_log.proofs.Contents.{one-content}
use Rattle.channel_log.proofs.laws.one_content.Goals as goal

pub returns : goal.returns
returns c = one-content
