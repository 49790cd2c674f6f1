use Rattle.channel_writing.proofs.Checking.{same_left}
use Rattle.channel_writing.proofs.laws.starts_leave_the_same.Goals as goal

pub returns : goal.returns
returns c = same_left
