use Rattle.channel_laws.proofs.Until.{counted_calls_leave}
use Rattle.channel_laws.proofs.images.counted_calls_leave.Goals as goal

pub returns : goal.returns
returns c = counted_calls_leave
