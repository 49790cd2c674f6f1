use Rattle.std.proofs.Common.{rules}
use Rattle.event_core.specs.Numbers.{u16_bytes, u32_bytes}
use Rattle.channel_log.specs.Frames.{header}
use Rattle.channel_log.proofs.writer.header_of.Goals as goal

pub returns : goal.returns
unfolding header u16_bytes u32_bytes
returns c = search rules
