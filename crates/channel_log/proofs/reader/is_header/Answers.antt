use Rattle.std.proofs.Common.{take, ap, ◌∙◌, rules}
use Rattle.channel_log.proofs.Begins.{take_header}
use Rattle.channel_log.proofs.reader.is_header.Goals as goal

pub returns : goal.returns
returns c = let front = ap (take 16) c.header_of-header.ensures ∙ take_header c.args.birth c.args.number in let e = rw front at c.eq.ensures in search rules
