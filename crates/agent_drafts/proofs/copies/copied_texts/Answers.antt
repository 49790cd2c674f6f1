use Rattle.std.proofs.Common.{string_bytes}
use Rattle.agent_drafts.proofs.Copying.{seen_all}
use Rattle.agent_drafts.proofs.copies.copied_texts.Goals as goal

pub returns : goal.returns
returns c = seen_all string_bytes _ _ c.in_ok-copies.ensures.ok
