use Rattle.agent_drafts.proofs.Meaning.{same_keys, same_optional, same_required, same_step}
use Rattle.agent_drafts.proofs.laws.copies_do_the_same.Goals as goal

pub returns : goal.returns
returns c = record { steps = same_step; keys = same_keys; required = same_required; optional = same_optional }
