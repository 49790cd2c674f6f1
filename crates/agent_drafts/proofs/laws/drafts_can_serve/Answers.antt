use Rattle.agent_drafts.proofs.Fitting.{fits_at}
use Rattle.std.proofs.Common.{length}
use Rattle.agent_drafts.proofs.laws.drafts_can_serve.Goals as goal

pub returns : goal.returns
returns g c = λ pairs agent plan planned objects names draft is.
    fits_at (length plan.channels.items) draft plan.sources.items objects names is (c.sources_name_what_is_there.ensures pairs agent plan planned) (c.numbers_are_limited.ensures pairs agent plan planned).sources
