use Rattle.std.proofs.Common.{subst}
use Rattle.event_core.specs.Content.{AreHeaders}
use Rattle.event_core.proofs.HeaderLemmas.{AreHeaders-pairs}
use Rattle.event_core.proofs.event.Headers.size.Goals as goal

pub returns-clause-well_formed : goal.returns-clause-well_formed
returns-clause-well_formed c = subst AreHeaders c.self.view_is (AreHeaders-pairs c.self.inside.entries.entries c.len-len.ensures.ordered)
