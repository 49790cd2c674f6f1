use Rattle.std.proofs.Common.{sym, ap, ◌∙◌}
use Rattle.event_core.specs.Content.{headers_size}
use Rattle.event_core.proofs.HeaderLemmas.{pairs_bytes-clone}
use Rattle.event_core.proofs.event.Headers.copy.Goals as goal

pub invariant_of-result : goal.invariant_of-result
invariant_of-result c =
    (c.self.invariant.0 ∙ ap headers_size (sym (pairs_bytes-clone c.self.inside.entries.entries c.in_ok-entries.entries.entries c.in_ok-entries.ensures.cases)), c.self.invariant.1)

pub returns : goal.returns
returns c = pairs_bytes-clone c.self.inside.entries.entries c.in_ok-entries.entries.entries c.in_ok-entries.ensures.cases ∙ c.self.view_is
