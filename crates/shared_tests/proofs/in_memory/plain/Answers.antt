use Rattle.std.proofs.Common.{sym, refl}
use Rattle.shared_tests.proofs.in_memory.plain.Goals as goal

pub share_machine-requires : goal.share_machine-requires
share_machine-requires c = (((tt, sym (c.in-Ok.ensures.state 0 0), refl), sym c.in-Ok.ensures.tally), sym c.in-Ok.ensures.journal)
