use Rattle.std.proofs.Common.{sym, refl}
use Rattle.shared_tests.proofs.in_memory.in_memory.Goals as goal

pub share_in_memory-requires : goal.share_in_memory-requires
share_in_memory-requires c = ((tt, sym (c.in-Ok.ensures.state 0 0), refl), sym c.in-Ok.ensures.tally)
