use Rattle.std.proofs.Common.{◌<◌, All, take}
use Rattle.source_tests.proofs.setup.pairs_are_below.Given as goal

abbrev pub invariant-loop-pair : goal.invariant-loop-pair
invariant-loop-pair l = All (λ pair. All (λ place. place < l.count) pair.1.items) (take l.pair-index l.pairs)
