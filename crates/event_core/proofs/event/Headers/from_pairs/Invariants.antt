use Rattle.std.proofs.Common.{take}
use Rattle.event_core.specs.Texts.{pairs_bytes}
use Rattle.event_core.proofs.PairLemmas.{HoldsPairs}
use Rattle.event_core.proofs.event.Headers.from_pairs.Given as goal

abbrev pub invariant-loop-pair : goal.invariant-loop-pair
invariant-loop-pair l = HoldsPairs (pairs_bytes (take l.pair-index l.pairs)) l.headers
