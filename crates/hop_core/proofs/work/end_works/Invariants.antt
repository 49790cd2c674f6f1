use Rattle.std.proofs.Common.{◌≡◌, ◌++◌, take, drop, map}
use Rattle.hop_core.specs.Ending.{unless_from}
use Rattle.hop_core.proofs.work.end_works.Given as goal

abbrev pub invariant-loop-number : goal.invariant-loop-number
invariant-loop-number l = l.works ≡ map (unless_from l.channel l.place) (take l.number l.initial.works) ++ drop l.number l.initial.works
