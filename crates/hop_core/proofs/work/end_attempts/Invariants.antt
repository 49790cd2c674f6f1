use Rattle.std.proofs.Common.{◌≡◌, ◌++◌, take, drop, map}
use Rattle.hop_core.specs.Ending.{unless_of}
use Rattle.hop_core.proofs.work.end_attempts.Given as goal

abbrev pub invariant-loop-number : goal.invariant-loop-number
invariant-loop-number l = l.attempts ≡ map (unless_of l.channel) (take l.number l.initial.attempts) ++ drop l.number l.initial.attempts
