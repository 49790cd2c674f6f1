use Rattle.std.proofs.Common.{IfSome}
use Rattle.flume_host.specs.Folder.{IsAbove}
use Rattle.host_real.proofs.disk.least_above.Given as goal

abbrev pub invariant-loop-entry : goal.invariant-loop-entry
invariant-loop-entry l = IfSome l.best (λ n. IsAbove l.after n)
