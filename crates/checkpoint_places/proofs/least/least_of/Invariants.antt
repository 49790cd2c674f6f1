use Rattle.std.proofs.Common.{take}
use Rattle.checkpoint_places.proofs.Lowest.{PutsSoFar}
use Rattle.checkpoint_places.proofs.least.least_of.Given as goal

abbrev pub invariant-loop-pointer : goal.invariant-loop-pointer
invariant-loop-pointer l = record {
  so_far : PutsSoFar l.least l.most (take l.pointer-index l.puts);
}
