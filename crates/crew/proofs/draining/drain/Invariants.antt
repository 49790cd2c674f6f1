use Rattle.std.proofs.Common.{◌≡◌, ◌≤◌, ◌-◌, ℕ, List, length}
use Rattle.std.specs.Io.KnownBytes.{Consumes}
use Rattle.crew.proofs.draining.drain.Given as goal

abbrev pub invariant-loop-taken : goal.invariant-loop-taken
invariant-loop-taken g l = record {
  most : l.taken ≤ 1099511627776;
  faults : g.S.Source.faults l.input ≡ g.S.Source.faults l.initial.input;
  read : (bytes : List ℕ) × Consumes (g.S.Source.left l.initial.input) (g.S.Source.left l.input) bytes × (length bytes ≡ l.taken);
}

abbrev pub decreases-loop-taken : goal.decreases-loop-taken
decreases-loop-taken g l = 1099511627776 - l.taken
