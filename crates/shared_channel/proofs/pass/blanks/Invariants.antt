use Rattle.std.proofs.Common.{length, ◌-◌, ◌≤◌}
use Rattle.std.specs.Prelude.{All}
use Rattle.shared_channel.specs.Passes.{IsBlank}
use Rattle.shared_channel.proofs.pass.blanks.Given as goal

abbrev pub decreases-loop-alloc : goal.decreases-loop-alloc
decreases-loop-alloc l = l.passes - length l.all.items

abbrev pub invariant-loop-alloc : goal.invariant-loop-alloc
invariant-loop-alloc l = All (λ m. IsBlank l.passes m.items) l.all.items × (length l.all.items ≤ l.passes)
