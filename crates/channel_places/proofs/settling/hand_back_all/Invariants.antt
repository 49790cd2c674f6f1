use Rattle.std.proofs.Common.{◌≡◌, length}
use Rattle.std.specs.Prelude.{vec_capacity}
use Rattle.channel_places.proofs.settling.hand_back_all.Given as goal

abbrev pub invariant-loop-ended : goal.invariant-loop-ended
invariant-loop-ended l = (vec_capacity l.staged ≡ vec_capacity l.fn.staged) × (l.table ≡ l.fn.table)

abbrev pub decreases-loop-ended : goal.decreases-loop-ended
decreases-loop-ended l = length l.staged.items
