use Rattle.std.proofs.Common.{◌≡◌, length, ◌-◌, ◌≤◌, []}
use Rattle.std.specs.Prelude.{All}
use Rattle.std.specs.Vec.{vec_capacity}
use Rattle.channel_lock.specs.Views.{dealer_of}
use Rattle.shared_channel.specs.Passes.{new_passes, IsBlank}
use Rattle.shared_channel.proofs.shared.Shared.deal_all.Given as goal

abbrev pub decreases-loop-i : goal.decreases-loop-i
decreases-loop-i g l = l.passes - l.i

abbrev pub invariant-loop-i : goal.invariant-loop-i
invariant-loop-i g l =
    (l.i ≤ l.passes) × (l.dealer.table_id ≡ l.initial.dealer.table_id) × (l.dealer.me ≡ (dealer_of g.start l.passes l.i, [])) × (l.passes ≤ vec_capacity l.list) × (length l.list.items ≡ l.i)
    × All (λ m. IsBlank l.passes m.items) l.marks.items × (length l.marks.items ≡ l.passes - l.i) × (l.list.items ≡ new_passes l.initial.dealer.table_id g.start l.passes l.i)

abbrev pub ghost-deal : goal.ghost-deal
ghost-deal g a = g.start
