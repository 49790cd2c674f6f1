use Rattle.std.proofs.Common.{◌≡◌, ◌+◌, ℕ, suc, subst, arith}
use Rattle.grouped_sinks.specs.Rows.{IsOfGroup, JoinedBy, has_sinks, places_where}
use Rattle.grouped_sinks.proofs.Placing.{joined_more}
use Rattle.grouped_sinks.proofs.row.add_groups.Goals as goal

pub loop-at-preserved : goal.loop-at-preserved
loop-at-preserved c =
    let next : suc c.loop-at.at ≡ c.loop-at.at + 1 = omega arith in
    subst (λ (n : ℕ). JoinedBy (IsOfGroup c.args.sinks.now c.args.groups.now) (places_where (has_sinks c.args.groups.now) n) c.args.rows.now.items c.add_group.new.rows.items) next
    (joined_more (IsOfGroup c.args.sinks.now c.args.groups.now) (has_sinks c.args.groups.now) c.loop-at.at c.args.rows.now.items c.loop-at.rows.items c.add_group.new.rows.items
    c.loop-at.invariant c.in_ok-add_group.ensures)
