use Rattle.std.proofs.Common.{◌≡◌, ◌∙◌, ℕ, sym, ap, subst, nat_cmp}
use Rattle.std.specs.declared.ops.Bound.{Bound}
use Rattle.std.specs.declared.ops.Bound.TheVariants.{Unbounded}
use Rattle.std.specs.BTreeMap.Range.{IsRangeOf}
use Rattle.open_table.proofs.Orders.{start_of}
use Rattle.open_table.proofs.Maps.{first, none_above}
use Rattle.open_table.proofs.table.OpenTable.next_txn.Goals as goal
use Rattle.open_table.proofs.table.OpenTable.next_txn.Goals.{in-Some, in-None}

pub returns-in-Some-next : goal.returns-in-Some-next
returns-in-Some-next c =
    let starts : c.match-after.start ≡ start_of c.args.after = elim c.match-after.branch [ in-Some w ↦ w.start-is ∙ ap start_of (sym w.in-Some.is) | in-None w ↦ w.start-is ∙ ap start_of (sym w.in-None.is) ] in
    let range = subst (λ (b : Bound ℕ). IsRangeOf nat_cmp b Unbounded c.self.inside.opened c.range.result) starts (c.range.ensures.in_range tt) in
    first c.args.after c.self.inside.opened _ _ _ c.range.result c.next.new.self c.self.view_is c.in-Some-next.ensures.steps range

pub returns-in-None-next : goal.returns-in-None-next
returns-in-None-next c =
    let starts : c.match-after.start ≡ start_of c.args.after = elim c.match-after.branch [ in-Some w ↦ w.start-is ∙ ap start_of (sym w.in-Some.is) | in-None w ↦ w.start-is ∙ ap start_of (sym w.in-None.is) ] in
    let range = subst (λ (b : Bound ℕ). IsRangeOf nat_cmp b Unbounded c.self.inside.opened c.range.result) starts (c.range.ensures.in_range tt) in
    none_above c.args.after c.self.inside.opened _ c.range.result c.self.view_is c.in-None-next.ensures.steps.0 range
