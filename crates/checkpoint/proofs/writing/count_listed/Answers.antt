use Rattle.std.proofs.Common.{◌<◌, ◌≤◌, ◌+◌, ◌-◌, ◌^◌, ◌∙◌, ℕ, Option, None, Some, subst, arith}
use Rattle.event_ring.specs.Slots.{least_above}
use Rattle.open_table.specs.Tables.{IsNext}
use Rattle.checkpoint.proofs.Listing.{counts_begun, counts_done, counts_step, next_beyond, none_opened, unopened}
use Rattle.checkpoint.proofs.writing.count_listed.Goals as goal

pub loop-txn-init : goal.loop-txn-init
loop-txn-init g c = record { counted = counts_begun (g.I.Item.listed c.args.table.now) }

pub loop-txn-smaller : goal.loop-txn-smaller
loop-txn-smaller g c =
    let next : IsNext c.args.table.now c.loop-txn.after (Some c.in-Some.txn) = subst (λ (o : Option ℕ). IsNext c.args.table.now c.loop-txn.after o) c.in-Some.is c.next_txn.ensures in
    let above : least_above c.loop-txn.after ≤ c.in-Some.txn = next_beyond c.args.table.now c.loop-txn.after c.in-Some.txn next in
    let smaller : 2 ^ 64 - (c.in-Some.txn + 1) < 2 ^ 64 - least_above c.loop-txn.after = omega (arith, above, c.lists_nothing.ensures.fits) in
    smaller

pub loop-txn-preserved : goal.loop-txn-preserved
loop-txn-preserved g c =
    let next : IsNext c.args.table.now c.loop-txn.after (Some c.in-Some.txn) = subst (λ (o : Option ℕ). IsNext c.args.table.now c.loop-txn.after o) c.in-Some.is c.next_txn.ensures in
    record {
      counted = counts_step (g.I.Item.listed c.args.table.now) c.loop-txn.count c.counted_up-count.result c.in-Some.txn c.loop-txn.after c.loop-txn.invariant.counted (next_beyond c.args.table.now c.loop-txn.after c.in-Some.txn next)
          (λ t above below. g.I.Item.none_of_closed c.args.table.now t (unopened c.args.table.now c.loop-txn.after c.in-Some.txn t next above below))
          (λ none. c.counted_up-count.ensures.same (c.lists_nothing.ensures.nothing ∙ none))
          (λ some. c.counted_up-count.ensures.more (c.lists_nothing.ensures.nothing ∙ some));
    }

pub returns : goal.returns
returns g c =
    let none : IsNext c.args.table.now c.loop-txn.after None = subst (λ (o : Option ℕ). IsNext c.args.table.now c.loop-txn.after o) c.in_default.is c.next_txn.ensures in
    counts_done (g.I.Item.listed c.args.table.now) c.loop-txn.count c.loop-txn.after c.loop-txn.invariant.counted (λ t above. g.I.Item.none_of_closed c.args.table.now t (none_opened c.args.table.now c.loop-txn.after t none above))
