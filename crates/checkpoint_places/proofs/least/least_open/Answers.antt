use Rattle.std.proofs.Common.{◌<◌, ◌≤◌, ◌+◌, ◌-◌, ◌^◌, ℕ, Option, None, Some, subst, arith}
use Rattle.event_ring.specs.Slots.{least_above}
use Rattle.open_table.specs.Tables.{IsNext}
use Rattle.checkpoint.proofs.Listing.{next_beyond}
use Rattle.checkpoint_places.proofs.Lowest.{open_begun, open_done, open_step}
use Rattle.checkpoint_places.proofs.least.least_open.Goals as goal

pub loop-txn-init : goal.loop-txn-init
loop-txn-init c = record { so_far = open_begun c.args.most c.args.table.now }

pub loop-txn-smaller : goal.loop-txn-smaller
loop-txn-smaller c =
    let next : IsNext c.args.table.now c.loop-txn.after (Some c.in-Some.txn) = subst (λ (o : Option ℕ). IsNext c.args.table.now c.loop-txn.after o) c.in-Some.is c.next_txn.ensures in
    let above : least_above c.loop-txn.after ≤ c.in-Some.txn = next_beyond c.args.table.now c.loop-txn.after c.in-Some.txn next in
    let smaller : 2 ^ 64 - (c.in-Some.txn + 1) < 2 ^ 64 - least_above c.loop-txn.after = omega (arith, above, c.least_put-least.ensures.fits) in
    smaller

pub loop-txn-preserved : goal.loop-txn-preserved
loop-txn-preserved c =
    let next : IsNext c.args.table.now c.loop-txn.after (Some c.in-Some.txn) = subst (λ (o : Option ℕ). IsNext c.args.table.now c.loop-txn.after o) c.in-Some.is c.next_txn.ensures in
    record { so_far = open_step c.loop-txn.least c.least_put-least.result c.args.most c.in-Some.txn c.args.table.now c.loop-txn.after c.loop-txn.invariant.so_far next c.least_put-least.ensures.below c.least_put-least.ensures.each c.least_put-least.ensures.least }

pub returns-clause-each : goal.returns-clause-each
returns-clause-each c =
    let none : IsNext c.args.table.now c.loop-txn.after None = subst (λ (o : Option ℕ). IsNext c.args.table.now c.loop-txn.after o) c.in_default.is c.next_txn.ensures in
    open_done c.loop-txn.least c.args.most c.args.table.now c.loop-txn.after c.loop-txn.invariant.so_far none

pub returns-clause-least : goal.returns-clause-least
returns-clause-least c = c.loop-txn.invariant.so_far.greatest

pub returns-clause-below : goal.returns-clause-below
returns-clause-below c = c.loop-txn.invariant.so_far.below
