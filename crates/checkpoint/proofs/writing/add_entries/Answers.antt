use Rattle.std.proofs.Common.{◌<◌, ◌≤◌, ◌+◌, ◌-◌, ◌^◌, ◌∙◌, ℕ, Option, None, Some, subst, arith}
use Rattle.event_ring.specs.Slots.{least_above}
use Rattle.open_table.specs.Tables.{IsNext}
use Rattle.checkpoint.proofs.Laying.{passes_on}
use Rattle.checkpoint.proofs.Listing.{next_beyond, none_opened, unopened}
use Rattle.checkpoint.proofs.Spooling.{as_listed, begun_on, entries_begun, entries_done, entries_step}
use Rattle.checkpoint.proofs.writing.add_entries.Goals as goal

pub loop-txn-init : goal.loop-txn-init
loop-txn-init g c = record {
  so_far = c.add_count.ensures.any_moment;
  room = c.add_count.ensures.room;
  later = c.in_ok-place.ensures.cause.well;
  entries = entries_begun c.args.number c.count_listed.result g.I.Item.bytes _ _ (g.I.Item.listed c.args.table.now) (begun_on c.args.number _ _ _ _ c.add_count.ensures.any_moment c.in_ok-place.ensures.added c.requires.begun)
      c.in_ok-place.ensures.added c.count_listed.ensures;
}

pub returns-in_err-place-2-clause-any_moment : goal.returns-in_err-place-2-clause-any_moment
returns-in_err-place-2-clause-any_moment g c = passes_on c.args.number 0 0 0 _ _ _ (omega arith) c.loop-txn.invariant.so_far c.add_entry.ensures.any_moment

pub loop-txn-smaller : goal.loop-txn-smaller
loop-txn-smaller g c =
    let next : IsNext c.args.table.now c.loop-txn.after (Some c.in-Some.txn) = subst (λ (o : Option ℕ). IsNext c.args.table.now c.loop-txn.after o) c.in-Some.is c.next_txn.ensures in
    let above : least_above c.loop-txn.after ≤ c.in-Some.txn = next_beyond c.args.table.now c.loop-txn.after c.in-Some.txn next in
    let smaller : 2 ^ 64 - (c.in-Some.txn + 1) < 2 ^ 64 - least_above c.loop-txn.after = omega (arith, above, c.add_entry.ensures.fits) in
    smaller

pub loop-txn-preserved : goal.loop-txn-preserved
loop-txn-preserved g c =
    let next : IsNext c.args.table.now c.loop-txn.after (Some c.in-Some.txn) = subst (λ (o : Option ℕ). IsNext c.args.table.now c.loop-txn.after o) c.in-Some.is c.next_txn.ensures in
    record {
      so_far = passes_on c.args.number 0 0 0 _ _ _ (omega arith) c.loop-txn.invariant.so_far c.add_entry.ensures.any_moment;
      room = omega (arith, c.loop-txn.invariant.room, c.add_entry.ensures.room);
      later = c.in_ok-place-2.ensures.cause.well ∙ c.loop-txn.invariant.later;
      entries = entries_step c.args.number c.in-Some.txn g.I.Item.bytes _ _ _ (g.I.Item.listed c.args.table.now) c.loop-txn.after c.loop-txn.invariant.entries (next_beyond c.args.table.now c.loop-txn.after c.in-Some.txn next)
          (λ t above below. g.I.Item.none_of_closed c.args.table.now t (unopened c.args.table.now c.loop-txn.after c.in-Some.txn t next above below)) c.in_ok-place-2.ensures.begun
          (as_listed c.args.number c.in-Some.txn _ _ g.I.Item.bytes c.of.result.now (g.I.Item.listed c.args.table.now c.in-Some.txn) c.of.ensures c.in_ok-place-2.ensures.added);
    }

pub returns-clause-added : goal.returns-clause-added
returns-clause-added g c =
    let none : IsNext c.args.table.now c.loop-txn.after None = subst (λ (o : Option ℕ). IsNext c.args.table.now c.loop-txn.after o) c.in_default.is c.next_txn.ensures in
    entries_done c.args.number g.I.Item.bytes _ _ (g.I.Item.listed c.args.table.now) c.loop-txn.after c.loop-txn.invariant.entries (λ t above. g.I.Item.none_of_closed c.args.table.now t (none_opened c.args.table.now c.loop-txn.after t none above))
