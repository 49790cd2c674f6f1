use Rattle.std.proofs.Common.{◌<◌, ◌≤◌, ◌+◌, ◌-◌, ◌^◌, ◌∙◌, sym, arith}
use Rattle.event_ring.specs.Slots.{least_above}
use Rattle.checkpoint.proofs.Laying.{passes_on}
use Rattle.checkpoint.proofs.Listing.{next_above}
use Rattle.checkpoint.proofs.Spooling.{begun_on, live_begun, live_done, live_step}
use Rattle.checkpoint.proofs.writing.add_live.Goals as goal

pub loop-event-init : goal.loop-event-init
loop-event-init g c = record {
  so_far = c.add_count.ensures.any_moment;
  room = c.add_count.ensures.room;
  later = c.in_ok-place.ensures.cause.well;
  live = live_begun c.args.number _ _ _ _ c.in_ok-place.ensures.added (λ few. c.spelled_count.ensures (omega (arith, few, c.len.ensures)) ∙ c.len.ensures);
}

pub add_one-requires-clause-begun : goal.add_one-requires-clause-begun
add_one-requires-clause-begun g c = begun_on c.args.number _ _ _ _ c.loop-event.invariant.so_far c.loop-event.invariant.live.adds c.requires.begun

pub returns-in_err-place-2-clause-any_moment : goal.returns-in_err-place-2-clause-any_moment
returns-in_err-place-2-clause-any_moment g c = passes_on c.args.number 0 0 0 _ _ _ (omega arith) c.loop-event.invariant.so_far c.add_one.ensures.any_moment

pub loop-event-smaller : goal.loop-event-smaller
loop-event-smaller g c =
    let above : least_above c.loop-event.after ≤ c.in-Some.event = next_above (least_above c.loop-event.after) c.in-Some.event c.in-Some.pointer c.args.ring.now.live (sym c.next_live.ensures ∙ c.in-Some.is) in
    let smaller : 2 ^ 64 - (c.in-Some.event + 1) < 2 ^ 64 - least_above c.loop-event.after = omega (arith, above, c.add_one.ensures.fits) in
    smaller

pub loop-event-preserved : goal.loop-event-preserved
loop-event-preserved g c = record {
  so_far = passes_on c.args.number 0 0 0 _ _ _ (omega arith) c.loop-event.invariant.so_far c.add_one.ensures.any_moment;
  room = omega (arith, c.loop-event.invariant.room, c.add_one.ensures.room);
  later = c.in_ok-place-2.ensures.cause.well ∙ c.loop-event.invariant.later;
  live = live_step c.args.number c.in-Some.event c.in-Some.pointer _ _ _ _ c.loop-event.after c.loop-event.invariant.live (sym c.next_live.ensures ∙ c.in-Some.is) c.in_ok-place-2.ensures.added;
}

pub returns-clause-begun : goal.returns-clause-begun
returns-clause-begun g c = begun_on c.args.number _ _ _ _ c.loop-event.invariant.so_far c.loop-event.invariant.live.adds c.requires.begun

pub returns-clause-added : goal.returns-clause-added
returns-clause-added g c = live_done c.args.number _ _ _ c.loop-event.after c.loop-event.invariant.live (sym c.next_live.ensures ∙ c.in_default.is)
