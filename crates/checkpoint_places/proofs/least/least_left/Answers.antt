use Rattle.std.proofs.Common.{◌<◌, ◌≤◌, ◌+◌, ◌-◌, ◌^◌, ◌∙◌, Some, sym, subst, ℕ, arith}
use Rattle.event_ring.specs.Slots.{least_above}
use Rattle.checkpoint.proofs.Listing.{next_above}
use Rattle.checkpoint_places.proofs.Lowest.{LeftSoFar, left_begun, left_done, left_step}
use Rattle.checkpoint_places.proofs.least.least_left.Goals as goal

pub loop-event-init : goal.loop-event-init
loop-event-init c = record { so_far = left_begun c.args.most c.args.ring.now.live }

pub loop-event-preserved : goal.loop-event-preserved
loop-event-preserved c = record { so_far = subst (λ (n : ℕ). LeftSoFar n c.args.most c.args.ring.now.live (Some c.in-Some.event)) (sym c.least_one-least.ensures.least) (left_step c.loop-event.least c.args.most c.in-Some.event c.in-Some.pointer c.args.ring.now.live c.loop-event.after c.loop-event.invariant.so_far (sym c.next_live.ensures ∙ c.in-Some.is)) }

pub returns-clause-each : goal.returns-clause-each
returns-clause-each c = left_done c.loop-event.least c.args.most c.args.ring.now.live c.loop-event.after c.loop-event.invariant.so_far (sym c.next_live.ensures ∙ c.in_default.is)

pub returns-clause-least : goal.returns-clause-least
returns-clause-least c = c.loop-event.invariant.so_far.greatest

pub returns-clause-below : goal.returns-clause-below
returns-clause-below c = c.loop-event.invariant.so_far.below

pub loop-event-smaller : goal.loop-event-smaller
loop-event-smaller c =
    let above : least_above c.loop-event.after ≤ c.in-Some.event = next_above (least_above c.loop-event.after) c.in-Some.event c.in-Some.pointer c.args.ring.now.live (sym c.next_live.ensures ∙ c.in-Some.is) in
    let smaller : 2 ^ 64 - (c.in-Some.event + 1) < 2 ^ 64 - least_above c.loop-event.after = omega (arith, above, c.least_one-least.ensures.fits) in
    smaller
