use Rattle.std.proofs.Common.{◌≡◌, ap, sym, ◌∙◌, subst, length, arith}
use Rattle.circular_buffer.specs.Buffer.{Buffer}
use Rattle.event_ring.specs.declared.index.Slot.{Slot}
use Rattle.event_ring.specs.Slots.{Rises, closed, live_of}
use Rattle.event_ring.proofs.Ringing.{length_closed, live_closed, rises_closed}
use Rattle.event_ring.proofs.index.make_room.Goals as goal

pub returns-clause-live : goal.returns-clause-live
returns-clause-live c = ap (λ (b : Buffer Slot). live_of b.items) c.close_up.ensures ∙ live_closed c.args.slots.now.items

pub returns-clause-rises : goal.returns-clause-rises
returns-clause-rises c low top rises = subst (λ (b : Buffer Slot). Rises low b.items top) (sym c.close_up.ensures) (rises_closed low c.args.slots.now.items top rises)

pub returns-clause-room : goal.returns-clause-room
returns-clause-room c less =
    let long : length c.close_up.new.slots.items ≡ length (closed c.args.slots.now.items) = ap (λ (b : Buffer Slot). length b.items) c.close_up.ensures in
    let room : c.close_up.new.slots.capacity ≡ c.args.slots.now.capacity = ap (λ (b : Buffer Slot). b.capacity) c.close_up.ensures in
    omega (arith, long, room, length_closed c.args.slots.now.items, less)
