use Rattle.std.proofs.Common.{◌≡◌, List, sym, ◌∙◌, ap, drop, Some, slice_get, true}
use Rattle.std.proofs.lemmas.List.{drop-drop}
use Rattle.circular_buffer.specs.Buffer.{Buffer}
use Rattle.event_ring.specs.declared.index.Slot.{Slot}
use Rattle.event_ring.specs.Slots.{is_gone, live_of}
use Rattle.event_ring.proofs.Ringing.{first_gap}
use Rattle.event_ring.proofs.index.drop_gaps.Goals as goal

pub loop-dropped-preserved : goal.loop-dropped-preserved
loop-dropped-preserved c =
    let here : slice_get c.loop-dropped.slots.items 0 ≡ Some c.in-Some.slot.now = sym c.in-Some.ensures in
    let gone : is_gone c.in-Some.slot.now.state ≡ true = sym c.is_gap.ensures ∙ c.if-not-is_gap.false in
    record {
      rest = ap (λ (b : Buffer Slot). b.items) c.pop_front-gone.ensures.items ∙ (ap (λ (l : List Slot). drop 1 l) c.loop-dropped.invariant.rest ∙ drop-drop 1 c.loop-dropped.dropped c.args.slots.now.items);
      room = ap (λ (b : Buffer Slot). b.capacity) c.pop_front-gone.ensures.items ∙ c.loop-dropped.invariant.room;
      live = ap (λ (b : Buffer Slot). live_of b.items) c.pop_front-gone.ensures.items ∙ (first_gap c.loop-dropped.slots.items c.in-Some.slot.now here gone ∙ c.loop-dropped.invariant.live);
    }
