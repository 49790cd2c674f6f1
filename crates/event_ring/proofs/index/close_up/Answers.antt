use Rattle.std.proofs.Common.{◌≡◌, ℕ, Bool, ap, ◌∙◌, refl, true, false}
use Rattle.circular_buffer.specs.Buffer.{Buffer}
use Rattle.event_ring.specs.declared.index.Slot.{Slot}
use Rattle.event_ring.specs.Slots.{is_gone}
use Rattle.event_ring.proofs.Ringing.{close_step}
use Rattle.event_ring.proofs.index.close_up.Goals as goal

room : {x y : ℕ} (b : Bool) → {gone : Bool} → gone ≡ b → (gone ≡ true → x ≡ y) → (gone ≡ false → x ≡ y) → x ≡ y
room true is at_gap at_kept = at_gap is
room false is at_gap at_kept = at_kept is

pub loop-place-preserved : goal.loop-place-preserved
loop-place-preserved c =
    let i = c.loop-place.invariant in
    let next = close_step c.args.slots.now.items c.loop-place.slots.items c.keep-to.new.slots.items c.loop-place.to c.keep-to.result c.loop-place.place c.read-slot.result
    (record { long = i.long; behind = i.behind; front = i.front; rest = i.rest }) c.read-slot.ensures
    (λ gone. let g = c.keep-to.ensures.gap gone in (ap (λ (b : Buffer Slot). b.items) g.0, g.1))
    (λ lives. let k = c.keep-to.ensures.kept lives in (ap (λ (b : Buffer Slot). b.items) k.0, k.1)) in
    record {
      long = next.long;
      room = room (is_gone c.read-slot.result.state) refl (λ gone. ap (λ (b : Buffer Slot). b.capacity) (c.keep-to.ensures.gap gone).0) (λ lives. ap (λ (b : Buffer Slot). b.capacity) (c.keep-to.ensures.kept lives).0) ∙ i.room;
      behind = next.behind;
      front = next.front;
      rest = next.rest;
    }
