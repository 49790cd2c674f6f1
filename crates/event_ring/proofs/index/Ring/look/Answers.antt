use Rattle.std.proofs.Common.{sym, ◌∙◌, ap, arith}
use Rattle.event_ring.specs.Slots.{Index, look_at}
use Rattle.event_ring.proofs.Ringing.{look_seen}
use Rattle.event_ring.proofs.index.Ring.look.Goals as goal
use Rattle.event_ring.proofs.index.Ring.look.Goals.{then-slot-number-via-then-slot-number, then-slot-number-via-else-slot-number+then-is_gap}

pub returns-then-place-len : goal.returns-then-place-len
returns-then-place-len c =
    let seen = look_seen 0 c.args.number c.self.inside.slots.items c.self.inside.top c.place_of-place.result c.self.invariant.rises c.place_of-place.ensures in
    sym (seen.end (omega arith)) ∙ ap (λ (i : Index). look_at c.args.number i.live) c.self.view_is

pub returns-then-slot-number : goal.returns-then-slot-number
returns-then-slot-number c =
    let seen = look_seen 0 c.args.number c.self.inside.slots.items c.self.inside.top c.place_of-place.result c.self.invariant.rises c.place_of-place.ensures in
    elim c.then-slot-number.branch [
      | then-slot-number-via-then-slot-number w ↦ sym (seen.other c.read-slot.result c.read-slot.ensures w.if-slot-number.true) ∙ ap (λ (i : Index). look_at c.args.number i.live) c.self.view_is
      | then-slot-number-via-else-slot-number+then-is_gap w ↦ sym (seen.gap c.read-slot.result c.read-slot.ensures w.if-slot-number.false (sym w.is_gap.ensures ∙ w.if-is_gap.true)) ∙ ap (λ (i : Index). look_at c.args.number i.live) c.self.view_is
    ]

pub returns : goal.returns
returns c =
    let seen = look_seen 0 c.args.number c.self.inside.slots.items c.self.inside.top c.place_of-place.result c.self.invariant.rises c.place_of-place.ensures in
    rw c.is_held.ensures (sym (seen.some c.read-slot.result c.read-slot.ensures c.if-slot-number.false (sym c.is_gap.ensures ∙ c.if-is_gap.false)) ∙ ap (λ (i : Index). look_at c.args.number i.live) c.self.view_is)
