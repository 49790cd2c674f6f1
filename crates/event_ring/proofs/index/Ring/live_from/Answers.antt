use Rattle.std.proofs.Common.{sym, ◌∙◌, ap, arith}
use Rattle.event_ring.specs.Slots.{Index, next_from}
use Rattle.event_ring.proofs.Ringing.{next_at, none_at}
use Rattle.event_ring.proofs.index.Ring.live_from.Goals as goal

pub returns-then-place-len : goal.returns-then-place-len
returns-then-place-len c =
    sym (none_at c.self.inside.slots.items c.args.low c.place_of.result c.live_place-place.result c.place_of.ensures c.live_place-place.ensures.gaps (omega arith))
    ∙ ap (λ (i : Index). next_from c.args.low i.live) c.self.view_is

pub returns : goal.returns
returns c =
    sym (next_at c.self.inside.slots.items c.args.low c.place_of.result c.live_place-place.result c.read-slot.result c.place_of.ensures c.live_place-place.ensures.gaps c.live_place-place.ensures.behind c.read-slot.ensures (c.live_place-place.ensures.live c.read-slot.result c.read-slot.ensures))
    ∙ ap (λ (i : Index). next_from c.args.low i.live) c.self.view_is
