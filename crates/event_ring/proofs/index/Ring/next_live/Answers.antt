use Rattle.std.proofs.Common.{ℕ, Option, sym, ◌∙◌, ap, ◌+◌, arith}
use Rattle.event_ring.specs.Slots.{Index, least_above, next_from}
use Rattle.event_ring.proofs.Ringing.{none_above}
use Rattle.event_ring.proofs.index.Ring.next_live.Goals as goal

pub returns-in-Some-2 : goal.returns-in-Some-2
returns-in-Some-2 c =
    sym (none_above c.self.inside.slots.items (c.in-Some.number + 1) c.self.inside.top c.self.invariant.rises (omega (arith, c.if-number-self.false)))
    ∙ (ap (λ (i : Index). next_from (c.in-Some.number + 1) i.live) c.self.view_is
    ∙ ap (λ (a : Option ℕ). next_from (least_above a) c.args.self.now.live) (sym c.in-Some.is))
