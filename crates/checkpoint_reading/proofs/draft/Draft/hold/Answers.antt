use Rattle.std.proofs.Common.{◌∙◌, ◌++◌, ◌∷◌, [], List, map, ap, subst, sym}
use Rattle.event_ring.specs.Slots.{Index, Left}
use Rattle.checkpoint.specs.Says.{live_at}
use Rattle.checkpoint_reading.specs.Opens.{HasTaken}
use Rattle.checkpoint_reading.proofs.Holding.{held_already, held_more, look_there, marked_events, none_left}
use Rattle.checkpoint_reading.proofs.draft.Draft.hold.Goals as goal

pub returns-in_default-clause-other : goal.returns-in_default-clause-other
returns-in_default-clause-other c = λ same taken behind has may. none_left c.args.number c.args.self.now.ring.live taken behind (sym c.look.ensures ∙ c.in_default.is) has may

pub returns-then-held-clause-other : goal.returns-then-held-clause-other
returns-then-held-clause-other c = λ same taken behind has may.
    held_already c.args.number c.args.self.now.ring.live c.in-Some.field-0-0 c.in-Some.held taken behind (sym c.look.ensures ∙ c.in-Some.is) c.if-held.true has may

pub mark-requires : goal.mark-requires
mark-requires c = (look_there c.args.number c.args.self.now.ring.live c.in-Some.field-0-0 c.in-Some.held (sym c.look.ensures ∙ c.in-Some.is)).0

pub returns-clause-held : goal.returns-clause-held
returns-clause-held c = λ same taken has.
    subst (λ (l : List Left). HasTaken (taken ++ c.args.number ∷ []) l) (sym (ap (λ (x : Index). x.live) c.mark.ensures))
    (held_more c.args.number c.args.self.now.ring.live c.in-Some.field-0-0 c.in-Some.held taken (sym c.look.ensures ∙ c.in-Some.is) c.if-held.false has)

pub returns-clause-events : goal.returns-clause-events
returns-clause-events c = ap (λ (x : Index). map live_at x.live) c.mark.ensures ∙ marked_events c.args.number _ c.args.self.now.ring.live
