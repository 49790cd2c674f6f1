use Rattle.std.proofs.Common.{◌≡◌, ◌∙◌, refl, ap}
use Rattle.std.specs.Vec.{vec_capacity}
use Rattle.channel_face.specs.Machine.{State, close}
use Rattle.txn_core.proofs.Shadowing.{shadow_closed}
use Rattle.txn_core.proofs.machine.Machine.rollback_take.Goals as goal

pub invariant_of-self : goal.invariant_of-self
invariant_of-self c =
    let m = c.self.inside in
    let s : State = m.lists.state in
    let number = c.number-number.result in
    let closed : c.rollback_take.new.self.state ≡ close number s = c.rollback_take.ensures.moves.state ∙ rw (c.if-rollback_take.true, c.number-number.ensures) refl in
    shadow_closed s c.rollback_take.new.self.state m.copies.items c.end_copy-gone.new.copies.items m.entries.items m.settled (vec_capacity m.entries) number c.self.invariant c.end_copy-gone.ensures.rest (ap (λ (v : State). v.opened) closed) (ap (λ (v : State). v.staged) closed)
