use Rattle.std.proofs.Common.{◌≡◌, ◌∙◌, ℕ, sym, ap}
use Rattle.std.specs.Vec.{vec_capacity}
use Rattle.channel_face.specs.Machine.{State, stage, entry_of}
use Rattle.txn_core.proofs.Shadowing.{shadow_staged}
use Rattle.txn_core.proofs.machine.Machine.stage_put.Goals as goal

pub invariant_of-self : goal.invariant_of-self
invariant_of-self c =
    let m = c.self.inside in
    let s : State = m.lists.state in
    let number = c.number-number.result in
    let staged : c.stage_put.new.self.state ≡ stage number (entry_of number s.opened) s = c.in-Ok.ensures.step.moves.state ∙ ap (λ (n : ℕ). stage n (entry_of n s.opened) s) (sym c.number-number.ensures) in
    let said = c.stage_copy.ensures in
    shadow_staged s c.stage_put.new.self.state m.copies.items c.stage_copy.new.copies.items m.entries.items c.stage_copy.new.entries.items m.settled (vec_capacity m.entries) (vec_capacity c.stage_copy.new.entries) number c.self.invariant said.copies said.entries said.capacity staged
