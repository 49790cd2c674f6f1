use Rattle.std.proofs.Common.{rules, ◌≡◌, ◌≤◌, ◌+◌, ◌++◌, ◌∷◌, [], length, None, arith, subst, sym}
use Rattle.std.specs.Vec.{vec_capacity}
use Rattle.channel_face.specs.Machine.{State, begin_refusal}
use Rattle.txn_core.specs.View.{state_of}
use Rattle.txn_core.proofs.Kept.{begun, length-entries}
use Rattle.txn_core.proofs.lists.ChannelLists.add_open.Goals as goal

pub invariant_of-self-2 : goal.invariant_of-self-2
invariant_of-self-2 c =
    let m = c.self.inside in
    let s : State = state_of m in
    let allowed : begin_refusal s ≡ None = subst (λ (v : State). begin_refusal v ≡ None) (sym c.self.view_is) c.requires.allowed in
    let pushed : c.push.new.self.items ≡ m.opened.items ++ c.args.begun ∷ [] = search rules in
    let free : length m.staged.items + (length m.opened.items + 1) ≤ vec_capacity c.reserve.new.self = search rules in
    let room : length s.staged + (length m.opened.items + 1) ≤ vec_capacity c.reserve.new.self = omega (arith, free, length-entries m.staged.items) in
    rw (pushed, c.reserve.ensures.items) (begun s c.args.begun m.open_puts m.staged_puts (vec_capacity m.items) (vec_capacity m.staged) (vec_capacity c.reserve.new.self) m.free_from c.self.invariant allowed c.requires.empty room)
