use Rattle.std.proofs.Common.{rules, ◌≡◌, ◌≤◌, ◌+◌, ◌++◌, ◌∷◌, [], length, slice_set, Some, None, subst, sym}
use Rattle.std.specs.Vec.{vec_capacity}
use Rattle.event_core.specs.declared.journal.Entry.TheVariants.{Puts}
use Rattle.channel_face.specs.Machine.{State, put_refusal}
use Rattle.txn_core.specs.Places.{IsAt}
use Rattle.txn_core.specs.View.{state_of}
use Rattle.txn_core.proofs.Kept.{put_added}
use Rattle.txn_core.proofs.lists.ChannelLists.add_put.Goals as goal

pub invariant_of-self-2 : goal.invariant_of-self-2
invariant_of-self-2 c =
    let m = c.self.inside in
    let s : State = state_of m in
    let number = c.requires.0 in
    let events = c.requires.1 in
    let both : IsAt s.opened number c.args.place (Puts events) × (put_refusal s (Some events) c.args.event ≡ None) =
    subst (λ (v : State). IsAt v.opened number c.args.place (Puts events) × (put_refusal v (Some events) c.args.event ≡ None)) (sym c.self.view_is) (c.requires.2, c.requires.3) in
    let pushed : c.push_put_at.new.opened.items ≡ slice_set m.opened.items c.args.place (number, Puts (events ++ c.args.event ∷ [])) = let i = both.0.item in search rules in
    let room : length m.items.items + (m.open_puts + m.staged_puts + 1) ≤ vec_capacity c.reserve.new.self = search rules in
    rw (pushed, c.reserve.ensures.items) (put_added s number c.args.place events c.args.event m.open_puts m.staged_puts (vec_capacity m.items) (vec_capacity m.staged) (vec_capacity c.reserve.new.self) m.free_from c.self.invariant both.0 both.1 room)
