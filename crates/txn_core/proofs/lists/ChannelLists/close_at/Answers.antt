use Rattle.std.proofs.Common.{◌≡◌, ◌∙◌, ◌≤◌, ◌-◌, ℕ, arith, subst, sym, ap, refl}
use Rattle.std.specs.Vec.{vec_capacity}
use Rattle.event_core.specs.declared.journal.Entry.{Entry}
use Rattle.channel_face.specs.Machine.{State}
use Rattle.txn_core.specs.Places.{IsAt}
use Rattle.txn_core.specs.View.{state_of}
use Rattle.txn_core.proofs.Counts.{size_put}
use Rattle.txn_core.proofs.Kept.{closed, puts_within}
use Rattle.txn_core.proofs.lists.ChannelLists.close_at.Goals as goal

pub overflow_sub-self : goal.overflow_sub-self
overflow_sub-self c =
    let m = c.self.inside in
    let s : State = state_of m in
    let number = c.requires.0 in
    let entry = c.requires.1 in
    let at : IsAt s.opened number c.args.place entry = subst (λ (v : State). IsAt v.opened number c.args.place entry) (sym c.self.view_is) c.requires.2 in
    let is : c.remove_at-entry.result ≡ (number, entry) = c.remove_at-entry.ensures.item (number, entry) at.item in
    rw (c.put_count.ensures, is) (puts_within s number c.args.place entry m.open_puts m.staged_puts (vec_capacity m.items) (vec_capacity m.staged) m.free_from c.self.invariant at)

pub invariant_of-self : goal.invariant_of-self
invariant_of-self c =
    let m = c.self.inside in
    let s : State = state_of m in
    let number = c.requires.0 in
    let entry = c.requires.1 in
    let at : IsAt s.opened number c.args.place entry = subst (λ (v : State). IsAt v.opened number c.args.place entry) (sym c.self.view_is) c.requires.2 in
    let is : c.remove_at-entry.result ≡ (number, entry) = c.remove_at-entry.ensures.item (number, entry) at.item in
    let fits : size_put entry ≤ m.open_puts = puts_within s number c.args.place entry m.open_puts m.staged_puts (vec_capacity m.items) (vec_capacity m.staged) m.free_from c.self.invariant at in
    let count : c.put_count.result ≡ size_put entry = c.put_count.ensures ∙ ap (λ (o : ℕ × Entry). size_put o.1) is in
    rw (c.remove_at-entry.ensures.rest, count) (closed s number c.args.place entry m.open_puts (m.open_puts - size_put entry) m.staged_puts (vec_capacity m.items) (vec_capacity m.staged) m.free_from 0 c.self.invariant at (omega (arith, fits)) refl)
