use Rattle.std.proofs.Common.{◌≡◌, ◌∙◌, ◌++◌, ◌∷◌, [], subst, sym, refl}
use Rattle.std.specs.Vec.{vec_capacity}
use Rattle.event_core.specs.declared.journal.Entry.TheVariants.{Takes}
use Rattle.channel_face.specs.Machine.{State, with_entry}
use Rattle.txn_core.specs.Places.{IsAt}
use Rattle.txn_core.specs.View.{state_of}
use Rattle.txn_core.proofs.Undone.{was_added, take_undone}
use Rattle.txn_core.proofs.lists.ChannelLists.undo_take.Goals as goal

pub pop_at-requires : goal.pop_at-requires
pop_at-requires c =
    let m = c.self.inside in
    let s : State = state_of m in
    let before = c.requires.0 in
    let number = c.requires.1 in
    let numbers = c.requires.2 in
    let taken = c.requires.3 in
    let at : IsAt before number c.args.place (Takes numbers) = c.requires.4 in
    let is : s.opened ≡ with_entry number (Takes (numbers ++ taken ∷ [])) before = subst (λ (t : State). t.opened ≡ with_entry number (Takes (numbers ++ taken ∷ [])) before) (sym c.self.view_is) c.requires.5 in
    let was = was_added before s.opened number c.args.place (Takes numbers) (Takes (numbers ++ taken ∷ [])) at is in
    was.in_range

pub invariant_of-self : goal.invariant_of-self
invariant_of-self c =
    let m = c.self.inside in
    let s : State = state_of m in
    let before = c.requires.0 in
    let number = c.requires.1 in
    let numbers = c.requires.2 in
    let taken = c.requires.3 in
    let at : IsAt before number c.args.place (Takes numbers) = c.requires.4 in
    let is : s.opened ≡ with_entry number (Takes (numbers ++ taken ∷ [])) before = subst (λ (t : State). t.opened ≡ with_entry number (Takes (numbers ++ taken ∷ [])) before) (sym c.self.view_is) c.requires.5 in
    let was = was_added before s.opened number c.args.place (Takes numbers) (Takes (numbers ++ taken ∷ [])) at is in
    let popped : c.pop_at.new.opened.items ≡ before = c.pop_at.ensures.takes number numbers taken was.item ∙ was.back in
    rw popped (take_undone s before number c.args.place numbers taken m.open_puts m.staged_puts (vec_capacity m.items) (vec_capacity m.staged) m.free_from c.self.invariant at is)

pub returns : goal.returns
returns c = λ before number numbers taken at is'.
    let m = c.self.inside in
    let s : State = state_of m in
    let is : s.opened ≡ with_entry number (Takes (numbers ++ taken ∷ [])) before = subst (λ (t : State). t.opened ≡ with_entry number (Takes (numbers ++ taken ∷ [])) before) (sym c.self.view_is) is' in
    let was = was_added before s.opened number c.args.place (Takes numbers) (Takes (numbers ++ taken ∷ [])) at is in
    let popped : c.pop_at.new.opened.items ≡ before = c.pop_at.ensures.takes number numbers taken was.item ∙ was.back in
    rw (← c.self.view_is, popped) refl
