use Rattle.std.proofs.Common.{rules, ◌≡◌, ◌++◌, ◌∷◌, [], take, slice_set, Some, None, subst, sym}
use Rattle.std.specs.Vec.{vec_capacity}
use Rattle.event_core.specs.declared.journal.Entry.TheVariants.{Takes}
use Rattle.channel_face.specs.Machine.{State, entries, take_refusal}
use Rattle.txn_core.specs.Places.{IsAt}
use Rattle.txn_core.specs.View.{state_of}
use Rattle.txn_core.proofs.Fronts.{covers_more, held_set}
use Rattle.txn_core.proofs.Kept.{take_added}
use Rattle.txn_core.proofs.lists.ChannelLists.add_take.Goals as goal

pub invariant_of-self-2 : goal.invariant_of-self-2
invariant_of-self-2 c =
    let m = c.self.inside in
    let s : State = state_of m in
    let number = c.requires.0 in
    let numbers = c.requires.1 in
    let both : IsAt s.opened number c.args.place (Takes numbers) × (take_refusal s (Some numbers) ≡ None) =
    subst (λ (v : State). IsAt v.opened number c.args.place (Takes numbers) × (take_refusal v (Some numbers) ≡ None)) (sym c.self.view_is) (c.requires.2, c.requires.3) in
    let pushed : c.push_take_at.new.opened.items ≡ slice_set m.opened.items c.args.place (number, Takes (numbers ++ c.args.taken ∷ [])) = let i = both.0.item in search rules in
    let held = rw (c.deref.ensures.value, c.deref-2.ensures.value, c.deref-3.ensures.value, pushed) at c.free_place-self-inside.ensures.front in
    rw pushed (take_added s number c.args.place numbers c.args.taken m.open_puts m.staged_puts (vec_capacity m.items) (vec_capacity m.staged) m.free_from c.free_place-self-inside.result c.self.invariant both.0 both.1 held)

pub push_take_at-requires : goal.push_take_at-requires
push_take_at-requires c =
    let m = c.self.inside in
    let s : State = state_of m in
    let number = c.requires.0 in
    let numbers = c.requires.1 in
    let both : IsAt s.opened number c.args.place (Takes numbers) × (take_refusal s (Some numbers) ≡ None) =
    subst (λ (v : State). IsAt v.opened number c.args.place (Takes numbers) × (take_refusal v (Some numbers) ≡ None)) (sym c.self.view_is) (c.requires.2, c.requires.3) in
    (number, numbers, both.0.item)

pub free_place-self-inside-requires : goal.free_place-self-inside-requires
free_place-self-inside-requires c =
    let m = c.self.inside in
    let s : State = state_of m in
    let number = c.requires.0 in
    let numbers = c.requires.1 in
    let both : IsAt s.opened number c.args.place (Takes numbers) × (take_refusal s (Some numbers) ≡ None) =
    subst (λ (v : State). IsAt v.opened number c.args.place (Takes numbers) × (take_refusal v (Some numbers) ≡ None)) (sym c.self.view_is) (c.requires.2, c.requires.3) in
    let pushed : c.push_take_at.new.opened.items ≡ slice_set m.opened.items c.args.place (number, Takes (numbers ++ c.args.taken ∷ [])) = let i = both.0.item in search rules in
    rw (c.deref.ensures.value, c.deref-2.ensures.value, c.deref-3.ensures.value, pushed)
    (held_set m.opened.items c.args.place (number, Takes numbers) (number, Takes (numbers ++ c.args.taken ∷ [])) (entries m.staged.items) (take m.free_from m.items.items) both.0.item (covers_more numbers c.args.taken) c.self.invariant.front)
