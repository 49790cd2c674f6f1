use Rattle.std.proofs.Common.{◌≡◌, ◌∙◌, ◌<◌, ◌≤◌, ◌+◌, ◌-◌, ◌++◌, ◌∷◌, [], ℕ, take, arith, subst, sym, ap, refl}
use Rattle.std.specs.Vec.{vec_capacity}
use Rattle.event_core.specs.declared.journal.Entry.{Entry}
use Rattle.channel_face.specs.Machine.{State, entries}
use Rattle.txn_core.specs.Places.{IsAt}
use Rattle.txn_core.specs.View.{state_of}
use Rattle.txn_core.specs.Sound.{MayStage, size_of_entry}
use Rattle.txn_core.proofs.Counts.{size_put}
use Rattle.txn_core.proofs.Fronts.{held_ended}
use Rattle.txn_core.proofs.Kept.{closed, staged_one, puts_within}
use Rattle.txn_core.proofs.Kept.{stage_some, staged_last, length-entries}
use Rattle.txn_core.proofs.lists.ChannelLists.stage_at.Goals as goal

pub overflow_sub-self : goal.overflow_sub-self
overflow_sub-self c =
    let m = c.self.inside in
    let s : State = state_of m in
    let number = c.requires.0 in
    let entry = c.requires.1 in
    let both : IsAt s.opened number c.args.place entry × MayStage s entry = subst (λ (v : State). IsAt v.opened number c.args.place entry × MayStage v entry) (sym c.self.view_is) (c.requires.2, c.requires.3) in
    let at : IsAt s.opened number c.args.place entry = both.0 in
    let may : MayStage s entry = both.1 in
    let is : c.remove_at-entry.result ≡ (number, entry) = c.remove_at-entry.ensures.item (number, entry) at.item in
    let fits : size_put entry ≤ m.open_puts = puts_within s number c.args.place entry m.open_puts m.staged_puts (vec_capacity m.items) (vec_capacity m.staged) m.free_from c.self.invariant at in
    let count : c.put_count-puts.result ≡ size_put entry = c.put_count-puts.ensures ∙ ap (λ (o : ℕ × Entry). size_put o.1) is in
    rw count fits

pub invariant_of-self : goal.invariant_of-self
invariant_of-self c =
    let m = c.self.inside in
    let s : State = state_of m in
    let number = c.requires.0 in
    let entry = c.requires.1 in
    let both : IsAt s.opened number c.args.place entry × MayStage s entry = subst (λ (v : State). IsAt v.opened number c.args.place entry × MayStage v entry) (sym c.self.view_is) (c.requires.2, c.requires.3) in
    let at : IsAt s.opened number c.args.place entry = both.0 in
    let may : MayStage s entry = both.1 in
    let is : c.remove_at-entry.result ≡ (number, entry) = c.remove_at-entry.ensures.item (number, entry) at.item in
    let fits : size_put entry ≤ m.open_puts = puts_within s number c.args.place entry m.open_puts m.staged_puts (vec_capacity m.items) (vec_capacity m.staged) m.free_from c.self.invariant at in
    let count : c.put_count-puts.result ≡ size_put entry = c.put_count-puts.ensures ∙ ap (λ (o : ℕ × Entry). size_put o.1) is in
    let memory = may.memory in
    let puts = c.self.invariant.staged_puts_are in
    let room : vec_capacity m.staged ≤ vec_capacity c.push_within.new.list = c.push_within.ensures.capacity in
    let staged : entries c.push_within.new.list.items ≡ entries m.staged.items ++ entry ∷ [] = staged_last m.staged.items c.push_within.new.list.items c.remove_at-entry.result number entry c.push_within.ensures.items is in
    rw (c.remove_at-entry.ensures.rest, staged, count) (staged_one s number c.args.place entry m.open_puts (m.open_puts - size_put entry) m.staged_puts (m.staged_puts + size_put entry) (vec_capacity m.items) (vec_capacity m.staged) (vec_capacity c.push_within.new.list) m.free_from c.self.invariant at (omega (arith, fits)) refl room may.numbers (λ kind. omega (arith, memory kind, puts)))

pub invariant_of-self-else-size-gt0 : goal.invariant_of-self-else-size-gt0
invariant_of-self-else-size-gt0 c =
    let m = c.self.inside in
    let s : State = state_of m in
    let number = c.requires.0 in
    let entry = c.requires.1 in
    let both : IsAt s.opened number c.args.place entry × MayStage s entry = subst (λ (v : State). IsAt v.opened number c.args.place entry × MayStage v entry) (sym c.self.view_is) (c.requires.2, c.requires.3) in
    let at : IsAt s.opened number c.args.place entry = both.0 in
    let may : MayStage s entry = both.1 in
    let is : c.remove_at-entry.result ≡ (number, entry) = c.remove_at-entry.ensures.item (number, entry) at.item in
    let fits : size_put entry ≤ m.open_puts = puts_within s number c.args.place entry m.open_puts m.staged_puts (vec_capacity m.items) (vec_capacity m.staged) m.free_from c.self.invariant at in
    let count : c.put_count-puts.result ≡ size_put entry = c.put_count-puts.ensures ∙ ap (λ (o : ℕ × Entry). size_put o.1) is in
    let none : size_of_entry entry ≡ 0 = ap (λ (o : ℕ × Entry). size_of_entry o.1) (sym is) ∙ sym c.size.ensures ∙ omega (arith, c.if-size-gt0.false) in
    rw (c.remove_at-entry.ensures.rest, count) (closed s number c.args.place entry m.open_puts (m.open_puts - size_put entry) m.staged_puts (vec_capacity m.items) (vec_capacity m.staged) m.free_from m.free_from c.self.invariant at (omega (arith, fits)) (held_ended s.opened c.args.place (number, entry) s.staged (take m.free_from s.items) at.item none c.self.invariant.front))

pub invariant_of-self-else-size-gt0-2 : goal.invariant_of-self-else-size-gt0-2
invariant_of-self-else-size-gt0-2 c =
    let m = c.self.inside in
    let s : State = state_of m in
    let number = c.requires.0 in
    let entry = c.requires.1 in
    let both : IsAt s.opened number c.args.place entry × MayStage s entry = subst (λ (v : State). IsAt v.opened number c.args.place entry × MayStage v entry) (sym c.self.view_is) (c.requires.2, c.requires.3) in
    let at : IsAt s.opened number c.args.place entry = both.0 in
    let may : MayStage s entry = both.1 in
    let is : c.remove_at-entry.result ≡ (number, entry) = c.remove_at-entry.ensures.item (number, entry) at.item in
    let fits : size_put entry ≤ m.open_puts = puts_within s number c.args.place entry m.open_puts m.staged_puts (vec_capacity m.items) (vec_capacity m.staged) m.free_from c.self.invariant at in
    let count : c.put_count-puts.result ≡ size_put entry = c.put_count-puts.ensures ∙ ap (λ (o : ℕ × Entry). size_put o.1) is in
    let none : size_of_entry entry ≡ 0 = ap (λ (o : ℕ × Entry). size_of_entry o.1) (sym is) ∙ sym c.size.ensures ∙ omega (arith, c.if-size-gt0.false) in
    rw (c.remove_at-entry.ensures.rest, count) (closed s number c.args.place entry m.open_puts (m.open_puts - size_put entry) m.staged_puts (vec_capacity m.items) (vec_capacity m.staged) m.free_from m.free_from c.self.invariant at (omega (arith, fits)) (held_ended s.opened c.args.place (number, entry) s.staged (take m.free_from s.items) at.item none c.self.invariant.front))

pub returns-then-size-gt0 : goal.returns-then-size-gt0
returns-then-size-gt0 c = λ number entry at'.
    let m = c.self.inside in
    let s : State = state_of m in
    let at : IsAt s.opened number c.args.place entry = subst (λ (v : State). IsAt v.opened number c.args.place entry) (sym c.self.view_is) at' in
    let is : c.remove_at-entry.result ≡ (number, entry) = c.remove_at-entry.ensures.item (number, entry) at.item in
    let some : 0 < size_of_entry entry = subst (λ (o : ℕ × Entry). 0 < size_of_entry o.1) is (subst (λ (n : ℕ). 0 < n) c.size.ensures c.if-size-gt0.true) in
    let staged : entries c.push_within.new.list.items ≡ entries m.staged.items ++ entry ∷ [] = staged_last m.staged.items c.push_within.new.list.items c.remove_at-entry.result number entry c.push_within.ensures.items is in
    rw (← c.self.view_is, stage_some s number entry some, c.remove_at-entry.ensures.rest, staged, at.rest) refl

pub push_within-requires : goal.push_within-requires
push_within-requires c =
    let m = c.self.inside in
    let s : State = state_of m in
    let at : IsAt s.opened c.requires.0 c.args.place c.requires.1 = subst (λ (v : State). IsAt v.opened c.requires.0 c.args.place c.requires.1) (sym c.self.view_is) c.requires.2 in
    omega (arith, c.self.invariant.places, at.in_range, length-entries m.staged.items)
