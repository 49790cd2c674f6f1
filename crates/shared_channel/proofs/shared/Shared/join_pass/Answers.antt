use Rattle.std.proofs.Common.{rules, ◌≡◌, [], ◌∷◌, subst, sym, ℕ, List}
use Rattle.channel_lock.specs.Views.{View, both, joined}
use Rattle.shared_channel.specs.Passes.{IsPass}
use Rattle.shared_channel.proofs.Turning.{pass_joined}
use Rattle.shared_channel.proofs.shared.Shared.join_pass.Goals as goal

pub invariant_of-into : goal.invariant_of-into
invariant_of-into g c =
    let v = c.into_seat-seat.result.me.0 in
    let w = c.into_seat.result.me.0 in
    let j = c.join.new.into.me.0 in
    let was : c.into.inside.badge.views ≡ v ∷ [] = search rules in
    let from : c.from.inside.badge.views ≡ w ∷ [] = search rules in
    let is : j ≡ joined (both v w) = search rules in
    let whole : IsPass (j ∷ []) c.into.inside.number _ _ =
    pass_joined v w j c.into.inside.number c.from.inside.number c.into.inside.calls c.from.inside.calls c.into.inside.marks.items c.from.inside.marks.items c.add_marks.new.into.items
    (subst (λ (l : List View). IsPass l c.into.inside.number c.into.inside.calls c.into.inside.marks.items) was c.into.invariant)
    (subst (λ (l : List View). IsPass l c.from.inside.number c.from.inside.calls c.from.inside.marks.items) from c.from.invariant)
    is c.join.ensures.numbers c.add_marks.ensures.each c.add_marks.ensures.same in
    subst (λ (l : List View). IsPass l c.into.inside.number c.max-into-inside.result c.add_marks.new.into.items) (sym c.into_badge.ensures.2)
    (subst (λ (n : ℕ). IsPass (j ∷ []) c.into.inside.number n c.add_marks.new.into.items) (sym c.max-into-inside.ensures) whole)
