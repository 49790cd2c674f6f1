use Rattle.std.proofs.Common.{◌≡◌, ◌∙◌, ap, sym, take, drop, suc, string_bytes, add-one, arith}
use Rattle.std.proofs.lemmas.List.{take_all, get_or_read}
use Rattle.std.proofs.lemmas.Slice.Eq.{bytes_eq-Decides}
use Rattle.std.proofs.lemmas.Bool.{false≢true}
use Rattle.plan_objects.specs.Named.{HasNone}
use Rattle.plan_objects.specs.declared.named.Named.{Named}
use Rattle.plan_objects.proofs.Names.{none_more, about}
use Rattle.plan_objects.proofs.named.claim.Goals as goal

pub returns : goal.returns
returns g c =
    let xs = c.loop-place.held.items in
    let all : take c.loop-place.place xs ≡ xs = take_all _ _ (omega arith) in
    let none : HasNone c.args.name.now xs = rw all at c.loop-place.invariant.0 in
    (rw (sym c.loop-place.invariant.1) none, c.loop-place.invariant.1)

pub returns-then-eq : goal.returns-then-eq
returns-then-eq g c =
    let xs = c.loop-place.held.items in
    let i = c.loop-place.place in
    let x = c.index.result.now in
    let named : string_bytes x.name ≡ c.args.name.now = sym c.as_str.ensures.value ∙ (bytes_eq-Decides c.as_str.result.now c.args.name.now).0 (sym c.eq.ensures ∙ c.if-eq.true) in
    let given : c.remove-object.result.object ≡ x.object = ap (λ (n : Named g.row.T.Denot). n.object) (get_or_read xs i c.remove-object.result (omega arith) c.remove-object.ensures.value x ∙ sym c.index.ensures) in
    (take i xs, drop (suc i) xs, x, sym c.loop-place.invariant.1 ∙ about xs i x (omega arith) c.index.ensures, c.loop-place.invariant.0, named, given, rw add-one at c.remove-object.ensures.by_index.2)

pub loop-place-preserved : goal.loop-place-preserved
loop-place-preserved g c =
    let xs = c.loop-place.held.items in
    let i = c.loop-place.place in
    let x = c.index.result.now in
    let other : string_bytes x.name ≡ c.args.name.now → ⊥ = λ same. false≢true (sym c.if-eq.false ∙ c.eq.ensures ∙ (bytes_eq-Decides c.as_str.result.now c.args.name.now).1 (c.as_str.ensures.value ∙ same)) in
    (rw add-one (none_more c.args.name.now xs i x (omega arith) c.index.ensures c.loop-place.invariant.0 other), c.loop-place.invariant.1)
