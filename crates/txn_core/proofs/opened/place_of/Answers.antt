use Rattle.std.proofs.Common.{rules, ◌≡◌, ℕ, length, slice_get, Some, ◌==◌, false, arith, refl, subst}
use Rattle.std.proofs.lemmas.Option.{slice_get_read}
use Rattle.txn_core.specs.Places.{NoneBefore}
use Rattle.txn_core.proofs.OpenLists.{found, none, one_more}
use Rattle.txn_core.proofs.opened.place_of.Goals as goal

pub returns-then-number-clause-found : goal.returns-then-number-clause-found
returns-then-number-clause-found c =
    let o = c.index-opened-place.result in
    let is : slice_get c.args.opened.now c.loop-place.place ≡ Some o = slice_get_read c.args.opened.now (length c.args.opened.now) c.loop-place.place o refl c.loop-place-test.true c.index-opened-place.is in
    let same : o.0 ≡ c.args.number = search rules in
    (o.1, found c.args.opened.now c.args.number c.loop-place.place o.1 c.loop-place.invariant (subst (λ (n : ℕ). slice_get c.args.opened.now c.loop-place.place ≡ Some (n, o.1)) same is))

pub loop-place-preserved : goal.loop-place-preserved
loop-place-preserved c =
    let o = c.index-opened-place.result in
    let is : slice_get c.args.opened.now c.loop-place.place ≡ Some o = slice_get_read c.args.opened.now (length c.args.opened.now) c.loop-place.place o refl c.loop-place-test.true c.index-opened-place.is in
    let not_here : (o.0 == c.args.number) ≡ false = search rules in
    one_more c.args.opened.now c.args.number c.loop-place.place o c.loop-place.invariant is not_here

pub returns-clause-none : goal.returns-clause-none
returns-clause-none c = let all : c.loop-place.place ≡ length c.args.opened.now = grind arith in none c.args.opened.now c.args.number (subst (NoneBefore c.args.opened.now c.args.number) all c.loop-place.invariant)
