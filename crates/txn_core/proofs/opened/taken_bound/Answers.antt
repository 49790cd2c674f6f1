use Rattle.std.proofs.Common.{◌≡◌, length, slice_get, Some, refl}
use Rattle.std.proofs.lemmas.Option.{slice_get_read}
use Rattle.txn_core.proofs.Fronts.{none_above}
use Rattle.txn_core.proofs.opened.taken_bound.Goals as goal

pub loop-place-preserved : goal.loop-place-preserved
loop-place-preserved c =
    let staged = c.args.staged.now in
    let place = c.loop-place.place in
    let o = c.index-staged-place.result in
    let at : slice_get staged place ≡ Some o = slice_get_read staged (length staged) place o refl c.loop-place-test.true c.index-staged-place.is in
    λ n among. none_above staged place c.loop-place.most c.take_bound-most.result o at c.take_bound-most.ensures.least c.take_bound-most.ensures.takes n (c.loop-place.invariant n among)
