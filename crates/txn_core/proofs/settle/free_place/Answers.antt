use Rattle.std.proofs.Common.{rules, ◌≡◌, ℕ, List, length, slice_get, Some, true, refl}
use Rattle.std.proofs.lemmas.Option.{slice_get_read}
use Rattle.event_core.specs.Journal.{is_among}
use Rattle.channel_face.specs.Machine.{entries}
use Rattle.txn_core.specs.Sound.{held_numbers}
use Rattle.txn_core.proofs.Fronts.{held_next, none_beyond}
use Rattle.txn_core.proofs.settle.free_place.Goals as goal

pub loop-place-preserved : goal.loop-place-preserved
loop-place-preserved c =
    let items = c.args.items.now in
    let place = c.loop-place.place in
    let item = c.index-items-place.result in
    let numbers : List ℕ = held_numbers c.args.opened.now (entries c.args.staged.now) in
    let at : slice_get items place ≡ Some item = slice_get_read items (length items) place item refl c.loop-place-test.true c.index-items-place.is in
    let taken : is_among numbers item.0 ≡ true = search rules in
    held_next numbers items place item at taken c.loop-place.invariant

pub returns-clause-free : goal.returns-clause-free
returns-clause-free c = λ item is. absurd (none_beyond c.args.items.now item is)
