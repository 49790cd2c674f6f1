use Rattle.std.proofs.Common.{◌∙◌, ◌+◌, ℕ, List, drop}
use Rattle.event_core.specs.Journal.{without}
use Rattle.channel_face.specs.Machine.{entries}
use Rattle.txn_core.specs.Sound.{held_numbers}
use Rattle.txn_core.proofs.Fronts.{is_there, left_from}
use Rattle.txn_core.proofs.Taken.{without_next}
use Rattle.txn_core.proofs.settle.first_free.Goals as goal

pub returns-then-place-items-clause-found : goal.returns-then-place-items-clause-found
returns-then-place-items-clause-found c =
    let items = c.args.items.now in
    let place = c.free_place-place.result in
    let numbers : List ℕ = held_numbers c.args.opened.now (entries c.args.staged.now) in
    let there = is_there items place c.if-place-items.true in
    (there.0, without numbers (drop (place + 1) items), there.1, left_from numbers items place c.free_place-place.ensures.front ∙ without_next numbers items place there.0 there.1 (c.free_place-place.ensures.free there.0 there.1))
