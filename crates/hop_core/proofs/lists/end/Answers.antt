use Rattle.std.proofs.Common.{◌∙◌, sym}
use Rattle.hop_core.proofs.Live.{live_read, live_past}
use Rattle.hop_core.proofs.lists.end.Goals as goal

pub returns-then-place-list-clause-one : goal.returns-then-place-list-clause-one
returns-then-place-list-clause-one g c =
    c.take.ensures.value ∙ (sym c.index-list-place.is ∙ sym (live_read c.args.list.now c.args.number c.index-list-place.result c.if-place-list.true c.index-list-place.is))

pub returns-else-place-list-clause-one : goal.returns-else-place-list-clause-one
returns-else-place-list-clause-one g c = sym (live_past c.args.list.now c.args.number c.if-place-list.false)
