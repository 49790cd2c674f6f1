use Rattle.std.proofs.Common.{◌∙◌, sym}
use Rattle.hop_core.proofs.Live.{live_read, live_past}
use Rattle.hop_core.proofs.lists.live.Goals as goal

pub returns-then-place-list : goal.returns-then-place-list
returns-then-place-list g c = c.as_ref.ensures.value ∙ sym (live_read c.args.list.now c.args.number c.index-list-place.result c.if-place-list.true c.index-list-place.is)

pub returns-else-place-list : goal.returns-else-place-list
returns-else-place-list g c = sym (live_past c.args.list.now c.args.number c.if-place-list.false)
