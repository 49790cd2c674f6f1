use Rattle.std.proofs.Common.{None}
use Rattle.std.proofs.lemmas.List.Edits.{map_over_more}
use Rattle.hop_core.proofs.lists.end_all.Goals as goal

pub loop-place-preserved : goal.loop-place-preserved
loop-place-preserved g c =
    map_over_more (λ x. None) c.args.list.now c.loop-place.list c.loop-place.place c.index-list-place.result c.loop-place-test.true c.loop-place.invariant c.index-list-place.is
